-- `store::declare` meets its contract.
use Rattle.limits.proofs.Monad.{then_on, then_stop}
use Rattle.limits.proofs.Answering.{went, broke, exits}
use Rattle.store.proofs.CodeLaws.{declare_all, declare_none}
use Rattle.store.proofs.declare.Goals as goal

pub returns-in_err-pay : goal.returns-in_err-pay
returns-in_err-pay c = exits _ c.from_residual.ensures.1 (declare_none _ _ (then_stop _ _ _ (broke c.pay.ensures c.in_err-pay.was)))

pub returns-in_err-pay-2 : goal.returns-in_err-pay-2
returns-in_err-pay-2 c = exits _ c.from_residual-in_err-pay-2.ensures.1 (declare_none _ _ (then_on _ _ _ (went c.pay.ensures c.in_ok-pay.was) (then_stop _ _ _ (broke c.pay-2.ensures c.in_err-pay-2.was))))

pub returns-in_err-pay-3 : goal.returns-in_err-pay-3
returns-in_err-pay-3 c = exits _ c.from_residual-in_err-pay-3.ensures.1 (declare_none _ _ (then_on _ _ _ (went c.pay.ensures c.in_ok-pay.was) (then_on _ _ _ (went c.pay-2.ensures c.in_ok-pay-2.was) (broke c.pay-3.ensures c.in_err-pay-3.was))))

pub returns : goal.returns
returns c = declare_all _ _ (then_on _ _ _ (went c.pay.ensures c.in_ok-pay.was) (then_on _ _ _ (went c.pay-2.ensures c.in_ok-pay-2.was) (went c.pay-3.ensures c.in_ok-pay-3.was)))
