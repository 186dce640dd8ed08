-- `store::Store::pay` meets its contract.
use Rattle.limits.specs.Budget.{charge}
use Rattle.limits.proofs.Answering.{went, broke, limits}
use Rattle.store.proofs.CodeLaws.{charge_on, charge_off}
use Rattle.store.proofs.Store.pay.Goals as goal

pub returns-in_err-pay : goal.returns-in_err-pay
returns-in_err-pay c = limits _ _ c.from_residual.ensures.1 (charge_off (charge c.args.resource c.args.amount) c.args.self.now (broke c.pay.ensures c.in_err-pay.was))

pub returns : goal.returns
returns c = charge_on (charge c.args.resource c.args.amount) c.args.self.now (went c.pay.ensures c.in_ok-pay.was)
