-- `producers::charge_rule` meets its contract.
use Rattle.limits.proofs.Answering.{replied_ok, replied_err, refuses}
use Rattle.producers.proofs.CodeLaws.{cost_unpaid, cost_paid}
use Rattle.producers.proofs.charge_rule.Goals as goal

pub returns-in_err-pay : goal.returns-in_err-pay
returns-in_err-pay c = refuses _ _ c.from_residual.ensures.1 (cost_unpaid c.args.rule.now c.args.store.now _ (replied_err c.pay.ensures c.in_err-pay.was))

pub returns : goal.returns
returns c = cost_paid c.args.rule.now c.args.store.now (replied_ok c.pay.ensures c.in_ok-pay.was) c.pay-2.ensures
