-- `thresholds::pay` meets its contract.
use Rattle.std.proofs.lemmas.Result.{err_from_is_err_and}
use Rattle.limits.specs.Budget.{work, links}
use Rattle.limits.proofs.Monad.{then_stop, then_on}
use Rattle.thresholds.specs.Thresholds.{cost}
use Rattle.thresholds.proofs.pay.Goals as goal

pub returns-in_err-pay : goal.returns-in_err-pay
unfolding cost
returns-in_err-pay c = let p = err_from_is_err_and c.from_residual.result c.from_residual.ensures.1 in rw (p.1, p.2) (then_stop (work _) _ (links 1) c.in_err-pay.ensures)

pub returns : goal.returns
unfolding cost
returns c = then_on (work _) _ (links 1) c.in_ok-pay.ensures c.pay-2.ensures
