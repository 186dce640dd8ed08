-- `producers::Checker::check_body` meets its contract.
use Rattle.limits.proofs.Answering.{replied_ok, replied_err, refuses}
use Rattle.limits.proofs.Monad.{then_on, then_stop}
use Rattle.producers.specs.Producer.{check_body}
use Rattle.producers.proofs.Checker.check_body.Goals as goal

pub returns-in_err-check_each : goal.returns-in_err-check_each
unfolding check_body
returns-in_err-check_each c = refuses _ _ c.from_residual.ensures.1 (then_stop _ _ _ (replied_err c.check_each.ensures c.in_err-check_each.was))

pub returns : goal.returns
unfolding check_body
returns c = then_on _ _ _ (replied_ok c.check_each.ensures c.in_ok-check_each.was) c.check_each-2.ensures
