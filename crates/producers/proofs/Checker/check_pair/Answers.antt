-- `producers::Checker::check_pair` meets its contract.
use Rattle.limits.proofs.Answering.{replied_ok, replied_err, refuses}
use Rattle.limits.proofs.Monad.{then_on, then_stop}
use Rattle.producers.specs.Producer.{check_pair}
use Rattle.producers.proofs.Checker.check_pair.Goals as goal

pub returns-in_err-check_expression : goal.returns-in_err-check_expression
unfolding check_pair
returns-in_err-check_expression c = refuses _ _ c.from_residual.ensures.1 (then_stop _ _ _ (replied_err c.check_expression.ensures c.in_err-check_expression.was))

pub returns : goal.returns
unfolding check_pair
returns c = then_on _ _ _ (replied_ok c.check_expression.ensures c.in_ok-check_expression.was) c.check_expression-2.ensures
