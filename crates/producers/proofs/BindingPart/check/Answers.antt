-- `producers::Binding::check` meets its contract.
use Rattle.limits.proofs.Answering.{replied_ok, replied_err, refuses}
use Rattle.limits.proofs.Monad.{then_on, then_stop}
use Rattle.producers.proofs.BindingPart.check.Goals as goal

pub returns-in_err-check_expression-in-Assign : goal.returns-in_err-check_expression-in-Assign
returns-in_err-check_expression-in-Assign c = refuses _ _ c.from_residual.ensures.1 (rw c.in-Assign.is (then_stop _ _ _ (replied_err c.check_expression.ensures c.in_err-check_expression-in-Assign.was)))

pub returns-in_err-check_pair-in-Range : goal.returns-in_err-check_pair-in-Range
returns-in_err-check_pair-in-Range c = refuses _ _ c.from_residual-in_err-check_pair-in-Range.ensures.1 (rw c.in-Range.is (then_stop _ _ _ (replied_err c.check_pair.ensures c.in_err-check_pair-in-Range.was)))

pub returns-in_ok-check_expression-in-Assign : goal.returns-in_ok-check_expression-in-Assign
returns-in_ok-check_expression-in-Assign c = rw c.in-Assign.is (then_on _ _ _ (replied_ok c.check_expression.ensures c.in_ok-check_expression-in-Assign.was) c.check_slot-in-Assign.ensures)

pub returns-in_ok-check_pair-in-Range : goal.returns-in_ok-check_pair-in-Range
returns-in_ok-check_pair-in-Range c = rw c.in-Range.is (then_on _ _ _ (replied_ok c.check_pair.ensures c.in_ok-check_pair-in-Range.was) c.check_slot-in-Range.ensures)
