-- `bindings::meet_binding` meets its contract.
use Rattle.limits.proofs.Answering.{exits}
use Rattle.limits.proofs.Monad.{pure_is, bind_stop, bind_on, through_stop, through_on}
use Rattle.bindings.specs.Bindings.{meeting}
use Rattle.bindings.proofs.meet_binding.Goals as goal

pub returns-in-Positive : goal.returns-in-Positive
returns-in-Positive c = rw c.in-Positive.is (pure_is _ _)

pub returns-in_err-value-in-Assign : goal.returns-in_err-value-in-Assign
unfolding meeting
returns-in_err-value-in-Assign c = exits _ c.from_residual.ensures.1 (rw c.in-Assign.is (bind_stop _ _ _ (through_stop _ _ _ _ _ _ c.in_err-value-in-Assign.ensures)))

pub returns-in_ok-value-in-Assign : goal.returns-in_ok-value-in-Assign
unfolding meeting
returns-in_ok-value-in-Assign c = rw c.in-Assign.is (bind_on _ _ _ (through_on _ _ _ _ _ _ c.in_ok-value-in-Assign.ensures) c.meet_owned.ensures)

pub returns-in_err-value-in-Range : goal.returns-in_err-value-in-Range
unfolding meeting
returns-in_err-value-in-Range c = exits _ c.from_residual-in_err-value-in-Range.ensures.1 (rw c.in-Range.is (bind_stop _ _ _ (through_stop _ _ _ _ _ _ c.in_err-value-in-Range.ensures)))

pub returns-in_ok-value-in-Range : goal.returns-in_ok-value-in-Range
unfolding meeting
returns-in_ok-value-in-Range c = rw c.in-Range.is (bind_on _ _ _ (through_on _ _ _ _ _ _ c.in_ok-value-in-Range.ensures) c.meet_owned-in-Range.ensures)

pub returns-in-Aggregate : goal.returns-in-Aggregate
returns-in-Aggregate c = rw (c.in-Aggregate.is, ← c.aggregate-value.ensures) c.meet_owned-in-Aggregate.ensures
