-- `evaluation::Input::combine` meets its contract.
use Rattle.limits.proofs.Answering.{went, broke, exits}
use Rattle.evaluation.proofs.CodeLaws.{combine_unpaid, left_empty, right_empty, same_stopped, same_zero, worked, open_ended}
use Rattle.evaluation.proofs.Input.combine.Goals as goal
use Rattle.evaluation.proofs.Input.combine.Goals.{then-is_empty-via-then-is_empty, then-is_empty-via-else-is_empty+then-is_empty-2}

pub returns-in_err-work : goal.returns-in_err-work
returns-in_err-work c = exits _ c.from_residual.ensures.1 (combine_unpaid _ _ _ _ _ _ _ _ (broke c.work.ensures c.in_err-work.was))

pub returns-then-is_empty : goal.returns-then-is_empty
returns-then-is_empty c = elim c.then-is_empty.branch [
  | then-is_empty-via-then-is_empty w ↦ left_empty _ _ _ _ _ _ _ _ (went c.work.ensures c.in_ok-work.was) c.is_empty.ensures w.if-is_empty.true
  | then-is_empty-via-else-is_empty+then-is_empty-2 w ↦ right_empty _ _ _ _ _ _ _ _ (went c.work.ensures c.in_ok-work.was) c.is_empty.ensures w.if-is_empty.false w.is_empty-else-is_empty.ensures w.if-is_empty-2.true
]

pub returns-in_err-is_identical : goal.returns-in_err-is_identical
returns-in_err-is_identical c =
    exits _ c.from_residual-in_err-is_identical.ensures.1
    (same_stopped _ _ _ _ _ _ _ _ (went c.work.ensures c.in_ok-work.was) c.is_empty.ensures c.if-is_empty.false c.is_empty-else-is_empty.ensures c.if-is_empty-2.false (broke c.is_identical.ensures c.in_err-is_identical.was))

pub returns-then-branch : goal.returns-then-branch
returns-then-branch c =
    same_zero _ _ _ _ _ _ _ _ (went c.work.ensures c.in_ok-work.was) c.is_empty.ensures c.if-is_empty.false c.is_empty-else-is_empty.ensures c.if-is_empty-2.false
    (rw c.if-branch.true at (went c.is_identical.ensures c.in_ok-is_identical.was))

pub returns-then-is_covered : goal.returns-then-is_covered
returns-then-is_covered c =
    worked _ _ _ _ _ _ _ _ (went c.work.ensures c.in_ok-work.was) c.is_empty.ensures c.if-is_empty.false c.is_empty-else-is_empty.ensures c.if-is_empty-2.false
    (rw c.if-branch.false at (went c.is_identical.ensures c.in_ok-is_identical.was)) c.is_covered.ensures c.if-is_covered.true c.binary.ensures

pub returns : goal.returns
returns c =
    open_ended _ _ _ _ _ _ _ _ (went c.work.ensures c.in_ok-work.was) c.is_empty.ensures c.if-is_empty.false c.is_empty-else-is_empty.ensures c.if-is_empty-2.false
    (rw c.if-branch.false at (went c.is_identical.ensures c.in_ok-is_identical.was)) c.is_covered.ensures c.if-is_covered.false
