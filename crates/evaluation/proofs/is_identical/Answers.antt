-- `evaluation::is_identical` meets its contract.
use Rattle.evaluation.proofs.CodeLaws.{other_operator, operands_same, operands_apart}
use Rattle.evaluation.proofs.is_identical.Goals as goal
use Rattle.evaluation.proofs.is_identical.Goals.{then-not-is_difference-via-then-not-is_difference, then-not-is_difference-via-else-not-is_difference+then-left-right}

pub returns-then-not-is_difference : goal.returns-then-not-is_difference
returns-then-not-is_difference c = elim c.then-not-is_difference.branch [
  | then-not-is_difference-via-then-not-is_difference w ↦ other_operator _ _ _ _ _ c.is_difference.ensures w.if-not-is_difference.true
  | then-not-is_difference-via-else-not-is_difference+then-left-right w ↦ operands_apart _ _ _ _ _ c.is_difference.ensures w.if-not-is_difference.false w.if-left-right.true
]

pub returns : goal.returns
returns c = operands_same _ _ _ _ _ c.is_difference.ensures c.if-not-is_difference.false c.if-left-right.false c.known_identity.ensures
