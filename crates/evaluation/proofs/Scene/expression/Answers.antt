-- `evaluation::Scene::expression` meets its contract.
use mathlib.Core.Path.{◌∙◌}
use Rattle.limits.proofs.Answering.{went, broke}
use Rattle.limits.proofs.Seen.{seen_went, seen_broke, seen_exits}
use Rattle.lattice.specs.Value.{value_of}
use Rattle.evaluation.proofs.Operands.{after_stop, after_on, after_pure}
use Rattle.evaluation.proofs.CodeLaws.{unpaid, at_node, parent_seen}
use Rattle.evaluation.proofs.Scene.expression.Goals as goal
use Rattle.evaluation.proofs.Scene.expression.Goals.{in-Constant+in_ok-work-in-Constant+in_ok-value-in-Constant, in-Slot+in_ok-work-in-Slot+in_ok-value-in-Slot, in-Unknown+in_ok-work-in-Unknown}

pub returns-in_err-work-in-Constant : goal.returns-in_err-work-in-Constant
returns-in_err-work-in-Constant c =
    seen_exits value_of _ c.from_residual.ensures.1 (unpaid _ _ _ _ _ (broke c.work.ensures c.in_err-work-in-Constant.was))

pub returns-in_err-work-in-Slot : goal.returns-in_err-work-in-Slot
returns-in_err-work-in-Slot c =
    seen_exits value_of _ c.from_residual-in_err-work-in-Slot.ensures.1 (unpaid _ _ _ _ _ (broke c.work-in-Slot.ensures c.in_err-work-in-Slot.was))

pub returns-in_err-work-in-Unknown : goal.returns-in_err-work-in-Unknown
returns-in_err-work-in-Unknown c =
    seen_exits value_of _ c.from_residual-in_err-work-in-Unknown.ensures.1 (unpaid _ _ _ _ _ (broke c.work-in-Unknown.ensures c.in_err-work-in-Unknown.was))

pub returns-in_err-value-in-Constant : goal.returns-in_err-value-in-Constant
returns-in_err-value-in-Constant c =
    seen_exits value_of _ c.from_residual-in_err-value-in-Constant.ensures.1
    (after_stop _ (seen_broke value_of c.constant.ensures c.in_err-value-in-Constant.was) ∙ at_node _ _ _ _ _ (went c.work.ensures c.in_ok-work-in-Constant.was) c.expression_at.ensures c.in-Constant.is)

pub returns-in_err-value-in-Slot : goal.returns-in_err-value-in-Slot
returns-in_err-value-in-Slot c =
    seen_exits value_of _ c.from_residual-in_err-value-in-Slot.ensures.1
    (after_stop _ (seen_broke value_of (rw c.abstract_at.ensures at c.copied.ensures) c.in_err-value-in-Slot.was) ∙ at_node _ _ _ _ _ (went c.work-in-Slot.ensures c.in_ok-work-in-Slot.was) c.expression_at.ensures c.in-Slot.is)

pub returns-in_default : goal.returns-in_default
returns-in_default c =
    parent_seen _ _ _ _ _ c.expression_at.ensures (c.in_default.not-Constant, (c.in_default.not-Slot, c.in_default.not-Unknown)) (went c.as_operand.ensures c.in_ok-seen-in_default.was) c.numeric.ensures

pub returns : goal.returns
returns c = elim c.match-expression_at.branch [
  | in-Constant+in_ok-work-in-Constant+in_ok-value-in-Constant w ↦ (rw (w.value-is, w.meter-is) at c.restrict.ensures) ∙ after_on _ (seen_went value_of w.constant.ensures w.in_ok-value-in-Constant.was) ∙ at_node _ _ _ _ _ (went w.work.ensures w.in_ok-work-in-Constant.was) c.expression_at.ensures w.in-Constant.is
  | in-Slot+in_ok-work-in-Slot+in_ok-value-in-Slot w ↦ (rw (w.value-is, w.meter-is) at c.restrict.ensures) ∙ after_on _ (seen_went value_of (rw w.abstract_at.ensures at w.copied.ensures) w.in_ok-value-in-Slot.was) ∙ at_node _ _ _ _ _ (went w.work-in-Slot.ensures w.in_ok-work-in-Slot.was) c.expression_at.ensures w.in-Slot.is
  | in-Unknown+in_ok-work-in-Unknown w ↦ (rw (w.value-is, w.meter-is) at c.restrict.ensures) ∙ after_pure _ w.unknown-value.ensures ∙ at_node _ _ _ _ _ (went w.work-in-Unknown.ensures w.in_ok-work-in-Unknown.was) c.expression_at.ensures w.in-Unknown.is
]
