-- `evaluation::Scene::slot` meets its contract.
use Rattle.limits.proofs.Answering.{exits}
use Rattle.limits.proofs.Seen.{seen_went, seen_broke}
use Rattle.evaluation.proofs.Operands.{copy_stopped, slot_narrowed, slot_seen, slot_stopped}
use Rattle.evaluation.proofs.Scene.slot.Goals as goal

pub returns-in_err-copied_at : goal.returns-in_err-copied_at
returns-in_err-copied_at c = exits _ c.from_residual.ensures.1 (copy_stopped _ _ _ _ _ _ (seen_broke _ c.copied_at.ensures c.in_err-copied_at.was))

pub returns-in-Ok-Some : goal.returns-in-Ok-Some
returns-in-Ok-Some c =
    slot_narrowed _ _ _ _ _ _ (seen_went _ c.copied_at.ensures c.in_ok-copied_at.was)
    (rw c.in-Ok-Some.field-0-is at c.in-Ok-Some.ensures.place) (rw c.in-Ok-Some.field-0-is at c.in-Ok-Some.ensures.within) c.restriction_at-restriction.ensures c.narrow_slot.ensures

pub returns-in-Ok-None : goal.returns-in-Ok-None
returns-in-Ok-None c =
    slot_seen _ _ _ _ _ _ (seen_went _ c.copied_at.ensures c.in_ok-copied_at.was)
    (rw c.in-Ok-None.field-0-is at c.in-Ok-None.ensures.place) c.bound_at.ensures c.entries_at-listed.ensures

pub returns-in-Err : goal.returns-in-Err
returns-in-Err c =
    slot_stopped _ _ _ _ _ _ (seen_went _ c.copied_at.ensures c.in_ok-copied_at.was)
    c.in-Err.ensures.place c.entries_at-listed.ensures c.release.ensures
