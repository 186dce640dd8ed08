-- `guards::guard` meets its contract.
use mathlib.Core.Path.{sym}
use Rattle.limits.proofs.Answering.{exits, answered_lost, answered_kept}
use Rattle.limits.proofs.Monad.{then_stop, then_on, through_stop, through_on}
use Rattle.slots.specs.Slots.{copies}
use Rattle.guards.specs.Guards.{guard_all, guard}
use Rattle.guards.proofs.guard.Goals as goal

pub returns-in_err-copy_rows : goal.returns-in_err-copy_rows
unfolding guard
returns-in_err-copy_rows c =
    rw (← c.slots_at-count.ensures) (exits _ c.from_residual.ensures.1 (then_stop _ _ _ (through_stop _ _ _ _ (copies _ _ _) _ c.in_err-copy_rows.ensures)))

pub returns-then-is_err : goal.returns-then-is_err
unfolding guard
returns-then-is_err c =
    rw (← c.slots_at-count.ensures, c.drop_rows.ensures)
    (then_on _ _ _ (through_on _ _ _ _ (copies _ _ _) _ c.in_ok-copy_rows.ensures)
    (answered_lost _ (guard_all _ _) _ _ _ c.guard_rows-guarded.ensures (sym c.if-is_err.ensures.value)))

pub returns-else-is_err : goal.returns-else-is_err
unfolding guard
returns-else-is_err c =
    rw (← c.slots_at-count.ensures)
    (then_on _ _ _ (through_on _ _ _ _ (copies _ _ _) _ c.in_ok-copy_rows.ensures)
    (answered_kept _ (guard_all _ _) _ _ _ c.guard_rows-guarded.ensures (sym c.if-is_err.ensures.value)))
