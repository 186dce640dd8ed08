-- `bindings::bind` meets its contract.
use mathlib.Core.Path.{sym, ◌∙◌}
use Rattle.limits.proofs.Answering.{exits, answered_lost, answered_kept}
use Rattle.limits.proofs.Monad.{then_stop, then_on}
use Rattle.bindings.specs.Bindings.{three_passes, bind}
use Rattle.bindings.proofs.bind.Goals as goal

pub returns-in_err-fill_tops : goal.returns-in_err-fill_tops
unfolding bind
returns-in_err-fill_tops c = rw (← c.slots_at-count.ensures) (exits _ c.from_residual.ensures.1 (then_stop _ _ _ c.in_err-fill_tops.ensures))

pub returns-then-is_err : goal.returns-then-is_err
unfolding bind
returns-then-is_err c =
    rw (← c.slots_at-count.ensures, c.drop_rows.ensures)
    (then_on _ _ _ c.in_ok-fill_tops.ensures (answered_lost _ (three_passes _ _ _) _ _ _ c.bind_rows-bound.ensures (sym c.is_err.ensures.value ∙ c.if-is_err.true)))

pub returns-else-is_err : goal.returns-else-is_err
unfolding bind
returns-else-is_err c =
    rw (← c.slots_at-count.ensures) (then_on _ _ _ c.in_ok-fill_tops.ensures (answered_kept _ (three_passes _ _ _) _ _ _ c.bind_rows-bound.ensures (sym c.is_err.ensures.value ∙ c.if-is_err.false)))
