-- `numeric::slot` meets its contract.
use native.Mathlib.Omega.{arith}
use mathlib.Core.Path.{sym, ◌∙◌}
use lib.ListN.{length}
use Rattle.numeric.specs.Reading.{slot_reading}
use Rattle.numeric.proofs.ReadingLaws.{in_table, slots_long, place_fits, turned_down, not_read}
use Rattle.numeric.proofs.slot.Goals as goal

pub returns-in_err-readable : goal.returns-in_err-readable
unfolding slot_reading
returns-in_err-readable c = not_read _ _ _ c.from_residual.ensures.1 (turned_down c.args.store.now _ _ (rw c.is_slots_sized.ensures at c.readable.ensures) c.in_err-readable.was)

pub bound_place-place-requires : goal.bound_place-place-requires
bound_place-place-requires c = in_table c.args.rules.now c.args.rule c.args.slot (length c.args.slots.now) c.args.store.now.phase (sym (rw c.is_slots_sized.ensures at c.readable.ensures) ∙ c.in_ok-readable.was) (rw c.slots_at.ensures at c.if-slots_at-slot.false)

pub read_bound-requires : goal.read_bound-requires
read_bound-requires c =
    let t = in_table c.args.rules.now c.args.rule c.args.slot (length c.args.slots.now) c.args.store.now.phase (sym (rw c.is_slots_sized.ensures at c.readable.ensures) ∙ c.in_ok-readable.was) (rw c.slots_at.ensures at c.if-slots_at-slot.false) in
    omega (arith, place_fits c.args.rule c.args.slot c.args.after c.bound_place-place.ensures t.0 t.1, slots_long (length c.args.rules.now) (length c.args.slots.now) c.args.store.now.phase (sym (rw c.is_slots_sized.ensures at c.readable.ensures) ∙ c.in_ok-readable.was))
