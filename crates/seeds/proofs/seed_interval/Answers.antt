-- `seeds::seed_interval` meets its contract.
use native.Mathlib.Omega.{arith}
use mathlib.Core.Path.{sym, ◌∙◌}
use mir.Facts.{to_z-of_z}
use Rattle.integers.proofs.Bits.{lt_at}
use Rattle.limits.proofs.Answering.{replied_ok, replied_err, refuses, replied_through}
use Rattle.seeds.specs.Seed.{interval_tables, ends, seed_ends}
use Rattle.seeds.proofs.CallLaws.{room_left, thresholds_left, interval_open, interval_unpaid, interval_descending, interval_unrecorded, interval_seeded}
use Rattle.seeds.proofs.seed_interval.Goals as goal

pub returns-in_err-pay : goal.returns-in_err-pay
returns-in_err-pay c = refuses _ _ c.from_residual.ensures.1 (interval_open c.args.argument c.args.low c.args.high c.args.store.now c.args.seeds.now c.args.records.now c.args.thresholds.now c.if-thresholds-ne-THRESHOLDS.false (sym c.is_sized.ensures ∙ c.if-not-is_sized.false) (sym c.admits.ensures ∙ c.if-not-admits.false) c.if-store-gt-THRESHOLDS_BEFORE_CALL.false (sym c.has_room.ensures ∙ c.if-not-has_room.false) (interval_unpaid c.args.argument c.args.low c.args.high c.args.store.now c.args.seeds.now c.args.records.now c.args.thresholds.now (replied_err c.pay.ensures c.in_err-pay.was)))

pub returns-then-high-low : goal.returns-then-high-low
returns-then-high-low c = interval_open c.args.argument c.args.low c.args.high c.args.store.now c.args.seeds.now c.args.records.now c.args.thresholds.now c.if-thresholds-ne-THRESHOLDS.false (sym c.is_sized.ensures ∙ c.if-not-is_sized.false) (sym c.admits.ensures ∙ c.if-not-admits.false) c.if-store-gt-THRESHOLDS_BEFORE_CALL.false (sym c.has_room.ensures ∙ c.if-not-has_room.false) (interval_descending c.args.argument c.args.low c.args.high c.args.store.now c.args.seeds.now c.args.records.now c.args.thresholds.now (replied_ok c.pay.ensures c.in_ok-pay.was) (lt_at c.ranges.high c.ranges.low c.if-high-low.true))

pub provenance-requires : goal.provenance-requires
provenance-requires c = room_left c.args.store.now (sym c.has_room.ensures ∙ c.if-not-has_room.false) (replied_ok c.pay.ensures c.in_ok-pay.was)

pub returns-in_err-provenance : goal.returns-in_err-provenance
returns-in_err-provenance c =
    refuses _ _ c.from_residual-in_err-provenance.ensures.1
    (interval_open c.args.argument c.args.low c.args.high c.args.store.now c.args.seeds.now c.args.records.now c.args.thresholds.now c.if-thresholds-ne-THRESHOLDS.false (sym c.is_sized.ensures ∙ c.if-not-is_sized.false) (sym c.admits.ensures ∙ c.if-not-admits.false) c.if-store-gt-THRESHOLDS_BEFORE_CALL.false (sym c.has_room.ensures ∙ c.if-not-has_room.false) (interval_unrecorded c.args.argument c.args.low c.args.high c.args.store.now c.args.seeds.now c.args.records.now c.args.thresholds.now (replied_ok c.pay.ensures c.in_ok-pay.was) (lt_at c.ranges.high c.ranges.low c.if-high-low.false) (replied_err c.provenance.ensures c.in_err-provenance.was)))

pub seed_ends-requires : goal.seed_ends-requires
seed_ends-requires c = omega (arith, thresholds_left c.args.argument c.args.store.now c.args.records.now (replied_ok c.pay.ensures c.in_ok-pay.was) (replied_ok c.provenance.ensures c.in_ok-provenance.was), c.if-store-gt-THRESHOLDS_BEFORE_CALL.false, c.if-thresholds-ne-THRESHOLDS.false)

pub returns : goal.returns
returns c =
    interval_open c.args.argument c.args.low c.args.high c.args.store.now c.args.seeds.now c.args.records.now c.args.thresholds.now c.if-thresholds-ne-THRESHOLDS.false (sym c.is_sized.ensures ∙ c.if-not-is_sized.false) (sym c.admits.ensures ∙ c.if-not-admits.false) c.if-store-gt-THRESHOLDS_BEFORE_CALL.false (sym c.has_room.ensures ∙ c.if-not-has_room.false)
    (interval_seeded c.args.argument c.args.low c.args.high c.args.store.now c.args.seeds.now c.args.records.now c.args.thresholds.now (replied_ok c.pay.ensures c.in_ok-pay.was) (lt_at c.ranges.high c.ranges.low c.if-high-low.false) (replied_ok c.provenance.ensures c.in_ok-provenance.was)
    (replied_through (λ t. ends t.header t.seeds t.thresholds) (λ e t. interval_tables e.header e.seeds t.records e.thresholds) (seed_ends c.args.argument c.args.low c.args.high)
    (interval_tables c.provenance.new.store c.args.seeds.now c.provenance.new.table c.args.thresholds.now) c.seed_ends.result _ (rw (to_z-of_z c.ranges.low, to_z-of_z c.ranges.high) at c.seed_ends.ensures)))
