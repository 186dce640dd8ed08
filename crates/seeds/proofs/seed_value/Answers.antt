-- `seeds::seed_value` meets its contract.
use native.Mathlib.Omega.{arith}
use mathlib.Core.Path.{sym, ap, ◌∙◌}
use Rattle.limits.specs.Budget.{work}
use Rattle.limits.proofs.Answering.{replied_ok, replied_err, refuses, replied_through}
use Rattle.store.proofs.CodeLaws.{charged_counts}
use Rattle.seeds.specs.Seed.{tables, rows, seed_constant}
use Rattle.seeds.proofs.CallLaws.{room_left, value_open, value_unpaid, value_missing, value_unrecorded, value_seeded}
use Rattle.seeds.proofs.seed_value.Goals as goal

pub returns-in_err-pay : goal.returns-in_err-pay
returns-in_err-pay c = refuses _ _ c.from_residual.ensures.1 (value_open c.args.constants.now c.args.argument c.args.value c.args.store.now c.args.seeds.now c.args.records.now c.if-constants-ne-CONSTANT_CELLS.false (sym c.is_sized.ensures ∙ c.if-not-is_sized.false) (sym c.admits.ensures ∙ c.if-not-admits.false) c.if-store-gt-CONSTANTS.false (sym c.has_room.ensures ∙ c.if-not-has_room.false) (value_unpaid c.args.constants.now c.args.argument c.args.value c.args.store.now c.args.seeds.now c.args.records.now (replied_err c.pay.ensures c.in_err-pay.was)))

pub returns-then-store-value : goal.returns-then-store-value
returns-then-store-value c = value_open c.args.constants.now c.args.argument c.args.value c.args.store.now c.args.seeds.now c.args.records.now c.if-constants-ne-CONSTANT_CELLS.false (sym c.is_sized.ensures ∙ c.if-not-is_sized.false) (sym c.admits.ensures ∙ c.if-not-admits.false) c.if-store-gt-CONSTANTS.false (sym c.has_room.ensures ∙ c.if-not-has_room.false) (value_missing c.args.constants.now c.args.argument c.args.value c.args.store.now c.args.seeds.now c.args.records.now (replied_ok c.pay.ensures c.in_ok-pay.was) c.if-store-value.true)

pub provenance-requires : goal.provenance-requires
provenance-requires c = room_left c.args.store.now (sym c.has_room.ensures ∙ c.if-not-has_room.false) (replied_ok c.pay.ensures c.in_ok-pay.was)

pub returns-in_err-provenance : goal.returns-in_err-provenance
returns-in_err-provenance c =
    refuses _ _ c.from_residual-in_err-provenance.ensures.1
    (value_open c.args.constants.now c.args.argument c.args.value c.args.store.now c.args.seeds.now c.args.records.now c.if-constants-ne-CONSTANT_CELLS.false (sym c.is_sized.ensures ∙ c.if-not-is_sized.false) (sym c.admits.ensures ∙ c.if-not-admits.false) c.if-store-gt-CONSTANTS.false (sym c.has_room.ensures ∙ c.if-not-has_room.false) (value_unrecorded c.args.constants.now c.args.argument c.args.value c.args.store.now c.args.seeds.now c.args.records.now (replied_ok c.pay.ensures c.in_ok-pay.was) c.if-store-value.false (replied_err c.provenance.ensures c.in_err-provenance.was)))

pub overflow_cast-value : goal.overflow_cast-value
overflow_cast-value c = omega (arith, c.if-store-gt-CONSTANTS.false, ap (λ n. n.constants) (charged_counts (work 1) c.args.store.now (replied_ok c.pay.ensures c.in_ok-pay.was)))

pub returns : goal.returns
returns c =
    value_open c.args.constants.now c.args.argument c.args.value c.args.store.now c.args.seeds.now c.args.records.now c.if-constants-ne-CONSTANT_CELLS.false (sym c.is_sized.ensures ∙ c.if-not-is_sized.false) (sym c.admits.ensures ∙ c.if-not-admits.false) c.if-store-gt-CONSTANTS.false (sym c.has_room.ensures ∙ c.if-not-has_room.false)
    (value_seeded c.args.constants.now c.args.argument c.args.value c.args.store.now c.args.seeds.now c.args.records.now (replied_ok c.pay.ensures c.in_ok-pay.was) c.if-store-value.false (replied_ok c.provenance.ensures c.in_ok-provenance.was)
    (replied_through (λ t. rows t.header t.seeds) (λ r t. tables r.header r.seeds t.records) (seed_constant c.args.constants.now c.args.argument c.args.value) (tables c.provenance.new.store c.args.seeds.now c.provenance.new.table) c.seed_constant.result _ c.seed_constant.ensures))
