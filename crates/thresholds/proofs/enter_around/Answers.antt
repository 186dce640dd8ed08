-- `thresholds::enter_around` meets its contract.
use mir.Facts.{to_z-of_z}
use Rattle.std.proofs.Common.{◌∙◌, arith}
use Rattle.limits.proofs.Answering.{exits}
use Rattle.thresholds.proofs.Outcomes.{enter_grown, number_grown}
use Rattle.thresholds.proofs.CodeLaws.{some_number, around_first, around_second, around_third}
use Rattle.thresholds.proofs.enter_around.Goals as goal

pub returns-in_err-enter_some : goal.returns-in_err-enter_some
returns-in_err-enter_some c = exits _ c.from_residual.ensures.1 (around_first _ _ (c.in_err-enter_some.ensures ∙ some_number _ _ _ (rw (to_z-of_z c.ranges.value) at c.checked_sub.ensures)))

pub enter-requires : goal.enter-requires
enter-requires c =
    let g = number_grown _ _ (c.in_ok-enter_some.ensures ∙ some_number _ _ _ (rw (to_z-of_z c.ranges.value) at c.checked_sub.ensures)) in
    omega (arith, g, c.requires, c.enter_some.auto.table)

pub returns-in_err-enter : goal.returns-in_err-enter
returns-in_err-enter c =
    exits _ c.from_residual-in_err-enter.ensures.1 (around_second _ _ (c.in_ok-enter_some.ensures ∙ some_number _ _ _ (rw (to_z-of_z c.ranges.value) at c.checked_sub.ensures)) (rw (to_z-of_z c.ranges.value) at c.in_err-enter.ensures))

pub enter_some-requires-2 : goal.enter_some-requires-2
enter_some-requires-2 c =
    let g = number_grown _ _ (c.in_ok-enter_some.ensures ∙ some_number _ _ _ (rw (to_z-of_z c.ranges.value) at c.checked_sub.ensures)) in
    let h = enter_grown _ _ (rw (to_z-of_z c.ranges.value) at c.in_ok-enter.ensures) in
    omega (arith, g, h, c.requires, c.enter_some.auto.table, c.enter.auto.table)

pub returns : goal.returns
returns c =
    around_third _ _ (c.in_ok-enter_some.ensures ∙ some_number _ _ _ (rw (to_z-of_z c.ranges.value) at c.checked_sub.ensures)) (rw (to_z-of_z c.ranges.value) at c.in_ok-enter.ensures)
    (c.enter_some-2.ensures ∙ some_number _ _ _ (rw (to_z-of_z c.ranges.value) at c.checked_add.ensures))
