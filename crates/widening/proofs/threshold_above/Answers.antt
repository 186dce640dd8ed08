-- `widening::threshold_above` meets its contract.
use Rattle.std.proofs.Common.{rules, SFits, w32, get_or, pos}
use Rattle.std.proofs.lemmas.Int.{to_z-of_z}
use Rattle.limits.proofs.Answering.{went, broke, exits}
use Rattle.widening.proofs.Place.{above_found, found_stopped, above_none, none_stopped}
use Rattle.widening.proofs.threshold_above.Goals as goal

pub returns-in_err-units : goal.returns-in_err-units
returns-in_err-units c =
    let a = c.args in
    let e = c.ranges.high in
    exits c.from_residual.result c.from_residual.ensures.1
    (found_stopped a.high a.thresholds.now (simp to_z-of_z at c.first_above-place.ensures) a.meter.now (pos 0) c.if-place-thresholds.true (broke c.units.ensures c.in_err-units.was))

pub returns-then-place-thresholds : goal.returns-then-place-thresholds
returns-then-place-thresholds c =
    let a = c.args in
    let e = c.ranges.high in
    let f : SFits w32 (get_or a.thresholds.now c.first_above-place.result (pos 0)) = search rules in
    simp to_z-of_z (above_found a.high a.thresholds.now (simp to_z-of_z at c.first_above-place.ensures) a.meter.now (pos 0) c.if-place-thresholds.true (went c.units.ensures c.in_ok-units.was))

pub returns-in_err-units-2 : goal.returns-in_err-units-2
returns-in_err-units-2 c =
    let a = c.args in
    let e = c.ranges.high in
    exits c.from_residual-in_err-units-2.result c.from_residual-in_err-units-2.ensures.1
    (none_stopped a.high a.thresholds.now (simp to_z-of_z at c.first_above-place.ensures) a.meter.now c.if-place-thresholds.false (broke c.units-2.ensures c.in_err-units-2.was))

pub returns : goal.returns
returns c =
    let a = c.args in
    let e = c.ranges.high in
    simp to_z-of_z (above_none a.high a.thresholds.now (simp to_z-of_z at c.first_above-place.ensures) a.meter.now c.if-place-thresholds.false (went c.units-2.ensures c.in_ok-units-2.was))
