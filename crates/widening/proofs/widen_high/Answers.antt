-- `widening::widen_high` meets its contract.
use Rattle.std.proofs.Common.{rules, SFits, w32}
use Rattle.std.proofs.lemmas.Int.{to_z-of_z}
use lib.Signed.{le_z}
use Rattle.limits.proofs.Answering.{went, broke, exits}
use Rattle.widening.specs.Widening.{above, widen_high}
use Rattle.widening.proofs.CodeLaws.{side_kept, side_stops, side_moves}
use Rattle.widening.proofs.widen_high.Goals as goal

pub returns-in-Some : goal.returns-in-Some
unfolding widen_high
returns-in-Some c =
    let a = c.args in
    let o = c.ranges.old in
    let e = c.ranges.high in
    side_kept (le_z a.high a.old) a.high a.grown (above a.thresholds.now a.high) a.meter.now (simp to_z-of_z at c.in-Some.ensures)

pub returns-in_err-end : goal.returns-in_err-end
unfolding widen_high
returns-in_err-end c =
    let a = c.args in
    let o = c.ranges.old in
    let e = c.ranges.high in
    exits c.from_residual.result c.from_residual.ensures.1
    (side_stops (le_z a.high a.old) a.high a.grown (above a.thresholds.now a.high) a.meter.now (simp to_z-of_z at c.in_default.ensures) (simp to_z-of_z at (broke c.threshold_above.ensures c.in_err-end.was)))

pub returns : goal.returns
unfolding widen_high
returns c =
    let a = c.args in
    let o = c.ranges.old in
    let e = c.ranges.high in
    let f : SFits w32 c.in_ok-end.end = search rules in
    simp to_z-of_z
    (side_moves (le_z a.high a.old) a.high a.grown (above a.thresholds.now a.high) a.meter.now (simp to_z-of_z at c.in_default.ensures) (simp to_z-of_z at (went c.threshold_above.ensures c.in_ok-end.was)))
