-- `widening::widen_low` meets its contract.
use Rattle.std.proofs.Common.{rules, SFits, w32}
use Rattle.std.proofs.lemmas.Int.{to_z-of_z}
use lib.Signed.{le_z}
use Rattle.limits.proofs.Answering.{went, broke, exits}
use Rattle.widening.specs.Widening.{below, widen_low}
use Rattle.widening.proofs.CodeLaws.{side_kept, side_stops, side_moves}
use Rattle.widening.proofs.widen_low.Goals as goal

pub returns-in-Some : goal.returns-in-Some
unfolding widen_low
returns-in-Some c =
    let a = c.args in
    let o = c.ranges.old in
    let e = c.ranges.low in
    side_kept (le_z a.old a.low) a.low a.grown (below a.thresholds.now a.low) a.meter.now (simp to_z-of_z at c.in-Some.ensures)

pub returns-in_err-end : goal.returns-in_err-end
unfolding widen_low
returns-in_err-end c =
    let a = c.args in
    let o = c.ranges.old in
    let e = c.ranges.low in
    exits c.from_residual.result c.from_residual.ensures.1
    (side_stops (le_z a.old a.low) a.low a.grown (below a.thresholds.now a.low) a.meter.now (simp to_z-of_z at c.in_default.ensures) (simp to_z-of_z at (broke c.threshold_below.ensures c.in_err-end.was)))

pub returns : goal.returns
unfolding widen_low
returns c =
    let a = c.args in
    let o = c.ranges.old in
    let e = c.ranges.low in
    let f : SFits w32 c.in_ok-end.end = search rules in
    simp to_z-of_z
    (side_moves (le_z a.old a.low) a.low a.grown (below a.thresholds.now a.low) a.meter.now (simp to_z-of_z at c.in_default.ensures) (simp to_z-of_z at (went c.threshold_below.ensures c.in_ok-end.was)))
