-- `widening::threshold_below` meets its contract.
use Rattle.std.proofs.Common.{rules, SFits, w32}
use Rattle.std.proofs.lemmas.Int.{to_z-of_z}
use lib.Signed.{le_z}
use mathlib.Core.List.{reverse}
use Rattle.limits.proofs.Answering.{went, broke, exits}
use Rattle.widening.specs.Widening.{below}
use Rattle.widening.proofs.CodeLaws.{seeking_none, seeking_stops, seeking_hits, seeking_passes, last_first, all_seen}
use Rattle.widening.proofs.threshold_below.Goals as goal

pub returns-in_err-work : goal.returns-in_err-work
unfolding below
returns-in_err-work c =
    let a = c.args in
    let l = c.ranges.low in
    exits c.from_residual.result c.from_residual.ensures.1
    (seeking_stops (λ t. le_z t a.low) a.low (reverse a.thresholds.now) (simp to_z-of_z at c.loop-threshold.invariant) (last_first _ _ c.in-Some.ensures.steps) (broke c.work.ensures c.in_err-work.was))

pub returns-then-threshold-low : goal.returns-then-threshold-low
unfolding below
returns-then-threshold-low c =
    let a = c.args in
    let f : SFits w32 c.in-Some.threshold.now = search rules in
    let l = c.ranges.low in
    simp to_z-of_z
    (seeking_hits (λ t. le_z t a.low) a.low (reverse a.thresholds.now) (simp to_z-of_z at c.loop-threshold.invariant) (last_first _ _ c.in-Some.ensures.steps) (went c.work.ensures c.in_ok-work.was) (simp to_z-of_z at c.if-threshold-low.true))

pub loop-threshold-preserved : goal.loop-threshold-preserved
loop-threshold-preserved c =
    let a = c.args in
    let f : SFits w32 c.in-Some.threshold.now = search rules in
    let l = c.ranges.low in
    simp to_z-of_z
    (seeking_passes (λ t. le_z t a.low) a.low (reverse a.thresholds.now) (simp to_z-of_z at c.loop-threshold.invariant) (last_first _ _ c.in-Some.ensures.steps) (went c.work.ensures c.in_ok-work.was) (simp to_z-of_z at c.if-threshold-low.false))

pub returns : goal.returns
unfolding below
returns c =
    let a = c.args in
    let l = c.ranges.low in
    simp to_z-of_z (seeking_none (λ t. le_z t a.low) a.low (reverse a.thresholds.now) (simp to_z-of_z at c.loop-threshold.invariant) (all_seen _ c.in-None.ensures.steps.0))
