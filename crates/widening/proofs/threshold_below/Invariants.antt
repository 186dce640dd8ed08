-- `widening::threshold_below` meets its contract.
use mathlib.Core.List.{reverse}
use lib.Signed.{le_z}
use Rattle.limits.proofs.Onward.{Onward}
use Rattle.widening.specs.Widening.{nearest}
use Rattle.widening.proofs.threshold_below.Given as goal

-- what is left of the search are the thresholds that the iterator has left, the last of them first
abbrev pub invariant-loop-threshold : goal.invariant-loop-threshold
invariant-loop-threshold l =
    Onward (nearest (λ t. le_z t l.low) l.low (reverse l.thresholds)) l.initial.meter (nearest (λ t. le_z t l.low) l.low (reverse l.threshold-iterator.iter.rest.now)) l.meter
