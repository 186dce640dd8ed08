-- `search::seek` meets its contract.
use Rattle.std.proofs.Common.{◌≡◌, ◌+◌, ◌-◌, ◌^◌, ℕ, ◌≤◌, ◌<◌}
use Rattle.std.specs.declared.cmp.Ordering.{Ordering}
use Rattle.search.specs.Seek.{Computes}
use Rattle.search.proofs.Turns.{Looked}
use Rattle.search.proofs.seek.Given as goal

abbrev pub invariant-loop-low : goal.invariant-loop-low
invariant-loop-low g l = record {
  unpaid : l.meter ≡ l.initial.meter;
  within : l.high ≤ l.count;
  few : l.looks + (l.high - l.low) ≤ l.count;
  turn : (p : ℕ → Ordering) → Computes (goal.F-post g l.probe) l.count p → (turns : ℕ) → l.count < 2 ^ turns → Looked p turns l.count l.low l.high l.looks;
}

abbrev pub decreases-loop-low : goal.decreases-loop-low
decreases-loop-low g l = l.high - l.low
