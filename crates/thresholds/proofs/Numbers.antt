-- The table of thresholds has numbers of 32 bits, whatever is entered: cells behind those that stand too, as their type gives.
use mathlib.Core.Path.{◌≡◌, refl}
use mathlib.Core.Bool.{Bool, true, false, cond}
use lib.IntN.{ℤ, pos, ◌+ℤ◌, ◌-ℤ◌}
use Rattle.integers.specs.Order.{Number, number?}
use Rattle.integers.specs.Lists.{All}
use Rattle.integers.proofs.Insertion.{all_inserted}
use Rattle.integers.proofs.OrderLaws.{number_yes}
use Rattle.limits.specs.declared.Stop.{Stop}
use Rattle.limits.specs.Metered.{Run, pure, ◌>>◌}
use Rattle.limits.proofs.Ends.{Ends, completes, stops, ends_pure, ends_then}
use Rattle.thresholds.specs.Thresholds.{Entry, enter, enter_number, around}
use Rattle.thresholds.proofs.Outcomes.{Leaves, standing, new, refused, enter_leaves}

-- whichever way it ends
abbrev pub Numbers : Run Stop Entry (Unit {0}) → Type 0
Numbers x = Ends (λ _ t. All Number t.table) (λ _ t. All Number t.table) x

pub enter_numbers : (v : ℤ) → Number v → (s : Entry) → All Number s.table → Numbers (enter v s)
enter_numbers v p s h = go (enter_leaves v s)
  where
    go : {x : Run Stop Entry (Unit {0})} → Leaves v s x → Numbers x
    go (standing c k l) = completes h
    go (new {low = low} c k l) = completes (all_inserted Number s.table low s.count v h p)
    go (refused c) = stops h

number_numbers : (v : ℤ) (s : Entry) → All Number s.table → Numbers (enter_number v s)
unfolding enter_number
number_numbers v s h = go (number? v) refl
  where
    go : (b : Bool) → number? v ≡ b → Numbers (cond b (enter v) (pure tt) s)
    go true e = enter_numbers v (number_yes v e) s h
    go false e = ends_pure tt s h

pub around_numbers : (v : ℤ) → Number v → (s : Entry) → All Number s.table → Numbers (around v s)
unfolding around
around_numbers v p s h =
    ends_then (enter_number (v -ℤ pos 1)) (enter v >> enter_number (v +ℤ pos 1)) s (number_numbers (v -ℤ pos 1) s h)
    (λ _ t g. ends_then (enter v) (enter_number (v +ℤ pos 1)) t (enter_numbers v p t g) (λ _ u f. number_numbers (v +ℤ pos 1) u f) (λ _ u f. f))
    (λ _ t g. g)
