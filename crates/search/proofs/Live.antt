-- A search holds no entries, whatever it searches.
use Prim.Native.Nat.{ℕ, zero, suc, ◌+◌}
use mathlib.Core.Path.{refl}
use lib.Dec.{ltb}
use Rattle.limits.specs.Metered.{pure}
use Rattle.limits.proofs.Live.{Lives, live_pure, live_test, live_then, live_work}
use Rattle.std.specs.declared.cmp.Ordering.{Ordering}
use Rattle.std.specs.declared.cmp.Ordering.TheVariants.{Less, Equal, Greater}
use Rattle.search.specs.Seek.{found, absent, by, middle, seek}

pub seek_lives : (probe : ℕ → Ordering) (turns low high : ℕ) → Lives 0 (λ _. 0) (seek probe turns low high)
unfolding seek
seek_lives probe zero low high = live_pure 0 (absent low) refl
seek_lives probe (suc f) low high =
    live_test (ltb low high)
    (λ _. live_then (live_work 1) (turn (probe (middle low high)) (seek_lives probe f (middle low high + 1) high) (seek_lives probe f low (middle low high))))
    (λ _. live_pure 0 (absent low) refl)
  where
    turn : (o : Ordering) → Lives 0 (λ _. 0) (seek probe f (middle low high + 1) high) → Lives 0 (λ _. 0) (seek probe f low (middle low high)) →
        Lives 0 (λ _. 0) (by o (seek probe f (middle low high + 1) high) (pure (found (middle low high))) (seek probe f low (middle low high)))
    turn Less r l = r
    turn Equal r l = live_pure 0 (found (middle low high)) refl
    turn Greater r l = l
