-- The binary search of the Rust (thresholds, keys and lists are searched alike), over whatever `probe` says of each item.
use Rattle.std.specs.Prelude.{ℕ, zero, suc, ◌+◌, ◌-◌, ◌/◌, ◌<◌, ◌≡◌, Bool, true, false, cond, ltb, ℤ, Result}
pub use Rattle.std.specs.Prelude.{Ok as found, Err as absent}
pub use Rattle.std.specs.declared.cmp.Ordering.{Ordering}
pub use Rattle.std.specs.declared.cmp.Ordering.TheVariants.{Less, Equal, Greater}
use Rattle.std.specs.Ordering.{nat_cmp, int_cmp}
use Rattle.limits.specs.declared.Stop.{Stop}
use Rattle.limits.specs.Metered.{Metered, answered, pure, ◌>>◌}
use Rattle.limits.specs.declared.Meter.{Meter}
use Rattle.limits.specs.Meter.{work}

-- where a search ends: at an equal item, or where one would stand
abbrev pub Place : Type 0
Place = Result ℕ ℕ

abbrev pub found? : Place → Bool
found? (found i) = true
found? (absent i) = false

abbrev pub by : {A : Type 0} → Ordering → A → A → A → A
by Less x y z = x
by Equal x y z = y
by Greater x y z = z

abbrev pub middle : ℕ → ℕ → ℕ
middle low high = low + (high - low) / 2

-- from low up to high; `turns` bounds the items that are looked at
unfoldable pub seek : (ℕ → Ordering) → ℕ → ℕ → ℕ → Metered Stop Meter Place
seek probe zero low high = pure (absent low)
seek probe (suc turns) low high =
    cond (ltb low high)
    (work 1 >>
    by (probe (middle low high)) (seek probe turns (middle low high + 1) high) (pure (found (middle low high))) (seek probe turns low (middle low high)))
    (pure (absent low))

-- the comparisons of std: two natural numbers
abbrev pub compareℕ : ℕ → ℕ → Ordering
compareℕ = nat_cmp

-- and two integers
abbrev pub compareℤ : ℤ → ℤ → Ordering
compareℤ = int_cmp

-- ---- the code's search: what its answer and the meter that it leaves are, for whatever its closure computes

-- each answer of the closure to one of n items is what p gives
pub record Computes (post : ℕ → Ordering → Type 0) (n : ℕ) (p : ℕ → Ordering) : Type 0 where
  pub at : (i : ℕ) (r : Ordering) → i < n → post i r → r ≡ p i

abbrev pub Seeks : (ℕ → Ordering) → ℕ → ℕ → Result Place Stop → Meter → Meter → Type 0
Seeks p turns n r old new = answered r new ≡ seek p turns 0 n old
