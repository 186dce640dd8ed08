-- The library's least and greatest of two are those of specs/Order.antt.
use native.Mathlib.Omega.{arith}
use mathlib.Core.Path.{◌≡◌}
use mathlib.Core.Bool.{cond}
use lib.IntN.{ℤ}
use Rattle.std.specs.Int.{int_min, int_max}
use Rattle.integers.specs.Order.{min_z, max_z}
use Rattle.integers.proofs.OrderLaws.{by_lt, min_is_left, min_is_right, max_is_left, max_is_right}

pub min_is : (a b : ℤ) → int_min a b ≡ min_z a b
min_is a b = by_lt (λ t. cond t b a ≡ min_z a b) b a (λ h. rw (min_is_right a b (omega arith))) (λ h. rw (min_is_left a b h))

pub max_is : (a b : ℤ) → int_max a b ≡ max_z a b
max_is a b = by_lt (λ t. cond t a b ≡ max_z a b) b a (λ h. rw (max_is_left a b (omega arith))) (λ h. rw (max_is_right a b h))
