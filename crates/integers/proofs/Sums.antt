-- Sums, differences and negation in ℤ, as `omega` reads them: what `up` and `dn` of each are, and that they grow and fall with their parts.
use Prim.Native.Nat.{ℕ, zero, suc, ◌+◌, ◌≤◌}
use native.Mathlib.Omega.{arith}
use mathlib.Core.Path.{◌≡◌, refl}
use mathlib.Core.Bool.{Bool, true, false}
use borrow.Author.Tests.{ltb-true, ltb-false}
use lib.Dec.{ltb}
use lib.IntN.{ℤ, pos, negsuc, neg_ℤ, sub_ℕ, ◌+ℤ◌, ◌-ℤ◌}
use Rattle.integers.specs.Order.{up, dn, Le}

-- one of the two is 0
pub one_zero : (z : ℤ) (k : ℕ) → up z ≤ k + dn z → dn z ≤ k + up z → (up z ≤ k) × (dn z ≤ k)
one_zero (pos n) k p q = (omega arith, omega arith)
one_zero (negsuc n) k p q = (omega arith, omega arith)

sub_split : (a b : ℕ) → up (sub_ℕ a b) + b ≡ a + dn (sub_ℕ a b)
sub_split a b = go (ltb a b) refl
  where
    go : (t : Bool) → ltb a b ≡ t → up (sub_ℕ a b) + b ≡ a + dn (sub_ℕ a b)
    go true e = rw e (omega (arith, ltb-true a b e))
    go false e = rw e (omega (arith, ltb-false a b e))

pub add_split : (a b : ℤ) → up (a +ℤ b) + (dn a + dn b) ≡ (up a + up b) + dn (a +ℤ b)
add_split (pos a) (pos b) = omega arith
add_split (pos a) (negsuc b) = omega (arith, sub_split a (suc b))
add_split (negsuc a) (pos b) = omega (arith, sub_split b (suc a))
add_split (negsuc a) (negsuc b) = omega arith

pub neg_up : (a : ℤ) → up (neg_ℤ a) ≡ dn a
neg_up (pos zero) = refl
neg_up (pos (suc n)) = refl
neg_up (negsuc n) = refl

pub neg_dn : (a : ℤ) → dn (neg_ℤ a) ≡ up a
neg_dn (pos zero) = refl
neg_dn (pos (suc n)) = refl
neg_dn (negsuc n) = refl

pub sub_split_ℤ : (a b : ℤ) → up (a -ℤ b) + (dn a + up b) ≡ (up a + dn b) + dn (a -ℤ b)
sub_split_ℤ a b = omega (arith, add_split a (neg_ℤ b), neg_up b, neg_dn b)

-- a sum grows with each part
pub add_grows : (a b c d : ℤ) → Le a c → Le b d → Le (a +ℤ b) (c +ℤ d)
add_grows a b c d p q = omega (arith, add_split a b, add_split c d)

-- a difference grows with its first part and falls with its second
pub sub_grows : (a b c d : ℤ) → Le a c → Le d b → Le (a -ℤ b) (c -ℤ d)
sub_grows a b c d p q = omega (arith, sub_split_ℤ a b, sub_split_ℤ c d)

-- negation turns the order round
pub neg_falls : (a b : ℤ) → Le a b → Le (neg_ℤ b) (neg_ℤ a)
neg_falls a b p = omega (arith, neg_up a, neg_dn a, neg_up b, neg_dn b)
