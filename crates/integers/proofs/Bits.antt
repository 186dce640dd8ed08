-- Signed numbers as the machine holds them: from a test on bits to the numbers, what fits which width, and casts.
use Prim.Native.Nat.{ℕ, suc, ◌*◌, ◌≤◌, ◌<◌, ◌^◌}
use native.Mathlib.Omega.{arith}
use native.Mathlib.Nat.{mul-le-mul}
use mathlib.Core.Path.{◌≡◌}
use mathlib.Core.Bool.{Bool}
use lib.IntN.{ℤ, pos, negsuc, neg_ℤ, ◌+ℤ◌, ◌-ℤ◌, ◌*ℤ◌}
use lib.Signed.{lt_z, mag}
use mir.Syntax.{Width, w32, w64}
use mir.Val.{SFits, to_z, of_z}
use mir.Facts.{to_z-of_z, sfits_widen}
use Rattle.integers.specs.Order.{up, dn, Number}
use Rattle.integers.proofs.Sums.{one_zero, add_split, sub_split_ℤ, neg_up, neg_dn}

-- ---- what a test of two signed locals says of the numbers

module _ {w : Width} {a b : ℤ} (fa : SFits w a) (fb : SFits w b) where
  pub lt_at : {t : Bool} → lt_z (to_z w (of_z w a)) (to_z w (of_z w b)) ≡ t → lt_z a b ≡ t
  lt_at e = rw (to_z-of_z fa, to_z-of_z fb) at e

  -- what a callee says of two signed arguments
  pub read₂ : {X : Type 0} {r : X} (f : ℤ → ℤ → X) → r ≡ f (to_z w (of_z w a)) (to_z w (of_z w b)) → r ≡ f a b
  read₂ f e = rw (to_z-of_z fa, to_z-of_z fb) at e

-- ---- a result of a call, whose type gives `mag z`

pub sf32 : (z : ℤ) → mag z < 2 ^ 31 → SFits w32 z
sf32 z p = record { sfits = p }

-- ---- 32 bits, by the order

pub number_fits : (z : ℤ) → Number z → SFits w32 z
number_fits (pos n) h = record { sfits = omega (arith, h.1) }
number_fits (negsuc n) h = record { sfits = omega (arith, h.0) }

pub fits_number : (z : ℤ) → SFits w32 z → Number z
fits_number (pos n) f = (omega arith, omega (arith, f.sfits))
fits_number (negsuc n) f = (omega (arith, f.sfits), omega arith)

-- ---- operations on numbers of 32 bits fit 64

near : (z : ℤ) → up z ≤ 4611686018427387904 → dn z ≤ 4611686018427387904 → SFits w64 z
near (pos n) p q = record { sfits = omega arith }
near (negsuc n) p q = record { sfits = omega arith }

pub add_fits : (a b : ℤ) → SFits w32 a → SFits w32 b → SFits w64 (a +ℤ b)
add_fits a b fa fb =
    let sa = fits_number a fa in
    let sb = fits_number b fb in
    let o = one_zero (a +ℤ b) 4294967296 (omega (arith, add_split a b)) (omega (arith, add_split a b)) in
    near (a +ℤ b) (omega arith) (omega arith)

pub sub_fits : (a b : ℤ) → SFits w32 a → SFits w32 b → SFits w64 (a -ℤ b)
sub_fits a b fa fb =
    let sa = fits_number a fa in
    let sb = fits_number b fb in
    let o = one_zero (a -ℤ b) 4294967296 (omega (arith, sub_split_ℤ a b)) (omega (arith, sub_split_ℤ a b)) in
    near (a -ℤ b) (omega arith) (omega arith)

pub neg_fits : (a : ℤ) → SFits w32 a → SFits w64 (neg_ℤ a)
neg_fits a f =
    let s = fits_number a f in
    let o = one_zero (neg_ℤ a) 4294967296 (omega (arith, neg_up a, neg_dn a)) (omega (arith, neg_up a, neg_dn a)) in
    near (neg_ℤ a) (omega arith) (omega arith)

small : (z : ℤ) → SFits w32 z → (up z ≤ 2147483648) × (dn z ≤ 2147483648)
small z f = let s = fits_number z f in one_zero z 2147483648 (omega arith) (omega arith)

neg_near : (n : ℕ) → n ≤ 4611686018427387904 → SFits w64 (neg_ℤ (pos n))
neg_near n p = near (neg_ℤ (pos n)) (omega (arith, neg_up (pos n))) (omega (arith, neg_dn (pos n)))

pub mul_fits : (a b : ℤ) → SFits w32 a → SFits w32 b → SFits w64 (a *ℤ b)
mul_fits (pos a) (pos b) fa fb = near (pos (a * b)) (mul-le-mul (small (pos a) fa).0 (small (pos b) fb).0) (omega arith)
mul_fits (pos a) (negsuc b) fa fb = neg_near (a * suc b) (mul-le-mul (small (pos a) fa).0 (small (negsuc b) fb).1)
mul_fits (negsuc a) (pos b) fa fb = neg_near (suc a * b) (mul-le-mul (small (negsuc a) fa).1 (small (pos b) fb).0)
mul_fits (negsuc a) (negsuc b) fa fb = near (pos (suc a * suc b)) (mul-le-mul (small (negsuc a) fa).1 (small (negsuc b) fb).1) (omega arith)

-- ---- a number of 32 bits, cast to 64

pub widens : (z : ℤ) → SFits w32 z → SFits w64 (to_z w32 (of_z w32 z))
widens z f = rw (to_z-of_z f) (sfits_widen {w = w32} tt f)

pub widened_is : (z : ℤ) → SFits w32 z → to_z w64 (of_z w64 (to_z w32 (of_z w32 z))) ≡ z
widened_is z f = rw (to_z-of_z f, to_z-of_z (sfits_widen {w = w32} {w' = w64} tt f))
