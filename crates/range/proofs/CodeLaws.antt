-- What the code's answers are, over plain variables.
use mathlib.Core.Path.{◌≡◌, refl}
use mathlib.Core.Bool.{Bool, true, false}
use lib.IntN.{ℤ}
use lib.Signed.{lt_z, le_z}
use mir.Syntax.{w32}
use mir.Val.{SFits, to_z, of_z}
use Rattle.std.specs.Prelude.{Some, None, Result, Ok, Err, OkIff, is_ok}
use Rattle.std.specs.Result.{result_ok}
use Rattle.std.proofs.lemmas.Int.{to_z-of_z}
use Rattle.integers.specs.Order.{number?}
use Rattle.integers.proofs.Tests.{and_false}
use Rattle.integers.proofs.OrderLaws.{lt_yes, lt_no, yes_le, no_le, number_yes, yes_number}
use Rattle.integers.proofs.Bits.{number_fits, fits_number}
use Rattle.range.specs.Range.{new_of}

-- ---- whether a number fits 32 bits

module _ {E : Type 0} (z : ℤ) where
  pub not_fitting : (r : Result ℤ E) → OkIff r (SFits w32 z) z → false ≡ is_ok r → number? z ≡ false
  not_fitting (Ok x) k e = cc
  not_fitting (Err x) k e = go (number? z) refl
    where
      go : (t : Bool) → number? z ≡ t → t ≡ false
      go true h = absurd (k (number_fits z (number_yes z h)))
      go false h = refl

  pub fitting : (r : Result ℤ E) {x : ℤ} → OkIff r (SFits w32 z) z → Some x ≡ result_ok r → (number? z ≡ true) × (to_z w32 (of_z w32 x) ≡ z)
  fitting (Ok y) {x} k e = let p : x ≡ y = cc in (yes_number z (fits_number z k.0), rw (p, k.1) (to_z-of_z w32 z k.0))
  fitting (Err y) k e = cc

-- ---- the ways out of `checked`

module _ (low high : ℤ) where
  pub descends : lt_z high low ≡ true → None ≡ new_of low high
  unfolding new_of
  descends e = rw (no_le low high (lt_yes high low e))

  pub low_out : number? low ≡ false → None ≡ new_of low high
  unfolding new_of
  low_out e = rw (e, and_false (le_z low high))

  pub high_out : number? high ≡ false → None ≡ new_of low high
  unfolding new_of
  high_out e = rw (e, and_false (number? low), and_false (le_z low high))

  pub within : {a b : ℤ} → lt_z high low ≡ false → (number? low ≡ true) × (a ≡ low) → (number? high ≡ true) × (b ≡ high) →
      Some (record { low = a; high = b }) ≡ new_of low high
  unfolding new_of
  within e l h = rw (l.1, h.1, yes_le low high (lt_no high low e), l.0, h.0)
