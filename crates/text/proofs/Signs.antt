-- A number of 32 bits with its sign, as the code works its digits out: those of what it is without its sign.
use Prim.Native.Nat.{ℕ}
use native.Mathlib.Omega.{arith}
use mathlib.Core.Path.{◌≡◌, refl, sym, ap, ◌∙◌}
use mathlib.Core.Bool.{true, false}
use mathlib.Core.List.{List, [], ◌∷◌}
use borrow.Author.Tests.{ltb-true}
use lib.IntN.{ℤ, pos, negsuc, nat_abs}
use lib.Signed.{lt_z}
use mir.Syntax.{w32}
use mir.Val.{SFits, to_z, of_z}
use mir.Facts.{to_z-of_z}
use Rattle.text.specs.Text.{decimal, integer}
use Rattle.text.specs.Answers.{Puts}
use Rattle.text.proofs.Putting.{puts_then, puts_same}

negative : (z : ℤ) → lt_z z (pos 0) ≡ true → integer z ≡ 45 ∷ decimal (nat_abs z)
unfolding integer
negative (pos n) t = absurd (omega (arith, ltb-true n 0 t))
negative (negsuc n) t = refl

plain : (z : ℤ) → lt_z z (pos 0) ≡ false → integer z ≡ decimal (nat_abs z)
unfolding integer
plain (pos n) t = refl
plain (negsuc n) t = let e : ◌≡◌ {A = ℕ} 0 1 = cc in absurd (omega arith)

-- a number as a local of 32 bits has it, and n without its sign
module _ (z : ℤ) (f : SFits w32 z) {n : ℕ} (e : n ≡ nat_abs (to_z w32 (of_z w32 z))) where
  size : n ≡ nat_abs z
  size = e ∙ ap nat_abs (to_z-of_z f)

  pub puts_negative : {a b c : ℕ} {l m k : List ℕ} → lt_z (to_z w32 (of_z w32 z)) (pos 0) ≡ true → Puts (45 ∷ []) a l b m → Puts (decimal n) b m c k → Puts (integer z) a l c k
  puts_negative t p q = puts_same (sym (negative z (rw (to_z-of_z f) at t))) (puts_then p (rw size at q))

  pub puts_plain : {a b : ℕ} {l m : List ℕ} → lt_z (to_z w32 (of_z w32 z)) (pos 0) ≡ false → Puts (decimal n) a l b m → Puts (integer z) a l b m
  puts_plain t p = puts_same (sym (plain z (rw (to_z-of_z f) at t))) (rw size at p)
