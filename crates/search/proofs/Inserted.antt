-- A value inserted an item at a time, with one item in hand.
use Prim.Native.Nat.{ℕ, suc, ◌+◌, ◌-◌, ◌≤◌, ◌<◌}
use native.Mathlib.Omega.{arith}
use mathlib.Core.Path.{◌≡◌, refl, sym, ap, ◌∙◌}
use mathlib.Core.List.{List, ◌∷◌}
use lib.ListN.{length, get_or, take, drop, set, length-set}
use lib.Seq.{sets, drop-cons, drop-set-lt}
use Rattle.std.proofs.Common.{◌⊎◌, inl, inr}
use Rattle.integers.specs.Lists.{inserted}
use Rattle.integers.proofs.Stores.{sets_out}

module _ {A : Type 0} where
  -- ---- an item at a time: what is to come of the table, r, is what v makes of l when it is inserted at i

  pub record Inserting (r l : List A) (i count : ℕ) (v : A) : Type 0 where
    pub rest : r ≡ inserted l i count v

  pub inserting : (l : List A) (at count : ℕ) (v : A) → Inserting (inserted l at count v) l at count v
  inserting l at count v = record { rest = refl }

  module _ {r l : List A} {i count : ℕ} {v : A} (p : Inserting r l i count v) where
    -- the item that stood at i is in hand next
    pub inserting_more : {a : A} {m : List A} (z : A) → i < count → i < length l → a ≡ get_or l i z → m ≡ set l i v → Inserting r m (i + 1) count a
    unfolding inserted
    inserting_more z h k e d =
        let s : i + 1 ≡ suc i = omega arith in
        let n : count - i ≡ suc (count - suc i) = omega arith in
        record { rest = p.rest ∙ (rw (d, s, n, drop-cons l i z k, drop-set-lt (suc i) l i v (omega arith)) (ap (λ (x : A). sets (set l i v) (suc i) (x ∷ take (count - suc i) (drop (suc i) l))) (sym e))) }

    -- the last one stands at the end of what moves, or of the table
    pub inserting_last : {j : ℕ} → j ≡ i → (count ≤ i) ⊎ (length l ≡ i + 1) → set l j v ≡ r
    unfolding inserted
    inserting_last d (inl h) = let e : count - i ≡ 0 = omega arith in rw d (sym (p.rest ∙ rw e))
    inserting_last d (inr h) = rw d (sym (p.rest ∙ sets_out (take (count - i) (drop i l)) (set l i v) (suc i) (simp length-set (omega arith))))

  -- beyond the end nothing is inserted
  pub beyond : (l : List A) (at count : ℕ) (v : A) → length l ≤ at → l ≡ inserted l at count v
  unfolding inserted
  beyond l at count v h = sym (sets_out (v ∷ take (count - at) (drop at l)) l at h)
