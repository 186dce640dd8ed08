-- Insertion: what stands where afterwards.
use Prim.Native.Nat.{ℕ, suc, ◌+◌, ◌-◌, ◌≤◌, ◌<◌}
use native.Mathlib.Omega.{arith}
use native.Mathlib.Nat.{add-zero}
use mathlib.Core.Path.{◌≡◌, ap, subst, ◌∙◌}
use mathlib.Core.List.{List, ◌∷◌}
use lib.ListN.{length, get_or, take, drop, length-take, length-drop}
use lib.Seq.{sets, length-sets, get_or-take, get_or-drop}
use Rattle.integers.specs.Lists.{All, inserted}
use Rattle.integers.proofs.Stores.{sets_before, sets_after, sets_in, all_sets, all_take, all_drop}

module _ {A : Type 0} where
  -- ---- what stands where

  module _ (z : A) (l : List A) (at count : ℕ) (v : A) where
    pub inserted_length : length (inserted l at count v) ≡ length l
    unfolding inserted
    inserted_length = length-sets l at (v ∷ take (count - at) (drop at l))

    pub inserted_below : (k : ℕ) → k < at → get_or (inserted l at count v) k z ≡ get_or l k z
    unfolding inserted
    inserted_below k h = sets_before z (v ∷ take (count - at) (drop at l)) l at k h

    module _ (h : at ≤ count) (g : count < length l) where
      moved : length (take (count - at) (drop at l)) ≡ count - at
      moved = simp (length-take, length-drop) (omega arith)

      pub inserted_at : get_or (inserted l at count v) at z ≡ v
      unfolding inserted
      inserted_at =
          subst (λ (j : ℕ). get_or (sets l at (v ∷ take (count - at) (drop at l))) j z ≡ v) (add-zero at)
          (sets_in z (v ∷ take (count - at) (drop at l)) l at 0 (omega arith) (omega (arith, moved)))

      pub inserted_above : (k : ℕ) → at ≤ k → k < count → get_or (inserted l at count v) (k + 1) z ≡ get_or l k z
      unfolding inserted
      inserted_above k b c =
          let e : at + suc (k - at) ≡ k + 1 = omega arith in
          let f : at + (k - at) ≡ k = omega arith in
          subst (λ (j : ℕ). get_or (sets l at (v ∷ take (count - at) (drop at l))) j z ≡ get_or l k z) e
          (sets_in z (v ∷ take (count - at) (drop at l)) l at (suc (k - at)) (omega (arith, moved)) (omega (arith, moved))
          ∙ get_or-take (count - at) (drop at l) (k - at) z (omega arith)
          ∙ get_or-drop at l (k - at) z
          ∙ ap (λ (j : ℕ). get_or l j z) f)

      pub inserted_beyond : (k : ℕ) → count < k → get_or (inserted l at count v) k z ≡ get_or l k z
      unfolding inserted
      inserted_beyond k b = sets_after z (v ∷ take (count - at) (drop at l)) l at k (omega (arith, moved))

  -- what every element has, and what is inserted has, all have then
  pub all_inserted : (P : A → Type 0) (l : List A) (at count : ℕ) (v : A) → All P l → P v → All P (inserted l at count v)
  unfolding inserted
  all_inserted P l at count v h p = all_sets P l at (v ∷ take (count - at) (drop at l)) h (p, all_take P (count - at) (drop at l) (all_drop P at l h))
