-- Tables that share their first cells: two of one length, whose first k cells are the same. The same stores into both keep what they share, and
-- stores that begin in it add to it.
use Prim.Native.Nat.{ℕ, suc, ◌+◌, ◌-◌, ◌≤◌, ◌<◌}
use native.Mathlib.Omega.{arith}
use native.Mathlib.Decide.{dec_lt, ℕ_discrete}
use mathlib.Core.Path.{◌≡◌, sym, subst, ◌∙◌}
use mathlib.Core.List.{List, [], ◌∷◌}
use lib.ListN.{length, get_or, set, length-set, get_or-eq_default}
use lib.Seq.{sets, length-sets, ext_get_or, get_or-set_same, get_or-set_other}
use Rattle.integers.proofs.Stores.{sets_in}

pub record Shared (k : ℕ) (l l' : List ℕ) : Type 0 where
  pub size : length l' ≡ length l
  pub cell : (j : ℕ) → j < k → get_or l j 0 ≡ get_or l' j 0

pub shared_none : {l l' : List ℕ} → length l' ≡ length l → Shared 0 l l'
shared_none e = record { size = e; cell = λ j h. absurd (omega arith) }

-- all cells
pub shared_all : {k : ℕ} {l l' : List ℕ} → Shared k l l' → length l ≤ k → l ≡ l'
shared_all {k} {l} {l'} h g = ext_get_or 0 l l' (sym h.size) (λ j b. h.cell j (omega arith))

-- one store at the same place of both
set_same : (l l' : List ℕ) (b x j : ℕ) → length l' ≡ length l → get_or l j 0 ≡ get_or l' j 0 → get_or (set l b x) j 0 ≡ get_or (set l' b x) j 0
set_same l l' b x j e h = elim (ℕ_discrete b j) [
  | yes p ↦ subst (λ (i : ℕ). get_or (set l b x) i 0 ≡ get_or (set l' b x) i 0) p (elim (dec_lt b (length l)) [
    | yes m ↦ get_or-set_same l b x 0 m ∙ sym (get_or-set_same l' b x 0 (omega arith))
    | no m ↦ beyond m
  ])
  | no n ↦ get_or-set_other l b j x 0 (λ p. n (sym p)) ∙ h ∙ sym (get_or-set_other l' b j x 0 (λ p. n (sym p)))
]
  where
    beyond : (b < length l → ⊥) → get_or (set l b x) b 0 ≡ get_or (set l' b x) b 0
    beyond m = get_or-eq_default (set l b x) 0 (simp length-set (omega arith)) ∙ sym (get_or-eq_default (set l' b x) 0 (simp length-set (omega arith)))

stores_same : (v l l' : List ℕ) (b j : ℕ) → length l' ≡ length l → get_or l j 0 ≡ get_or l' j 0 → get_or (sets l b v) j 0 ≡ get_or (sets l' b v) j 0
stores_same [] l l' b j e h = h
stores_same (x ∷ v) l l' b j e h = stores_same v (set l b x) (set l' b x) (suc b) j (simp length-set e) (set_same l l' b x j e h)

module _ {k : ℕ} {l l' : List ℕ} (h : Shared k l l') (b : ℕ) (v : List ℕ) where
  -- the same stores keep what is shared
  pub shared_kept : Shared k (sets l b v) (sets l' b v)
  shared_kept = record { size = simp length-sets h.size; cell = λ j g. stores_same v l l' b j h.size (h.cell j g) }

  -- and from inside it they add to it
  pub shared_more : b ≤ k → b + length v ≤ length l → Shared (b + length v) (sets l b v) (sets l' b v)
  shared_more i r = record { size = simp length-sets h.size; cell = at }
    where
      inside : (j : ℕ) → b ≤ j → j < b + length v → get_or (sets l b v) j 0 ≡ get_or (sets l' b v) j 0
      inside j m g =
          let s = h.size in
          let e : b + (j - b) ≡ j = omega arith in
          subst (λ (n : ℕ). get_or (sets l b v) n 0 ≡ get_or (sets l' b v) n 0) e
          (sets_in 0 v l b (j - b) (omega arith) r ∙ sym (sets_in 0 v l' b (j - b) (omega arith) (omega arith)))

      at : (j : ℕ) → j < b + length v → get_or (sets l b v) j 0 ≡ get_or (sets l' b v) j 0
      at j g = elim (dec_lt j b) [
        | yes m ↦ stores_same v l l' b j h.size (h.cell j (omega arith))
        | no m ↦ inside j (omega arith) g
      ]
