-- Laws of lists that are not in the toolchain's library: strictly increasing lists, membership as a test, the elements that pass one, runs of
-- elements.
use Prim.Native.Nat.{ℕ, zero, suc, ◌+◌, ◌<◌, ◌≤◌}
use native.Mathlib.Omega.{arith}
use mathlib.Core.Path.{◌≡◌, refl, sym, ap, subst, ◌∙◌}
use mathlib.Core.Logic.{◌↔◌, ◌⊎◌, inl, inr}
use mathlib.Core.Bool.{Bool, true, false, cond, ◌||◌}
use mathlib.Core.List.Memᴰ
use mathlib.Core.List.{List, [], ◌∷◌, map, Memᴰ}
use borrow.Author.Tests.{ltb-true, ltb-false, eqb-true, eq-eqb}
use lib.Dec.{ltb, eqb}
use lib.ListN.{length, get_or}
use Rattle.integers.specs.Lists.{Above, Increasing, passing, from}

-- ---- two natural numbers, one of three ways

pub data Compared (x y : ℕ) : Type 0 where
  less : x < y → Compared x y
  more : y < x → Compared x y
  same : x ≡ y → Compared x y

pub compared : (x y : ℕ) → Compared x y
compared x y = go (ltb x y) (ltb y x) refl refl
  where
    go : (t u : Bool) → ltb x y ≡ t → ltb y x ≡ u → Compared x y
    go true u e f = less (ltb-true x y e)
    go false true e f = more (ltb-true y x f)
    go false false e f = same (omega (arith, ltb-false x y e, ltb-false y x f))

-- ---- strictly increasing

pub above_weaken : (y z : ℕ) (l : List ℕ) → y ≤ z → Above z l → Above y l
above_weaken y z [] h a = tt
above_weaken y z (x ∷ l) h a = (omega arith, a.1)

pub above_increasing : (z : ℕ) (l : List ℕ) → Above z l → Increasing l
above_increasing z [] a = tt
above_increasing z (x ∷ l) a = a.1

above_at : (z : ℕ) (l : List ℕ) (q : ℕ) → Above z l → q < length l → z < get_or l q 0
above_at z [] q a h = absurd (omega arith)
above_at z (x ∷ l) zero a h = a.0
above_at z (x ∷ l) (suc q) a h = let k = above_at x l q a.1 (omega arith) in omega arith

-- a later element is greater
pub rises : (l : List ℕ) (p q : ℕ) → Increasing l → p < q → q < length l → get_or l p 0 < get_or l q 0
rises [] p q i h k = absurd (omega arith)
rises (x ∷ l) zero zero i h k = absurd (omega arith)
rises (x ∷ l) zero (suc q) i h k = above_at x l q i (omega arith)
rises (x ∷ l) (suc p) zero i h k = absurd (omega arith)
rises (x ∷ l) (suc p) (suc q) i h k = rises l p q (above_increasing x l i) (omega arith) (omega arith)

-- ---- membership as a test

abbrev pub has : List ℕ → ℕ → Bool
has [] n = false
has (x ∷ l) n = eqb n x || has l n

or_true : (a b : Bool) → (a || b) ≡ true → (a ≡ true) ⊎ (b ≡ true)
or_true true b e = inl refl
or_true false b e = inr e

or_left : (a b : Bool) → a ≡ true → (a || b) ≡ true
or_left a b e = rw e

or_right : (a b : Bool) → b ≡ true → (a || b) ≡ true
or_right true b e = refl
or_right false b e = e

pub has_is : (l : List ℕ) (n : ℕ) → (has l n ≡ true) ↔ Memᴰ n l
has_is l n = (to l, back l)
  where
    to : (l : List ℕ) → has l n ≡ true → Memᴰ n l
    to [] e = let z : ◌≡◌ {A = ℕ} 0 1 = cc in absurd (omega arith)
    to (x ∷ l) e = go (or_true (eqb n x) (has l n) e) (to l)
      where
        go : (eqb n x ≡ true) ⊎ (has l n ≡ true) → (has l n ≡ true → Memᴰ n l) → Memᴰ n (x ∷ l)
        go (inl h) r = Memᴰ.head (eqb-true n x h)
        go (inr h) r = Memᴰ.tail (r h)

    back : (l : List ℕ) → Memᴰ n l → has l n ≡ true
    back [] m = elim m [ ]
    back (x ∷ l) (Memᴰ.head e) = or_left (eqb n x) (has l n) (eq-eqb n x e)
    back (x ∷ l) (Memᴰ.tail m) = or_right (eqb n x) (has l n) (back l m)

-- an element at a place
pub at_has : (l : List ℕ) (i n : ℕ) → i < length l → get_or l i 0 ≡ n → has l n ≡ true
at_has [] i n h e = absurd (omega arith)
at_has (x ∷ l) zero n h e = or_left (eqb n x) (has l n) (eq-eqb n x (sym e))
at_has (x ∷ l) (suc i) n h e = or_right (eqb n x) (has l n) (at_has l i n (omega arith) e)

-- and the place of an element
pub has_at : (l : List ℕ) (n : ℕ) → has l n ≡ true → (i : ℕ) × (i < length l) × (get_or l i 0 ≡ n)
has_at [] n e = let z : ◌≡◌ {A = ℕ} 0 1 = cc in absurd (omega arith)
has_at (x ∷ l) n e = go (or_true (eqb n x) (has l n) e) (has_at l n)
  where
    go : (eqb n x ≡ true) ⊎ (has l n ≡ true) → (has l n ≡ true → (i : ℕ) × (i < length l) × (get_or l i 0 ≡ n)) → (i : ℕ) × (i < length (x ∷ l)) × (get_or (x ∷ l) i 0 ≡ n)
    go (inl h) r = (0, omega arith, sym (eqb-true n x h))
    go (inr h) r = let k = r h in (suc k.0, omega arith, k.2)

-- ---- the elements that pass a test

module _ (p : ℕ → Bool) where
  pub passing_above : (z : ℕ) (l : List ℕ) → Above z l → Above z (passing p l)
  passing_above z [] a = tt
  passing_above z (x ∷ l) a = go (p x) (passing_above x l a.1)
    where
      go : (t : Bool) → Above x (passing p l) → Above z (cond t (x ∷ passing p l) (passing p l))
      go true r = (a.0, r)
      go false r = above_weaken z x (passing p l) (omega arith) r

  pub passing_increasing : (l : List ℕ) → Increasing l → Increasing (passing p l)
  passing_increasing [] i = tt
  passing_increasing (x ∷ l) i = go (p x) (passing_above x l i)
    where
      go : (t : Bool) → Above x (passing p l) → Increasing (cond t (x ∷ passing p l) (passing p l))
      go true r = r
      go false r = above_increasing x (passing p l) r

  pub passing_length : (l : List ℕ) → length (passing p l) ≤ length l
  passing_length [] = omega arith
  passing_length (x ∷ l) = go (p x) (passing_length l)
    where
      go : (t : Bool) → length (passing p l) ≤ length l → length (cond t (x ∷ passing p l) (passing p l)) ≤ suc (length l)
      go true r = omega arith
      go false r = omega arith

  pub passing_in : (l : List ℕ) (n : ℕ) → Memᴰ n (passing p l) ↔ (Memᴰ n l × (p n ≡ true))
  passing_in l n = (to l, λ h. back l h.0 h.1)
    where
      to : (l : List ℕ) → Memᴰ n (passing p l) → Memᴰ n l × (p n ≡ true)
      to [] m = elim m [ ]
      to (x ∷ l) m = go (p x) refl m (to l)
        where
          step : (Memᴰ n (passing p l) → Memᴰ n l × (p n ≡ true)) → p x ≡ true → (n ≡ x) ⊎ Memᴰ n (passing p l) → Memᴰ n (x ∷ l) × (p n ≡ true)
          step r e (inl q) = (Memᴰ.head q, rw q e)
          step r e (inr m) = let k = r m in (Memᴰ.tail k.0, k.1)

          go : (t : Bool) → p x ≡ t → Memᴰ n (cond t (x ∷ passing p l) (passing p l)) → (Memᴰ n (passing p l) → Memᴰ n l × (p n ≡ true)) → Memᴰ n (x ∷ l) × (p n ≡ true)
          go true e m r = step r e (Memᴰ.cases_cons m)
          go false e m r = let k = r m in (Memᴰ.tail k.0, k.1)

      back : (l : List ℕ) → Memᴰ n l → p n ≡ true → Memᴰ n (passing p l)
      back [] x'' e = elim x'' [ ]
      back (x ∷ l) (Memᴰ.head q) e = let f : p x ≡ true = subst (λ (y : ℕ). p y ≡ true) q e in rw f (Memᴰ.head q)
      back (x ∷ l) (Memᴰ.tail m) e = go (p x) (back l m e)
        where
          go : (t : Bool) → Memᴰ n (passing p l) → Memᴰ n (cond t (x ∷ passing p l) (passing p l))
          go true r = Memᴰ.tail r
          go false r = r

-- ---- what a function gives of one number after another

module _ {A B : Type 0} (f : ℕ → B) (g : A → B) where
  -- a function that gives at each place what g makes of the element there; z is what a list is asked for beyond its end
  pub from_list : (l : List A) (j : ℕ) → ((z : A) (i : ℕ) → i < length l → f (j + i) ≡ g (get_or l i z)) → from f j (length l) ≡ map g l
  unfolding from
  from_list [] j h = refl
  from_list (a ∷ l) j h =
      let e : f j ≡ g a = ap f (omega arith) ∙ h a 0 (omega arith) in
      let r = from_list l (j + 1) (λ z i k. ap f (omega arith) ∙ h z (suc i) (omega arith)) in
      rw (e, r)
