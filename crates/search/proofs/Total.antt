-- Total orders by comparison: a table that stands in one of them, strictly, is what a binary search is complete in.
use Prim.Native.Nat.{ℕ, ◌+◌, ◌-◌, ◌≤◌, ◌<◌}
use native.Mathlib.Omega.{arith}
use mathlib.Core.Path.{◌≡◌, refl, sym, ap, subst, ◌∙◌}
use mathlib.Core.List.{List}
use lib.ListN.{length, get_or}
use Rattle.integers.specs.Lists.{inserted}
use Rattle.integers.proofs.ListLaws.{Compared, less, more, same, compared}
use Rattle.integers.proofs.Insertion.{inserted_below, inserted_at, inserted_above}
use Rattle.std.specs.declared.cmp.Ordering.{Ordering}
use Rattle.std.specs.declared.cmp.Ordering.TheVariants.{Less, Equal, Greater}
use Rattle.search.specs.Seek.{Place, found, absent}
use Rattle.search.proofs.Complete.{Rising, Below, Above, Ends}

abbrev pub turn : Ordering → Ordering
turn Less = Greater
turn Equal = Equal
turn Greater = Less

pub record Total {A : Type 0} (compare : A → A → Ordering) : Type 0 where
  pub turned : (a b : A) → compare b a ≡ turn (compare a b)
  pub trans : (a b c : A) → compare a b ≡ Less → compare b c ≡ Less → compare a c ≡ Less
  pub equal : (a b : A) → compare a b ≡ Equal → a ≡ b

fixed : (o : Ordering) → o ≡ turn o → o ≡ Equal
fixed Less e = let z : ◌≡◌ {A = ℕ} 0 1 = cc in absurd (omega arith)
fixed Equal e = refl
fixed Greater e = let z : ◌≡◌ {A = ℕ} 0 1 = cc in absurd (omega arith)

-- the first n items go up strictly
abbrev pub Sorted : {A : Type 0} → (A → A → Ordering) → (ℕ → A) → ℕ → Type 0
Sorted compare item n = (p q : ℕ) → p < q → q < n → compare (item p) (item q) ≡ Less

module _ {A : Type 0} {compare : A → A → Ordering} (o : Total compare) where
  pub after_turn : (a b : A) → compare a b ≡ Greater → compare b a ≡ Less
  after_turn a b e = o.turned a b ∙ ap turn e

  pub before_turn : (a b : A) → compare a b ≡ Less → compare b a ≡ Greater
  before_turn a b e = o.turned a b ∙ ap turn e

  pub alike : (a b : A) → a ≡ b → compare a b ≡ Equal
  alike a b e = rw e (fixed (compare b b) (o.turned b b))

  -- so how they stand to any value goes up too
  pub rising : (item : ℕ → A) (v : A) (n : ℕ) → Sorted compare item n → Rising (λ i. compare (item i) v) n
  rising item v n s = record {
    down = λ p q l m e. o.trans (item p) (item q) v (s p q l m) e;
    up = λ p q l m e. before_turn v (item q) (o.trans v (item p) (item q) (after_turn (item p) v e) (s p q l m));
  }

-- ---- where a search ends

module _ {A : Type 0} {compare : A → A → Ordering} (o : Total compare) (item : ℕ → A) (n : ℕ) (v : A) where
  -- nothing is equal to v; it would stand behind all below the place and before all from it on
  abbrev pub Gap : Place → Type 0
  Gap (found i) = ⊥
  Gap (absent low) = (low ≤ n) × Below (λ i. compare (item i) v) n low × Above (λ i. compare (item i) v) n low

  pub gap : ((i : ℕ) → i < n → item i ≡ v → ⊥) → (p : Place) → Ends (λ i. compare (item i) v) n p → Gap p
  gap f (found i) e = f i e.0 (o.equal (item i) v e.1)
  gap f (absent low) e = e

  module _ (s : Sorted compare item n) where
    apart : (i j : ℕ) → i < j → j < n → item i ≡ item j → ⊥
    apart i j h k e =
        let f : Less ≡ Equal = sym (s i j h k) ∙ alike o (item i) (item j) e in
        let z : ◌≡◌ {A = ℕ} 0 1 = cc in
        absurd (omega arith)

    -- an equal item stands at one place, which is found
    pub one_place : (i j : ℕ) → i < n → j < n → item i ≡ item j → i ≡ j
    one_place i j h k e = go (compared i j)
      where
        go : Compared i j → i ≡ j
        go (less b) = absurd (apart i j b k e)
        go (more b) = absurd (apart j i b h (sym e))
        go (same b) = b

    pub its_place : (i : ℕ) → i < n → item i ≡ v → (p : Place) → Ends (λ j. compare (item j) v) n p → p ≡ found i
    its_place i h e (found j) d = ap found (sym (one_place i j h d.0 (e ∙ sym (o.equal (item j) v d.1))))
    its_place i h e (absent low) d = go (compared i low)
      where
        is_equal : compare (item i) v ≡ Equal
        is_equal = alike o (item i) v e

        above : low ≤ i → absent low ≡ found i
        above b = let f : Greater ≡ Equal = sym (d.2 i b h) ∙ is_equal in let z : ◌≡◌ {A = ℕ} 0 1 = cc in absurd (omega arith)

        go : Compared i low → absent low ≡ found i
        go (less b) = let f : Less ≡ Equal = sym (d.1 i b) ∙ is_equal in let z : ◌≡◌ {A = ℕ} 0 1 = cc in absurd (omega arith)
        go (more b) = above (omega arith)
        go (same b) = above (omega arith)

-- ---- a value inserted at its place keeps the order; `item` tells what the values of the table stand for

module _ {A B : Type 0} {compare : A → A → Ordering} (o : Total compare) (item : B → A) (z : B) (l : List B) (n low : ℕ) (v : B) (h : low ≤ n) (k : n < length l) where
  data Stands (i : ℕ) : Type 0 where
    under : i < low → get_or (inserted l low n v) i z ≡ get_or l i z → Stands i
    new : i ≡ low → get_or (inserted l low n v) i z ≡ v → Stands i
    over : (j : ℕ) → i ≡ j + 1 → low ≤ j → j < n → get_or (inserted l low n v) i z ≡ get_or l j z → Stands i

  stands : (i : ℕ) → i < n + 1 → Stands i
  stands i b = go (compared i low)
    where
      go : Compared i low → Stands i
      go (less c) = under c (inserted_below z l low n v i c)
      go (more c) =
          let e : (i - 1) + 1 ≡ i = omega arith in
          over (i - 1) (sym e) (omega arith) (omega arith)
          (subst (λ (m : ℕ). get_or (inserted l low n v) m z ≡ get_or l (i - 1) z) e (inserted_above z l low n v h k (i - 1) (omega arith) (omega arith)))
      go (same c) = new c (rw c (inserted_at z l low n v h k))

  pub inserted_sorted : Sorted compare (λ i. item (get_or l i z)) n →
      Below (λ i. compare (item (get_or l i z)) (item v)) n low → Above (λ i. compare (item (get_or l i z)) (item v)) n low →
      Sorted compare (λ i. item (get_or (inserted l low n v) i z)) (n + 1)
  inserted_sorted s d u p q b c = go (stands p (omega arith)) (stands q c)
    where
      go : Stands p → Stands q → compare (item (get_or (inserted l low n v) p z)) (item (get_or (inserted l low n v) q z)) ≡ Less
      go (under x e) (under y f) = rw (e, f) (s p q b (omega arith))
      go (under x e) (new y f) = rw (e, f) (d p x)
      go (under x e) (over j y m t f) = rw (e, f) (s p j (omega arith) t)
      go (new x e) (under y f) = absurd (omega arith)
      go (new x e) (new y f) = absurd (omega arith)
      go (new x e) (over j y m t f) = rw (e, f) (after_turn o (item (get_or l j z)) (item v) (u j m t))
      go (over i x g r e) (under y f) = absurd (omega arith)
      go (over i x g r e) (new y f) = absurd (omega arith)
      go (over i x g r e) (over j y m t f) = rw (e, f) (s i j (omega arith) t)
