-- Lists: what a run of stores leaves, a list filled or written a cell at a time, parts of lists.
use Prim.Native.Nat.{ℕ, zero, suc, min, ◌+◌, ◌-◌, ◌≤◌, ◌<◌}
use native.Mathlib.Omega.{arith}
use native.Mathlib.Nat.{add-zero}
use native.Mathlib.Decide.{dec_lt, dec_le}
use mathlib.Core.Path.{◌≡◌, refl, sym, ap, subst, ◌∙◌}
use mathlib.Core.List.{List, [], ◌∷◌, ◌++◌}
use lib.ListN.{length, get_or, take, drop, set, length-set, length-take, length-drop, drop_of_length-le}
use lib.Seq.{sets, drop-cons, take_all, set_out, get_or-set_same, get_or-set_other, get_or-take, get_or-drop, ext_get_or}
use Rattle.integers.specs.Lists.{All}

module _ {A : Type 0} where
  -- ---- what a run of stores leaves

  pub sets_before : (z : A) (vs l : List A) (b m : ℕ) → m < b → get_or (sets l b vs) m z ≡ get_or l m z
  sets_before z [] l b m h = refl
  sets_before z (v ∷ vs) l b m h = sets_before z vs (set l b v) (suc b) m (omega arith) ∙ get_or-set_other l b m v z (omega arith)

  pub sets_after : (z : A) (vs l : List A) (b m : ℕ) → b + length vs ≤ m → get_or (sets l b vs) m z ≡ get_or l m z
  sets_after z [] l b m h = refl
  sets_after z (v ∷ vs) l b m h = sets_after z vs (set l b v) (suc b) m (omega arith) ∙ get_or-set_other l b m v z (omega arith)

  pub sets_in : (z : A) (vs l : List A) (b k : ℕ) → k < length vs → b + length vs ≤ length l → get_or (sets l b vs) (b + k) z ≡ get_or vs k z
  sets_in z [] l b k h g = absurd (omega arith)
  sets_in z (v ∷ vs) l b zero h g =
      rw add-zero (sets_before z vs (set l b v) (suc b) b (omega arith) ∙ get_or-set_same l b v z (omega arith))
  sets_in z (v ∷ vs) l b (suc k) h g =
      let e : b + suc k ≡ suc b + k = omega arith in
      rw e (sets_in z vs (set l b v) (suc b) k (omega arith) (simp length-set (omega arith)))

  -- beyond the end nothing is stored
  pub sets_out : (vs l : List A) (b : ℕ) → length l ≤ b → sets l b vs ≡ l
  sets_out [] l b h = refl
  sets_out (v ∷ vs) l b h = ap (λ (m : List A). sets m (suc b) vs) (set_out l b v h) ∙ sets_out vs l (suc b) (omega arith)

  -- what is stored in two parts
  pub sets_both : (l : List A) (b : ℕ) (xs ys : List A) → sets l b (xs ++ ys) ≡ sets (sets l b xs) (b + length xs) ys
  sets_both l b [] ys = ap (λ (n : ℕ). sets l n ys) (omega arith)
  sets_both l b (x ∷ xs) ys = sets_both (set l b x) (suc b) xs ys ∙ ap (λ (n : ℕ). sets (sets (set l b x) (suc b) xs) n ys) (omega arith)

  -- so a start beyond the end may be cut to it
  pub sets_min : (vs l : List A) (b : ℕ) → sets l (min b (length l)) vs ≡ sets l b vs
  sets_min vs l b = elim (dec_le b (length l)) [
    | yes h ↦ let e : min b (length l) ≡ b = omega arith in ap (λ (n : ℕ). sets l n vs) e
    | no h ↦ sets_out vs l (min b (length l)) (omega arith) ∙ sym (sets_out vs l b (omega arith))
  ]

  pub drop_min : (l : List A) (b : ℕ) → drop (min b (length l)) l ≡ drop b l
  drop_min l b = elim (dec_le b (length l)) [
    | yes h ↦ let e : min b (length l) ≡ b = omega arith in ap (λ (n : ℕ). drop n l) e
    | no h ↦ drop_of_length-le l {i = min b (length l)} (omega arith) ∙ sym (drop_of_length-le l {i = b} (omega arith))
  ]

  pub get_or_min : (z : A) (l : List A) (b k : ℕ) → get_or l (min b (length l) + k) z ≡ get_or l (b + k) z
  get_or_min z l b k = sym (get_or-drop (min b (length l)) l k z) ∙ ap (λ (m : List A). get_or m k z) (drop_min l b) ∙ get_or-drop b l k z

  pub take_min : (l : List A) (n : ℕ) → take (min n (length l)) l ≡ take n l
  take_min l n = elim (dec_le n (length l)) [
    | yes h ↦ let e : min n (length l) ≡ n = omega arith in ap (λ (m : ℕ). take m l) e
    | no h ↦ take_all (min n (length l)) l (omega arith) ∙ sym (take_all n l (omega arith))
  ]

  -- parts of two lists are the same where their cells are, if both are as long
  pub part_same : (z : A) (l m : List A) (a b n : ℕ) → min n (length l - a) ≡ min n (length m - b) →
      ((k : ℕ) → k < n → get_or l (a + k) z ≡ get_or m (b + k) z) → take n (drop a l) ≡ take n (drop b m)
  part_same z l m a b n h c =
      ext_get_or z (take n (drop a l)) (take n (drop b m)) (simp (length-take, length-drop) h)
      (λ i p.
      let q : i < n = omega (arith, simp (length-take, length-drop) at p) in
      get_or-take n (drop a l) i z q ∙ get_or-drop a l i z ∙ c i q ∙ sym (get_or-take n (drop b m) i z q ∙ get_or-drop b m i z))

  -- ---- a list filled from the front: its first j cells are f's

  pub record Filled (z : A) (f : ℕ → A) (l : List A) (j : ℕ) : Type 0 where
    pub cell : (k : ℕ) → k < j → get_or l k z ≡ f k

  pub filled_none : (z : A) (f : ℕ → A) (l : List A) → Filled z f l 0
  filled_none z f l = record { cell = λ k h. absurd (omega arith) }

  pub filled_more : {z : A} {f : ℕ → A} {l : List A} {j : ℕ} {a : A} → Filled z f l j → j < length l → a ≡ f j → Filled z f (set l j a) (j + 1)
  filled_more {z} {f} {l} {j} {a} p h e = record {
    cell = λ k g. elim (dec_lt k j) [
      | yes b ↦ get_or-set_other l j k a z (omega arith) ∙ p.cell k b
      | no b ↦ let s : j ≡ k = omega arith in subst (λ (m : ℕ). get_or (set l j a) m z ≡ f m) s (get_or-set_same l j a z h ∙ e)
    ];
  }

  pub filled_all : {z : A} {f : ℕ → A} {l : List A} {j : ℕ} → Filled z f l j → (m : List A) → length l ≡ length m → length m ≤ j →
      ((k : ℕ) → k < length m → get_or m k z ≡ f k) → l ≡ m
  filled_all {z} {l} p m e h g = ext_get_or z l m e (λ k b. p.cell k (omega arith) ∙ sym (g k (omega arith)))

  -- ---- a list written over a part of another, a cell at a time: what is to come of it, r, is what the cells from j on make of l

  pub record Writing (r l : List A) (at : ℕ) (s : List A) (j : ℕ) : Type 0 where
    pub rest : r ≡ sets l (at + j) (drop j s)

  pub writing_none : (l : List A) (at : ℕ) (s : List A) → Writing (sets l at s) l at s 0
  writing_none l at s = record { rest = rw add-zero }

  module _ {r l : List A} {at : ℕ} {s : List A} {j : ℕ} (p : Writing r l at s j) where
    pub writing_more : {a : A} {m : List A} (z : A) → j < length s → a ≡ get_or s j z → m ≡ set l (at + j) a → Writing r m at s (j + 1)
    writing_more z h e d =
        let n : at + (j + 1) ≡ suc (at + j) = omega arith in
        let k : j + 1 ≡ suc j = omega arith in
        record { rest = p.rest ∙ ap (sets l (at + j)) (drop-cons s j z h) ∙ rw (d, e, n, k) }

    pub writing_all : length s ≤ j → l ≡ r
    writing_all h = sym (p.rest ∙ ap (sets l (at + j)) (drop_of_length-le s h))

-- ---- what holds of every element

pub all_get_d : {A : Type 0} (P : A → Type 0) (l : List A) (i : ℕ) (z : A) → All P l → P z → P (get_or l i z)
all_get_d P [] i z h p = p
all_get_d P (a ∷ l) zero z h p = h.0
all_get_d P (a ∷ l) (suc i) z h p = all_get_d P l i z h.1 p

all_set : {A : Type 0} (P : A → Type 0) (l : List A) (i : ℕ) (v : A) → All P l → P v → All P (set l i v)
all_set P [] i v h p = tt
all_set P (a ∷ l) zero v h p = (p, h.1)
all_set P (a ∷ l) (suc i) v h p = (h.0, all_set P l i v h.1 p)

pub all_sets : {A : Type 0} (P : A → Type 0) (l : List A) (i : ℕ) (vs : List A) → All P l → All P vs → All P (sets l i vs)
all_sets P l i [] h p = h
all_sets P l i (v ∷ vs) h p = all_sets P (set l i v) (suc i) vs (all_set P l i v h p.0) p.1

-- what every element has, every element of a part has
pub all_take : {A : Type 0} (P : A → Type 0) (n : ℕ) (l : List A) → All P l → All P (take n l)
all_take P zero l h = tt
all_take P (suc n) [] h = tt
all_take P (suc n) (x ∷ l) h = (h.0, all_take P n l h.1)

pub all_drop : {A : Type 0} (P : A → Type 0) (n : ℕ) (l : List A) → All P l → All P (drop n l)
all_drop P zero l h = h
all_drop P (suc n) [] h = tt
all_drop P (suc n) (x ∷ l) h = all_drop P n l h.1
