-- What the writes of a rule leave, over plain variables.
use Prim.Native.Nat.{ℕ, suc, min, ◌+◌, ◌*◌, ◌≤◌, ◌<◌}
use native.Mathlib.Omega.{arith}
use native.Mathlib.Nat.{add-zero}
use native.Mathlib.Numerals.{add-one, towards_suc}
use mathlib.Core.Path.{◌≡◌, refl, sym, ap, ◌∙◌}
use mathlib.Core.List.{List, [], ◌∷◌, ◌++◌, map, map-append}
use mathlib.Core.Bool.{Bool, true, false, cond, not}
use lib.Dec.{eqb}
use Rattle.std.specs.Bool.{then_some}
use Rattle.std.specs.Prelude.{None, Some}
use lib.ListN.{length, get_or, drop, set, length-map, drop_of_length-le}
use lib.Seq.{sets, drop-cons}
use Rattle.integers.proofs.Stores.{sets_both, get_or_min}
use Rattle.limits.specs.Context.{Context}
use Rattle.rules.specs.declared.Binding.{Binding}
use Rattle.rules.specs.declared.Binding.TheVariants.{Positive, Assign, Range, Aggregate}
use Rattle.rules.specs.declared.Guard.{Guard}
use Rattle.rules.specs.declared.Guard.TheVariants.{Compare, Membership}
use Rattle.rules.specs.declared.Head.{Head}
use Rattle.rules.specs.declared.Rule.{Rule}
use Rattle.sizes.specs.Sizes.{rule_row}
use Rattle.rules.specs.Rule.{binding_cells, guard_cells, head_cells, fixed_cells, bindings_of, guards_of, heads_of, flat, cell, put_rule}
use Rattle.rules.specs.Read.{binding_of, guard_of, head_of, slots_at, context_at, binding_count, guard_count, head_count, binding_at, guard_at, head_at}

-- ---- cells one after another

pub four_put : (d : List ℕ) (at : ℕ) (a b c e : ℕ) {l₁ l₂ l₃ r : List ℕ} → l₁ ≡ set d at (cell a) → l₂ ≡ set l₁ (at + 1) (cell b) → l₃ ≡ set l₂ (at + 2) (cell c) →
    r ≡ set l₃ (at + 3) (cell e) → r ≡ sets d at (map cell (a ∷ b ∷ c ∷ e ∷ []))
four_put d at a b c e p₁ p₂ p₃ p = p ∙ rw (p₃, p₂, p₁) (simp towards_suc)

-- ---- a list of items, each of `width` cells: what is left to write, from the i-th on

pub record Putting {A : Type 0} (f : A → List ℕ) (width : ℕ) (r cells : List ℕ) (at : ℕ) (items : List A) (i : ℕ) : Type 0 where
  pub is : r ≡ sets cells (at + width * i) (map cell (flat f (drop i items)))

module _ {A : Type 0} (f : A → List ℕ) (width : ℕ) where
  pub put_none : (cells : List ℕ) (at : ℕ) (items : List A) → Putting f width (sets cells at (map cell (flat f items))) cells at items 0
  put_none cells at items = record { is = ap (λ (n : ℕ). sets cells n (map cell (flat f items))) (omega arith) }

  module _ {r cells : List ℕ} {at : ℕ} {items : List A} {i : ℕ} (p : Putting f width r cells at items i) where
    pub put_more : (z : A) {m : List ℕ} → i < length items → length (f (get_or items i z)) ≡ width → m ≡ sets cells (at + width * i) (map cell (f (get_or items i z))) → Putting f width r m at items (i + 1)
    unfolding flat
    put_more z {m} h w e = record {
      is =
          p.is
          ∙ ap (λ (l : List A). sets cells (at + width * i) (map cell (flat f l))) (drop-cons items i z h)
          ∙ ap (λ (l : List ℕ). sets cells (at + width * i) l) (map-append cell (f (get_or items i z)) (flat f (drop (suc i) items)))
          ∙ sets_both cells (at + width * i) (map cell (f (get_or items i z))) (map cell (flat f (drop (suc i) items)))
          ∙ rw (← e, length-map (f (get_or items i z)) cell, w, add-one) (ap (λ (n : ℕ). sets m n (map cell (flat f (drop (suc i) items)))) (omega arith));
    }

    pub put_all : length items ≤ i → cells ≡ r
    unfolding flat
    put_all h = sym (p.is ∙ rw (drop_of_length-le items {i = i} h))

-- ---- how many cells each has

pub binding_width : (b : Binding) → length (binding_cells b) ≡ 4
binding_width (Positive s a) = refl
binding_width (Assign s v) = refl
binding_width (Range s l h) = refl
binding_width (Aggregate s g) = refl

pub guard_width : (g : Guard) → length (guard_cells g) ≡ 4
guard_width (Compare l x r) = refl
guard_width (Membership s l h) = refl

pub head_width : (h : Head) → length (head_cells h) ≡ 2
head_width h = refl

-- ---- a whole row

pub rule_put : (d : List ℕ) (id : ℕ) (r : Rule) (c : Context) {l₁ l₂ l₃ l : List ℕ} → l₁ ≡ sets d (rule_row * id) (map cell (fixed_cells r c)) →
    l₂ ≡ sets l₁ (rule_row * id + 6) (map cell (flat binding_cells (bindings_of r))) →
    l₃ ≡ sets l₂ (rule_row * id + 134) (map cell (flat guard_cells (guards_of r))) → l ≡ sets l₃ (rule_row * id + 262) (map cell (flat head_cells (heads_of r))) → l ≡ put_rule d id r c
unfolding put_rule
rule_put d id r c p q s t = t ∙ rw (s, q, p)

-- ---- a context's two cells: any mark but 0 is one

unmarked : (zero : Bool) (n : ℕ) → then_some (not zero) n ≡ cond zero None (Some n)
unmarked true n = refl
unmarked false n = refl

-- ---- a cell of a row, which begins at the table's end where it would begin beyond

module _ (cells : List ℕ) where
  reached : (x a k : ℕ) → a ≡ min x (length cells) → get_or cells (a + k) 0 ≡ get_or cells (x + k) 0
  reached x a k e = ap (λ (n : ℕ). get_or cells (n + k) 0) e ∙ get_or_min 0 cells x k

  item_reached : (x y a b o k : ℕ) → a ≡ min x (length cells) → b ≡ min y (length cells) → get_or cells (a + o + b + k) 0 ≡ get_or cells (x + o + y + k) 0
  item_reached x y a b o k e f =
      let p : a + o + b + k ≡ a + (o + b + k) = omega arith in
      let q : x + (o + b + k) ≡ b + (x + o + k) = omega arith in
      let s : y + (x + o + k) ≡ x + o + y + k = omega arith in
      ap (λ (n : ℕ). get_or cells n 0) p ∙ reached x a (o + b + k) e ∙ ap (λ (n : ℕ). get_or cells n 0) q
      ∙ reached y b (x + o + k) f ∙ ap (λ (n : ℕ). get_or cells n 0) s

  item_first : (x y a b o : ℕ) → a ≡ min x (length cells) → b ≡ min y (length cells) → get_or cells (a + o + b) 0 ≡ get_or cells (x + o + y) 0
  item_first x y a b o e f =
      ap (λ (n : ℕ). get_or cells n 0) (sym (add-zero (a + o + b))) ∙ item_reached x y a b o 0 e f ∙ ap (λ (n : ℕ). get_or cells n 0) (add-zero (x + o + y))

  module _ (id at : ℕ) (start : at ≡ min (rule_row * id) (length cells)) where
    pub slots_read : {m n : ℕ} → m ≡ get_or cells at 0 → n ≡ min m 16 → n ≡ slots_at cells id
    unfolding slots_at
    slots_read p e =
        e
        ∙ ap (λ (m : ℕ). min m 16)
        (p ∙ ap (λ (n : ℕ). get_or cells n 0) (sym (add-zero at)) ∙ reached (rule_row * id) at 0 start ∙ ap (λ (n : ℕ). get_or cells n 0) (add-zero (rule_row * id)))

    pub context_read_lem : {m n : ℕ} {c : Context} → m ≡ get_or cells (at + 1) 0 → n ≡ get_or cells (at + 2) 0 → c ≡ then_some (not (eqb m 0)) n → c ≡ context_at cells id
    unfolding context_at
    context_read_lem {m} {n} p q e = e ∙ unmarked (eqb m 0) n ∙ rw (p, q, reached (rule_row * id) at 1 start, reached (rule_row * id) at 2 start)

    pub binding_count_read : {m n : ℕ} → m ≡ get_or cells (at + 3) 0 → n ≡ min m 32 → n ≡ binding_count cells id
    unfolding binding_count
    binding_count_read p e = e ∙ rw (p, reached (rule_row * id) at 3 start)

    pub guard_count_read : {m n : ℕ} → m ≡ get_or cells (at + 4) 0 → n ≡ min m 32 → n ≡ guard_count cells id
    unfolding guard_count
    guard_count_read p e = e ∙ rw (p, reached (rule_row * id) at 4 start)

    pub head_count_read : {m n : ℕ} → m ≡ get_or cells (at + 5) 0 → n ≡ min m 16 → n ≡ head_count cells id
    unfolding head_count
    head_count_read p e = e ∙ rw (p, reached (rule_row * id) at 5 start)

    module _ (j b : ℕ) where
      pub binding_read : {k l m n : ℕ} {x : Binding} → b ≡ min (4 * j) (length cells) → k ≡ get_or cells (at + 6 + b) 0 → l ≡ get_or cells (at + 6 + b + 1) 0 →
          m ≡ get_or cells (at + 6 + b + 2) 0 → n ≡ get_or cells (at + 6 + b + 3) 0 → x ≡ binding_of k l m n → x ≡ binding_at cells id j
      unfolding binding_at
      binding_read f p q r s e =
          let c = item_reached (rule_row * id) (4 * j) at b 6 in
          e ∙ rw (p, q, r, s, item_first (rule_row * id) (4 * j) at b 6 start f, c 1 start f, c 2 start f, c 3 start f)

      pub guard_read : {k l m n : ℕ} {x : Guard} → b ≡ min (4 * j) (length cells) → k ≡ get_or cells (at + 134 + b) 0 → l ≡ get_or cells (at + 134 + b + 1) 0 →
          m ≡ get_or cells (at + 134 + b + 2) 0 → n ≡ get_or cells (at + 134 + b + 3) 0 → x ≡ guard_of k l m n → x ≡ guard_at cells id j
      unfolding guard_at
      guard_read f p q r s e =
          let c = item_reached (rule_row * id) (4 * j) at b 134 in
          e ∙ rw (p, q, r, s, item_first (rule_row * id) (4 * j) at b 134 start f, c 1 start f, c 2 start f, c 3 start f)

      pub head_read : {k l : ℕ} → b ≡ min (2 * j) (length cells) → k ≡ get_or cells (at + 262 + b) 0 → l ≡ get_or cells (at + 262 + b + 1) 0 → {a v : ℕ} → a ≡ k → v ≡ l → head_of a v ≡ head_at cells id j
      unfolding head_at
      head_read f p q ea ev = rw (ea, ev, p, q, item_first (rule_row * id) (2 * j) at b 262 start f, item_reached (rule_row * id) (2 * j) at b 262 1 start f)
