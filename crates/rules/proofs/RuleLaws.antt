-- A rule that was written reads back, and the rows of other ids read as they did, whatever the table holds.
use Prim.Native.Nat.{ℕ, zero, suc, min, ◌+◌, ◌-◌, ◌*◌, ◌^◌, ◌≤◌, ◌<◌}
use native.Mathlib.Omega.{arith}
use native.Mathlib.Nat.{add-zero, mul-suc, mul-le-mul_left}
use mathlib.Core.Path.{◌≡◌, refl, sym, ap, subst, ◌∙◌}
use mathlib.Core.List.{List, [], ◌∷◌, map, map-id}
use lib.ListN.{length, get_or, take, length-append, length-map, length-take, get_or-map, get_or-append}
use lib.Seq.{sets, length-sets, get_or-append-add}
use Rattle.integers.specs.Lists.{All, from}
use Rattle.integers.proofs.ListLaws.{Compared, less, more, same, compared, from_list}
use Rattle.integers.proofs.Stores.{sets_before, sets_after, sets_in}
use Rattle.limits.specs.Context.{Context}
use Rattle.std.proofs.Common.{None, Some}
use Rattle.rules.specs.declared.AggregateFunction.{AggregateFunction}
use Rattle.rules.specs.declared.AggregateFunction.TheVariants.{Count, Sum, SumPlus, Min, Max}
use Rattle.rules.specs.declared.Relation.{Relation}
use Rattle.rules.specs.declared.Relation.TheVariants.{Lt, Le, Gt, Ge, Eq, Neq}
use Rattle.rules.specs.declared.Binding.{Binding}
use Rattle.rules.specs.declared.Binding.TheVariants.{Positive, Assign, Range, Aggregate}
use Rattle.rules.specs.declared.Guard.{Guard}
use Rattle.rules.specs.declared.Guard.TheVariants.{Compare, Membership}
use Rattle.rules.specs.declared.Head.{Head}
use Rattle.rules.specs.declared.Rule.{Rule}
use Rattle.sizes.specs.Sizes.{rule_row}
use Rattle.rules.specs.Rule.{function_number, relation_number, binding_cells, guard_cells, head_cells, context_mark, context_number, fixed_cells, bindings_of, guards_of, heads_of, flat, cell, put_rule}
use Rattle.rules.specs.Read.{function_of, relation_of, binding_of, guard_of, head_of, context_of, slots_at, context_at, binding_count, guard_count, head_count, binding_at, guard_at, head_at, bindings_at, guards_at, heads_at}
use Rattle.rules.proofs.CodeLaws.{binding_width, guard_width, head_width}

-- ---- rules whose row holds all that they have

-- what a row has room for
pub record Short (r : Rule) : Type 0 where
  pub slots : r.slots ≤ 16
  pub bindings : r.lengths.bindings ≤ 32
  pub guards : r.lengths.guards ≤ 32
  pub heads : r.lengths.heads ≤ 16

-- numbers that a cell holds
abbrev pub SmallBinding : Binding → Type 0
SmallBinding (Positive slot argument) = (slot < 2 ^ 32) × (argument < 2 ^ 32)
SmallBinding (Assign slot value) = (slot < 2 ^ 32) × (value < 2 ^ 32)
SmallBinding (Range slot low high) = (slot < 2 ^ 32) × ((low < 2 ^ 32) × (high < 2 ^ 32))
SmallBinding (Aggregate slot function) = slot < 2 ^ 32

abbrev pub SmallGuard : Guard → Type 0
SmallGuard (Compare left relation right) = (left < 2 ^ 32) × (right < 2 ^ 32)
SmallGuard (Membership slot low high) = (slot < 2 ^ 32) × ((low < 2 ^ 32) × (high < 2 ^ 32))

abbrev pub SmallHead : Head → Type 0
SmallHead h = (h.argument < 2 ^ 32) × (h.value < 2 ^ 32)

abbrev pub SmallContext : Context → Type 0
SmallContext None = Unit {0}
SmallContext (Some c) = c < 2 ^ 32

pub record Small (r : Rule) : Type 0 where
  pub slots : r.slots < 2 ^ 32
  pub bindings : All SmallBinding (bindings_of r)
  pub guards : All SmallGuard (guards_of r)
  pub heads : All SmallHead (heads_of r)

-- ---- one item and its cells

function_back : (f : AggregateFunction) → function_of (cell (function_number f)) ≡ f
function_back Count = refl
function_back Sum = refl
function_back SumPlus = refl
function_back Min = refl
function_back Max = refl

relation_back : (x : Relation) → relation_of (cell (relation_number x)) ≡ x
relation_back Lt = refl
relation_back Le = refl
relation_back Gt = refl
relation_back Ge = refl
relation_back Eq = refl
relation_back Neq = refl

small_cell : (n : ℕ) → n < 2 ^ 32 → cell n ≡ n
small_cell n h = omega arith

binding_back : (b : Binding) → SmallBinding b → let l = binding_cells b in
    binding_of (cell (get_or l 0 0)) (cell (get_or l 1 0)) (cell (get_or l 2 0)) (cell (get_or l 3 0)) ≡ b
binding_back (Positive slot argument) h = λ d. Positive (small_cell slot h.0 d) (small_cell argument h.1 d)
binding_back (Assign slot value) h = λ d. Assign (small_cell slot h.0 d) (small_cell value h.1 d)
binding_back (Range slot low high) h = λ d. Range (small_cell slot h.0 d) (small_cell low h.1.0 d) (small_cell high h.1.1 d)
binding_back (Aggregate slot function) h = λ d. Aggregate (small_cell slot h d) (function_back function d)

guard_back : (g : Guard) → SmallGuard g → let l = guard_cells g in
    guard_of (cell (get_or l 0 0)) (cell (get_or l 1 0)) (cell (get_or l 2 0)) (cell (get_or l 3 0)) ≡ g
guard_back (Compare left relation right) h = λ d. Compare (small_cell left h.0 d) (relation_back relation d) (small_cell right h.1 d)
guard_back (Membership slot low high) h = λ d. Membership (small_cell slot h.0 d) (small_cell low h.1.0 d) (small_cell high h.1.1 d)

head_back : (h : Head) → SmallHead h → let l = head_cells h in head_of (cell (get_or l 0 0)) (cell (get_or l 1 0)) ≡ h
head_back h s = λ d. head_of (small_cell h.argument s.0 d) (small_cell h.value s.1 d)

context_back : (c : Context) → SmallContext c → context_of (cell (context_mark c)) (cell (context_number c)) ≡ c
context_back None h = refl
context_back (Some c) h = ap Some (small_cell c h)

-- ---- items one after another, each of `width` cells

module _ {A : Type 0} (f : A → List ℕ) (width : ℕ) (wide : (a : A) → length (f a) ≡ width) where
  flat_length : (l : List A) → length (flat f l) ≡ width * length l
  unfolding flat
  flat_length [] = omega arith
  flat_length (a ∷ l) = rw (mul-suc width (length l)) (simp length-append (omega (arith, wide a, flat_length l)))

  flat_cell : (z : A) (l : List A) (j k : ℕ) → j < length l → k < width → get_or (flat f l) (width * j + k) 0 ≡ get_or (f (get_or l j z)) k 0
  unfolding flat
  flat_cell z [] j k h g = absurd (omega arith)
  flat_cell z (a ∷ l) zero k h g =
      let e : width * 0 + k ≡ k = omega arith in
      rw e (get_or-append (f a) (flat f l) 0 k (omega (arith, wide a)))
  flat_cell z (a ∷ l) (suc j) k h g =
      let e : width * suc j + k ≡ length (f a) + (width * j + k) = rw (mul-suc width j) (omega (arith, wide a)) in
      rw e (get_or-append-add (f a) (flat f l) (width * j + k) 0) ∙ flat_cell z l j k (omega arith) g

  -- the cells that are written: the numbers' low 32 bits
  item_cell : (z : A) (l : List A) (j k : ℕ) → j < length l → k < width → get_or (map cell (flat f l)) (width * j + k) 0 ≡ cell (get_or (f (get_or l j z)) k 0)
  item_cell z l j k h g = get_or-map cell (flat f l) (width * j + k) 0 ∙ ap cell (flat_cell z l j k h g)

  items_length : (l : List A) → length (map cell (flat f l)) ≡ width * length l
  items_length l = length-map (flat f l) cell ∙ flat_length l

  -- where a table has them from `at` on
  module _ (l : List A) (t : List ℕ) (at : ℕ) (part : (k : ℕ) → k < length (map cell (flat f l)) → get_or t (at + k) 0 ≡ get_or (map cell (flat f l)) k 0)
      (z : A) (j : ℕ) (h : j < length l) where
    part_cell : (k : ℕ) → k < width → get_or t (at + width * j + k) 0 ≡ cell (get_or (f (get_or l j z)) k 0)
    part_cell k g =
        let e : at + width * j + k ≡ at + (width * j + k) = omega arith in
        let m : width * j + width ≤ width * length l = rw (mul-suc width j) at (mul-le-mul_left width h) in
        rw e (part (width * j + k) (omega (arith, items_length l)) ∙ item_cell z l j k h g)

    part_first : 0 < width → get_or t (at + width * j) 0 ≡ cell (get_or (f (get_or l j z)) 0 0)
    part_first g = subst (λ (i : ℕ). get_or t i 0 ≡ cell (get_or (f (get_or l j z)) 0 0)) (add-zero (at + width * j)) (part_cell 0 g)

-- ---- the four parts of a row: each is where it was written, since none reaches into the next

module _ (cells fixed bindings guards heads : List ℕ) (b : ℕ) (few : length fixed ≤ 6) (few₁ : length bindings ≤ 128) (few₂ : length guards ≤ 128) (few₃ : length heads ≤ 32) where
  abbrev one : List ℕ
  one = sets cells b fixed

  abbrev two : List ℕ
  two = sets one (b + 6) bindings

  abbrev three : List ℕ
  three = sets two (b + 134) guards

  abbrev four : List ℕ
  four = sets three (b + 262) heads

  parts_before : (m : ℕ) → m < b → get_or four m 0 ≡ get_or cells m 0
  parts_before m h =
      sets_before 0 heads three (b + 262) m (omega arith)
      ∙ sets_before 0 guards two (b + 134) m (omega arith)
      ∙ sets_before 0 bindings one (b + 6) m (omega arith)
      ∙ sets_before 0 fixed cells b m h

  parts_after : (m : ℕ) → b + 294 ≤ m → get_or four m 0 ≡ get_or cells m 0
  parts_after m h =
      sets_after 0 heads three (b + 262) m (omega arith)
      ∙ sets_after 0 guards two (b + 134) m (omega arith)
      ∙ sets_after 0 bindings one (b + 6) m (omega arith)
      ∙ sets_after 0 fixed cells b m (omega arith)

  module _ (room : b + 294 ≤ length cells) where
    in_fixed : (k : ℕ) → k < length fixed → get_or four (b + k) 0 ≡ get_or fixed k 0
    in_fixed k h =
        sets_before 0 heads three (b + 262) (b + k) (omega arith)
        ∙ sets_before 0 guards two (b + 134) (b + k) (omega arith)
        ∙ sets_before 0 bindings one (b + 6) (b + k) (omega arith)
        ∙ sets_in 0 fixed cells b k h (omega arith)

    in_bindings_lem : (k : ℕ) → k < length bindings → get_or four (b + 6 + k) 0 ≡ get_or bindings k 0
    in_bindings_lem k h =
        sets_before 0 heads three (b + 262) (b + 6 + k) (omega arith)
        ∙ sets_before 0 guards two (b + 134) (b + 6 + k) (omega arith)
        ∙ sets_in 0 bindings one (b + 6) k h (simp length-sets (omega arith))

    in_guards_lem : (k : ℕ) → k < length guards → get_or four (b + 134 + k) 0 ≡ get_or guards k 0
    in_guards_lem k h =
        sets_before 0 heads three (b + 262) (b + 134 + k) (omega arith)
        ∙ sets_in 0 guards two (b + 134) k h (simp length-sets (omega arith))

    in_heads : (k : ℕ) → k < length heads → get_or four (b + 262 + k) 0 ≡ get_or heads k 0
    in_heads k h = sets_in 0 heads three (b + 262) k h (simp length-sets (omega arith))

-- ---- a whole row

all_at : {A : Type 0} (P : A → Type 0) (l : List A) (j : ℕ) (z : A) → All P l → j < length l → P (get_or l j z)
all_at P [] j z a h = absurd (omega arith)
all_at P (x ∷ l) zero z a h = a.0
all_at P (x ∷ l) (suc j) z a h = all_at P l j z a.1 (omega arith)

taken_few : {A : Type 0} (n : ℕ) (l : List A) → length (take n l) ≤ n
taken_few n l = simp length-take (omega arith)

module _ (cells : List ℕ) (id : ℕ) (r : Rule) (c : Context) (short : Short r) where
  abbrev fixed : List ℕ
  fixed = map cell (fixed_cells r c)

  abbrev bindings : List ℕ
  bindings = map cell (flat binding_cells (bindings_of r))

  abbrev guards : List ℕ
  guards = map cell (flat guard_cells (guards_of r))

  abbrev heads : List ℕ
  heads = map cell (flat head_cells (heads_of r))

  bindings_long : length bindings ≡ 4 * length (bindings_of r)
  bindings_long = items_length binding_cells 4 binding_width (bindings_of r)

  guards_long : length guards ≡ 4 * length (guards_of r)
  guards_long = items_length guard_cells 4 guard_width (guards_of r)

  heads_long : length heads ≡ 2 * length (heads_of r)
  heads_long = items_length head_cells 2 head_width (heads_of r)

  few_bindings : length bindings ≤ 128
  few_bindings = omega (arith, bindings_long, short.bindings, taken_few r.lengths.bindings r.bindings)

  few_guards : length guards ≤ 128
  few_guards = omega (arith, guards_long, short.guards, taken_few r.lengths.guards r.guards)

  few_heads : length heads ≤ 32
  few_heads = omega (arith, heads_long, short.heads, taken_few r.lengths.heads r.heads)

  -- its own
  module _ (room : rule_row * id + rule_row ≤ length cells) (small : Small r) where
    fixed_cell : (k : ℕ) → k < 6 → get_or (put_rule cells id r c) (rule_row * id + k) 0 ≡ get_or fixed k 0
    unfolding put_rule
    fixed_cell k h = in_fixed cells fixed bindings guards heads (rule_row * id) (omega arith) few_bindings few_guards few_heads room k h

    pub slots_back : slots_at (put_rule cells id r c) id ≡ r.slots
    unfolding slots_at
    slots_back =
        ap (λ (n : ℕ). min n 16)
        (subst (λ (i : ℕ). get_or (put_rule cells id r c) i 0 ≡ r.slots) (add-zero (rule_row * id)) (fixed_cell 0 (omega arith) ∙ small_cell r.slots (omega (arith, short.slots))))
        ∙ omega (arith, short.slots)

    pub context_reads : SmallContext c → context_at (put_rule cells id r c) id ≡ c
    unfolding context_at
    context_reads s = rw (fixed_cell 1 (omega arith), fixed_cell 2 (omega arith)) (context_back c s)

    pub binding_count_back : binding_count (put_rule cells id r c) id ≡ r.lengths.bindings
    unfolding binding_count
    binding_count_back = rw (fixed_cell 3 (omega arith)) (omega (arith, short.bindings))

    pub guard_count_back : guard_count (put_rule cells id r c) id ≡ r.lengths.guards
    unfolding guard_count
    guard_count_back = rw (fixed_cell 4 (omega arith)) (omega (arith, short.guards))

    pub head_count_back : head_count (put_rule cells id r c) id ≡ r.lengths.heads
    unfolding head_count
    head_count_back = rw (fixed_cell 5 (omega arith)) (omega (arith, short.heads))

    -- the j-th of each; z is what a list is asked for beyond its end
    pub binding_reads : (z : Binding) (j : ℕ) → j < length (bindings_of r) → binding_at (put_rule cells id r c) id j ≡ get_or (bindings_of r) j z
    unfolding binding_at put_rule
    binding_reads z j h =
        let f : Binding → List ℕ = binding_cells in
        let t = put_rule cells id r c in
        let part = in_bindings_lem cells fixed bindings guards heads (rule_row * id) (omega arith) few_bindings few_guards few_heads room in
        rw (
          part_first f 4 binding_width (bindings_of r) t (rule_row * id + 6) part z j h (omega arith),
          part_cell f 4 binding_width (bindings_of r) t (rule_row * id + 6) part z j h 1 (omega arith),
          part_cell f 4 binding_width (bindings_of r) t (rule_row * id + 6) part z j h 2 (omega arith),
          part_cell f 4 binding_width (bindings_of r) t (rule_row * id + 6) part z j h 3 (omega arith),
        )
        (binding_back (get_or (bindings_of r) j z) (all_at SmallBinding (bindings_of r) j z small.bindings h))

    pub guard_reads : (z : Guard) (j : ℕ) → j < length (guards_of r) → guard_at (put_rule cells id r c) id j ≡ get_or (guards_of r) j z
    unfolding guard_at put_rule
    guard_reads z j h =
        let f : Guard → List ℕ = guard_cells in
        let t = put_rule cells id r c in
        let part = in_guards_lem cells fixed bindings guards heads (rule_row * id) (omega arith) few_bindings few_guards few_heads room in
        rw (
          part_first f 4 guard_width (guards_of r) t (rule_row * id + 134) part z j h (omega arith),
          part_cell f 4 guard_width (guards_of r) t (rule_row * id + 134) part z j h 1 (omega arith),
          part_cell f 4 guard_width (guards_of r) t (rule_row * id + 134) part z j h 2 (omega arith),
          part_cell f 4 guard_width (guards_of r) t (rule_row * id + 134) part z j h 3 (omega arith),
        )
        (guard_back (get_or (guards_of r) j z) (all_at SmallGuard (guards_of r) j z small.guards h))

    pub head_reads : (z : Head) (j : ℕ) → j < length (heads_of r) → head_at (put_rule cells id r c) id j ≡ get_or (heads_of r) j z
    unfolding head_at put_rule
    head_reads z j h =
        let t = put_rule cells id r c in
        let part = in_heads cells fixed bindings guards heads (rule_row * id) (omega arith) few_bindings few_guards few_heads room in
        rw (
          part_first head_cells 2 head_width (heads_of r) t (rule_row * id + 262) part z j h (omega arith),
          part_cell head_cells 2 head_width (heads_of r) t (rule_row * id + 262) part z j h 1 (omega arith),
        )
        (head_back (get_or (heads_of r) j z) (all_at SmallHead (heads_of r) j z small.heads h))

  -- and another's, whatever the table holds
  module _ (j : ℕ) (other : j ≡ id → ⊥) where
    cell_kept : (k : ℕ) → k < rule_row → get_or (put_rule cells id r c) (rule_row * j + k) 0 ≡ get_or cells (rule_row * j + k) 0
    unfolding put_rule
    cell_kept k h = go (compared j id)
      where
        go : Compared j id → get_or (put_rule cells id r c) (rule_row * j + k) 0 ≡ get_or cells (rule_row * j + k) 0
        go (less b) = parts_before cells fixed bindings guards heads (rule_row * id) (omega arith) few_bindings few_guards few_heads (rule_row * j + k) (omega arith)
        go (more b) = parts_after cells fixed bindings guards heads (rule_row * id) (omega arith) few_bindings few_guards few_heads (rule_row * j + k) (omega arith)
        go (same b) = absurd (other b)

    -- at any place of the row
    place_kept : (m : ℕ) → rule_row * j ≤ m → m < rule_row * j + rule_row → get_or (put_rule cells id r c) m 0 ≡ get_or cells m 0
    place_kept m a b =
        let e : rule_row * j + (m - rule_row * j) ≡ m = omega arith in
        subst (λ (i : ℕ). get_or (put_rule cells id r c) i 0 ≡ get_or cells i 0) e (cell_kept (m - rule_row * j) (omega arith))

    pub slots_kept : slots_at (put_rule cells id r c) j ≡ slots_at cells j
    unfolding slots_at
    slots_kept = ap (λ (n : ℕ). min n 16) (place_kept (rule_row * j) (omega arith) (omega arith))

    pub context_kept : context_at (put_rule cells id r c) j ≡ context_at cells j
    unfolding context_at
    context_kept = rw (cell_kept 1 (omega arith), cell_kept 2 (omega arith))

    pub binding_count_kept : binding_count (put_rule cells id r c) j ≡ binding_count cells j
    unfolding binding_count
    binding_count_kept = rw (cell_kept 3 (omega arith))

    pub guard_count_kept : guard_count (put_rule cells id r c) j ≡ guard_count cells j
    unfolding guard_count
    guard_count_kept = rw (cell_kept 4 (omega arith))

    pub head_count_kept : head_count (put_rule cells id r c) j ≡ head_count cells j
    unfolding head_count
    head_count_kept = rw (cell_kept 5 (omega arith))

    pub binding_kept : (i : ℕ) → i < 32 → binding_at (put_rule cells id r c) j i ≡ binding_at cells j i
    unfolding binding_at
    binding_kept i h =
        let m = rule_row * j + 6 + 4 * i in
        rw (place_kept m (omega arith) (omega arith), place_kept (m + 1) (omega arith) (omega arith), place_kept (m + 2) (omega arith) (omega arith), place_kept (m + 3) (omega arith) (omega arith))

    pub guard_kept : (i : ℕ) → i < 32 → guard_at (put_rule cells id r c) j i ≡ guard_at cells j i
    unfolding guard_at
    guard_kept i h =
        let m = rule_row * j + 134 + 4 * i in
        rw (place_kept m (omega arith) (omega arith), place_kept (m + 1) (omega arith) (omega arith), place_kept (m + 2) (omega arith) (omega arith), place_kept (m + 3) (omega arith) (omega arith))

    pub head_kept : (i : ℕ) → i < 16 → head_at (put_rule cells id r c) j i ≡ head_at cells j i
    unfolding head_at
    head_kept i h =
        let m = rule_row * j + 262 + 2 * i in
        rw (place_kept m (omega arith) (omega arith), place_kept (m + 1) (omega arith) (omega arith))

-- ---- all of it at once

-- what reads back of a rule and its context, in the row of an id; z is what a list is asked for beyond its end
pub record Row (r : Rule) (c : Context) (cells : List ℕ) (id : ℕ) : Type 0 where
  pub slots : slots_at cells id ≡ r.slots
  pub context : context_at cells id ≡ c
  pub binding_count_lem : binding_count cells id ≡ r.lengths.bindings
  pub guard_count_lem : guard_count cells id ≡ r.lengths.guards
  pub head_count_lem : head_count cells id ≡ r.lengths.heads
  pub bindings : (z : Binding) (j : ℕ) → j < length (bindings_of r) → binding_at cells id j ≡ get_or (bindings_of r) j z
  pub guards : (z : Guard) (j : ℕ) → j < length (guards_of r) → guard_at cells id j ≡ get_or (guards_of r) j z
  pub heads : (z : Head) (j : ℕ) → j < length (heads_of r) → head_at cells id j ≡ get_or (heads_of r) j z
  -- and as lists, where the arrays are as long as the lengths say
  pub all_bindings : r.lengths.bindings ≤ length r.bindings → bindings_at cells id ≡ bindings_of r
  pub all_guards : r.lengths.guards ≤ length r.guards → guards_at cells id ≡ guards_of r
  pub all_heads : r.lengths.heads ≤ length r.heads → heads_at cells id ≡ heads_of r

-- ---- how many there are to read: as many as the lengths say, if the arrays are long enough

pub bindings_there : (r : Rule) → r.lengths.bindings ≤ length r.bindings → length (bindings_of r) ≡ r.lengths.bindings
bindings_there r h = simp length-take (omega arith)

pub guards_there : (r : Rule) → r.lengths.guards ≤ length r.guards → length (guards_of r) ≡ r.lengths.guards
guards_there r h = simp length-take (omega arith)

pub heads_there : (r : Rule) → r.lengths.heads ≤ length r.heads → length (heads_of r) ≡ r.lengths.heads
heads_there r h = simp length-take (omega arith)

-- one after another, they are the list
listed : {A : Type 0} (f : ℕ → A) (l : List A) {n m : ℕ} → n ≡ m → length l ≡ m → ((z : A) (j : ℕ) → j < length l → f j ≡ get_or l j z) → from f 0 n ≡ l
listed f l e k h = ap (from f 0) (e ∙ sym k) ∙ from_list f (λ x. x) l 0 (λ z i b. ap f (omega arith) ∙ h z i b) ∙ map-id l

-- the numbers and the elements of a row make its lists
row_of : {r : Rule} {c : Context} {cells : List ℕ} {id : ℕ} → slots_at cells id ≡ r.slots → context_at cells id ≡ c →
    binding_count cells id ≡ r.lengths.bindings → guard_count cells id ≡ r.lengths.guards → head_count cells id ≡ r.lengths.heads →
    ((z : Binding) (j : ℕ) → j < length (bindings_of r) → binding_at cells id j ≡ get_or (bindings_of r) j z) →
    ((z : Guard) (j : ℕ) → j < length (guards_of r) → guard_at cells id j ≡ get_or (guards_of r) j z) →
    ((z : Head) (j : ℕ) → j < length (heads_of r) → head_at cells id j ≡ get_or (heads_of r) j z) → Row r c cells id
row_of {r} {c} {cells} {id} s x nb ng nh b g h = record {
  slots = s;
  context = x;
  binding_count_lem = nb;
  guard_count_lem = ng;
  head_count_lem = nh;
  bindings = b;
  guards = g;
  heads = h;
  all_bindings = λ k. listed (binding_at cells id) (bindings_of r) nb (bindings_there r k) b;
  all_guards = λ k. listed (guard_at cells id) (guards_of r) ng (guards_there r k) g;
  all_heads = λ k. listed (head_at cells id) (heads_of r) nh (heads_there r k) h;
}

module _ (cells : List ℕ) (id : ℕ) (r : Rule) (c : Context) where
  pub length_rule : length (put_rule cells id r c) ≡ length cells
  unfolding put_rule
  length_rule = simp length-sets refl

  pub rule_back : Short r → rule_row * id + rule_row ≤ length cells → Small r → SmallContext c → Row r c (put_rule cells id r c) id
  rule_back short room small s =
      row_of
      (slots_back cells id r c short room small)
      (context_reads cells id r c short room small s)
      (binding_count_back cells id r c short room small)
      (guard_count_back cells id r c short room small)
      (head_count_back cells id r c short room small)
      (binding_reads cells id r c short room small)
      (guard_reads cells id r c short room small)
      (head_reads cells id r c short room small)

  pub rule_kept : Short r → (q : Rule) (d : Context) (j : ℕ) → Short q → (j ≡ id → ⊥) → Row q d cells j → Row q d (put_rule cells id r c) j
  rule_kept short q d j few other p =
      row_of
      (slots_kept cells id r c short j other ∙ p.slots)
      (context_kept cells id r c short j other ∙ p.context)
      (binding_count_kept cells id r c short j other ∙ p.binding_count_lem)
      (guard_count_kept cells id r c short j other ∙ p.guard_count_lem)
      (head_count_kept cells id r c short j other ∙ p.head_count_lem)
      (λ z i h. binding_kept cells id r c short j other i (omega (arith, few.bindings, taken_few q.lengths.bindings q.bindings)) ∙ p.bindings z i h)
      (λ z i h. guard_kept cells id r c short j other i (omega (arith, few.guards, taken_few q.lengths.guards q.guards)) ∙ p.guards z i h)
      (λ z i h. head_kept cells id r c short j other i (omega (arith, few.heads, taken_few q.lengths.heads q.heads)) ∙ p.heads z i h)
