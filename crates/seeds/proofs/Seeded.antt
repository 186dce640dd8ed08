-- What holds of the seeds between calls: each seed is a value that its row holds exactly, with a list of retained constants that fits the
-- width; the live entries are those of the seeds; and no more arguments are counted as widened than have lost their list.
use Prim.Native.Nat.{ℕ, zero, suc, ◌+◌, ◌*◌, ◌^◌, ◌≤◌, ◌<◌}
use native.Mathlib.Omega.{arith}
use native.Mathlib.Nat.{min-le_left, min-le_right}
use native.Mathlib.Decide.{dec_lt, ℕ_discrete}
use mathlib.Core.Path.{◌≡◌, refl, sym, ap, ◌∙◌}
use mathlib.Core.Logic.{◌↔◌, ◌⊎◌, inl, inr}
use mathlib.Core.Bool.{true, false, cond}
use mathlib.Core.List.{List, [], ◌∷◌}
use mathlib.Core.Option.{Option, some, none}
use borrow.Author.Tests.{leb-true, eq-eqb, ne_eqb}
use lib.Dec.{leb, eqb}
use lib.IntN.{ℤ}
use lib.ListN.{length, get_or}
use Rattle.integers.specs.Order.{Le, Number}
use Rattle.integers.specs.Lists.{All}
use Rattle.integers.proofs.Tests.{by_cond}
use Rattle.integers.proofs.Totals.{total, total_same, total_change, total_part}
use Rattle.limits.specs.Meter.{retain}
use Rattle.limits.proofs.Monad.{Ensures, by_pure, by_test, then}
use Rattle.interval.specs.declared.Interval.TheVariants.{Bounded}
use Rattle.interval.specs.declared.Bound.{Bound}
use Rattle.interval.specs.declared.Constant.{Constant}
use Rattle.interval.specs.declared.Constant.TheVariants.{Number as number, Name, Large}
use Rattle.interval.specs.Bound.{constant_bound}
use Rattle.lists.specs.Lists.{union}
use Rattle.lists.proofs.ListLaws.{Sorted, room}
use Rattle.lists.proofs.Unions.{union_increasing}
use Rattle.lattice.specs.declared.Widening.TheVariants.{SymbolSize, ValueWidth}
use Rattle.lattice.specs.Value.{Reason}
use Rattle.std.specs.Prelude.{None, Some}
use Rattle.lattice.specs.Value.{Value, value}
use Rattle.lattice.specs.Constants.{constant_of, constant_at, Retained}
use Rattle.lattice.specs.Lattice.{bottom, numeric, retained, constant}
use Rattle.lattice.proofs.Joins.{joined_list, joined_value}
use Rattle.sizes.specs.Sizes.{value_row}
use Rattle.rows.specs.Row.{entries_of, value_at, put}
use Rattle.rows.specs.WellFormed.{Proper, Short, WellFormed}
use Rattle.rows.proofs.RowLaws.{length_put, put_back, put_other}
use Rattle.rows.proofs.Formed.{proper_hull}
use Rattle.rows.proofs.Good.{all_union}
use Rattle.rows.proofs.Lost.{lost, lost_in, lost_in_most}
use Rattle.store.specs.Calls.{bottoms}

-- ---- what a seed is

-- a list, if there is one, has ids of retained constants among the first k alone
abbrev pub Known : ℕ → List ℕ → Option (List ℕ) → Type 0
Known k constants none = Unit {0}
Known k constants (some l) = All (λ id. (id < k) × Retained constants id) l

-- and it fits the width
abbrev pub Fits : ℕ → Option (List ℕ) → Type 0
Fits width none = Unit {0}
Fits width (some l) = length l ≤ width

-- a regular seed
pub record Regular (width k : ℕ) (constants : List ℕ) (v : Value) : Type 0 where
  pub formed : WellFormed v
  pub sorted : Sorted v.values
  pub known : Known k constants v.values
  pub fits : Fits width v.values

-- each argument's seed is regular
pub record Seeded (width k positions : ℕ) (constants seeds : List ℕ) : Type 0 where
  pub at : (a : ℕ) → a < positions → Regular width k constants (value_at seeds a)

-- ---- sums over the arguments

-- the live entries of the first n seeds
abbrev pub entries_in : List ℕ → ℕ → ℕ
entries_in seeds n = total (λ a. entries_of (value_at seeds a)) n

-- between calls no entries are live but those of the seeds
abbrev pub Live : ℕ → ℕ → List ℕ → Type 0
Live entries positions seeds = entries ≡ entries_in seeds positions

-- each argument that was counted as widened has no list any more
abbrev pub Lost : ℕ → ℕ → List ℕ → Type 0
Lost widened positions seeds = widened ≤ lost_in seeds positions

-- ---- no positions, no entries and nothing widened

pub seeded_none : (width k : ℕ) (constants seeds : List ℕ) → Seeded width k 0 constants seeds
seeded_none width k constants seeds = record { at = λ a h. absurd (omega arith) }

pub live_none : (seeds : List ℕ) → Live 0 0 seeds
unfolding total
live_none seeds = refl

pub lost_none : (seeds : List ℕ) → Lost 0 0 seeds
lost_none seeds = omega arith

-- ---- no more are widened than there are arguments

pub lost_bound : (widened positions : ℕ) (seeds : List ℕ) → Lost widened positions seeds → widened ≤ positions
lost_bound widened positions seeds h = omega (arith, lost_in_most seeds positions)

-- ---- retained, as the lattice reads a constant

kind_to : (kind cell : ℕ) → (kind ≡ 1) ⊎ (kind ≡ 2) → constant_of kind cell ≡ Large → ⊥
kind_to kind cell (inl d) e =
    let y : eqb kind 1 ≡ true = eq-eqb kind 1 d in
    let z : ◌≡◌ {A = ℕ} 0 1 = cc (rw y at e) in
    omega arith
kind_to kind cell (inr d) e =
    let n : eqb kind 1 ≡ false = ne_eqb kind 1 (λ k. omega arith) in
    let y : eqb kind 2 ≡ true = eq-eqb kind 2 d in
    let z : ◌≡◌ {A = ℕ} 0 1 = cc (rw (n, y) at e) in
    omega arith

kind_from : (kind cell : ℕ) → (constant_of kind cell ≡ Large → ⊥) → (kind ≡ 1) ⊎ (kind ≡ 2)
kind_from kind cell h = elim (ℕ_discrete kind 1) [
  | yes e ↦ inl e
  | no d ↦ elim (ℕ_discrete kind 2) [
    | yes e ↦ inr e
    | no f ↦ absurd (h (rw (ne_eqb kind 1 d, ne_eqb kind 2 f)))
  ]
]

pub retained_is : (constants : List ℕ) (id : ℕ) → Retained constants id ↔ (constant_at constants id ≡ Large → ⊥)
retained_is constants id = (kind_to (get_or constants (2 * id) 0) (get_or constants (2 * id + 1) 0), kind_from (get_or constants (2 * id) 0) (get_or constants (2 * id + 1) 0))

-- ---- more constants, and other cells of which the kinds below k are the same

module _ (k k' : ℕ) (constants constants' : List ℕ) (more : k ≤ k') (same : (id : ℕ) → id < k → get_or constants' (2 * id) 0 ≡ get_or constants (2 * id) 0) where
  all_constants : (l : List ℕ) → All (λ id. (id < k) × Retained constants id) l → All (λ id. (id < k') × Retained constants' id) l
  all_constants [] h = tt
  all_constants (id ∷ l) h =
      let b : id < k = h.0.0 in
      ((omega arith, rw (same id b) h.0.1), all_constants l h.1)

  known_constants : (x : Option (List ℕ)) → Known k constants x → Known k' constants' x
  known_constants none h = tt
  known_constants (some l) h = all_constants l h

  pub seeded_constants : (width positions : ℕ) (seeds : List ℕ) → Seeded width k positions constants seeds → Seeded width k' positions constants' seeds
  seeded_constants width positions seeds h = record {
    at = λ a l.
        let p = h.at a l in
        record { formed = p.formed; sorted = p.sorted; known = known_constants (value_at seeds a).values p.known; fits = p.fits };
  }

-- ---- the values that are seeded

module _ (width k : ℕ) (constants : List ℕ) where
  -- nothing: the empty list
  pub regular_bottom : Regular width k constants bottom
  regular_bottom = record { formed = record { interval = tt; list = (omega arith, tt) }; sorted = tt; known = tt; fits = omega arith }

  pub regular_numeric : (low high : ℤ) → Number low → Number high → Le low high → Regular width k constants (numeric (Bounded low high))
  regular_numeric low high l h a = record { formed = record { interval = (l, (h, a)); list = tt }; sorted = tt; known = tt; fits = tt }

  module _ (id : ℕ) (inside : id < k) (few : k ≤ 1024) where
    one_regular : (b : Bound) → Proper b.interval → Retained constants id → Ensures (Regular width k constants) (retained id b width)
    one_regular b p h =
        by_test (leb 1 width)
        (λ e.
        let f : 1 ≤ width = leb-true 1 width e in
        then (retain 1) (by_pure _ record { formed = record { interval = p; list = (omega arith, (omega arith, tt)) }; sorted = tt; known = ((inside, h), tt); fits = omega arith }))
        (λ _. by_pure _ record { formed = record { interval = p; list = tt }; sorted = tt; known = tt; fits = tt })

    -- a constant, whose number is one of 32 bits
    pub regular_constant : ((n : ℤ) → constant_at constants id ≡ number n → Number n) → Ensures (Regular width k constants) (constant id (constant_at constants id) width)
    regular_constant numbers = go (constant_at constants id) refl
      where
        go : (c : Constant) → constant_at constants id ≡ c → Ensures (Regular width k constants) (constant id c width)
        go (number n) e =
            one_regular _ (numbers n e, (numbers n e, omega arith)) ((retained_is constants id).1 (λ l. let z : ◌≡◌ {A = ℕ} 0 1 = cc in omega arith))
        go Name e = one_regular _ tt ((retained_is constants id).1 (λ l. let z : ◌≡◌ {A = ℕ} 0 1 = cc in omega arith))
        go Large e = by_pure _ record { formed = record { interval = tt; list = tt }; sorted = tt; known = tt; fits = tt }

-- the value of a constant: a retained one has its id for a list, where the width admits one
abbrev pub listed : ℕ → Bound → ℕ → Value
listed id b width = cond (leb 1 width) (value b (some (id ∷ [])) None) (value b none (Some ValueWidth))

abbrev pub constant_seed : ℕ → Constant → ℕ → Value
constant_seed id (number n) width = listed id (constant_bound (number n)) width
constant_seed id Name width = listed id (constant_bound Name) width
constant_seed id Large width = value (constant_bound Large) none (Some SymbolSize)

listed_is : (id : ℕ) (b : Bound) (width : ℕ) → Ensures (λ v. v ≡ listed id b width) (retained id b width)
listed_is id b width = by_test (leb 1 width) (λ e. then (retain 1) (by_pure _ (rw e))) (λ e. by_pure _ (rw e))

pub constant_is : (id : ℕ) (c : Constant) (width : ℕ) → Ensures (λ v. v ≡ constant_seed id c width) (constant id c width)
constant_is id (number n) width = listed_is id (constant_bound (number n)) width
constant_is id Name width = listed_is id (constant_bound Name) width
constant_is id Large width = by_pure _ refl

-- ---- a join of two

module _ (width k : ℕ) (constants : List ℕ) where
  list_regular : (b : Bound) (r : Reason) (x y : Option (List ℕ)) → Proper b.interval → Short x → Short y → Sorted x → Sorted y → Known k constants x → Known k constants y →
      Regular width k constants (value b (joined_list width x y) r)
  list_regular b r none y p sx sy ox oy kx ky = record { formed = record { interval = p; list = tt }; sorted = tt; known = tt; fits = tt }
  list_regular b r (some x) none p sx sy ox oy kx ky = record { formed = record { interval = p; list = tt }; sorted = tt; known = tt; fits = tt }
  list_regular b r (some x) (some y) p sx sy ox oy kx ky =
      by_cond (λ o. Regular width k constants (value b o r)) (leb (length (union x y)) (room width))
      (λ e.
      let f : length (union x y) ≤ room width = leb-true (length (union x y)) (room width) e in
      let l = min-le_left width 16 in
      let g = min-le_right width 16 in
      record {
        formed = record { interval = p; list = (omega arith, all_union (λ n. n < 2 ^ 16) x y sx.1 sy.1) };
        sorted = union_increasing x y ox oy;
        known = all_union (λ id. (id < k) × Retained constants id) x y kx ky;
        fits = omega arith;
      })
      (λ _. record { formed = record { interval = p; list = tt }; sorted = tt; known = tt; fits = tt })

  pub regular_join : (u v : Value) → Regular width k constants u → Regular width k constants v → Regular width k constants (joined_value width u v)
  regular_join u v p q =
      list_regular _ _ u.values v.values (proper_hull u.bound.interval v.bound.interval p.formed.interval q.formed.interval)
      p.formed.list q.formed.list p.sorted q.sorted p.known q.known

-- ---- one seed is another

module _ (positions : ℕ) (seeds : List ℕ) (a : ℕ) (v : Value) (inside : a < positions) (size : value_row * positions ≤ length seeds) where
  back : WellFormed v → value_at (put seeds a v) a ≡ v
  back w = put_back seeds a v (omega arith) w

  module _ (f : Value → ℕ) (w : WellFormed v) where
    sum_put : total (λ i. f (value_at (put seeds a v) i)) positions + f (value_at seeds a) ≡ total (λ i. f (value_at seeds i)) positions + f v
    sum_put =
        total_change (λ i. f (value_at seeds i)) (λ i. f (value_at (put seeds a v) i)) a positions inside (λ i d. ap f (put_other seeds a v i d))
        ∙ ap (λ (x : Value). total (λ i. f (value_at seeds i)) positions + f x) (back w)

    pub old_part : f (value_at seeds a) ≤ total (λ i. f (value_at seeds i)) positions
    old_part = total_part (λ i. f (value_at seeds i)) a positions inside

  pub seeded_put : (width k : ℕ) (constants : List ℕ) → Seeded width k positions constants seeds → Regular width k constants v → Seeded width k positions constants (put seeds a v)
  seeded_put width k constants h p = record {
    at = λ i l. elim (ℕ_discrete i a) [
      | yes e ↦ rw (e, back p.formed) p
      | no d ↦ rw (put_other seeds a v i d) (h.at i l)
    ];
  }

  -- the entries of the old seed are not live any more
  pub live_put : (e e' : ℕ) → WellFormed v → Live e positions seeds → e' + entries_of (value_at seeds a) ≡ e + entries_of v → Live e' positions (put seeds a v)
  live_put e e' w h q = omega (arith, sum_put entries_of w)

  pub lost_put : (n n' : ℕ) → WellFormed v → Lost n positions seeds → n' + lost (value_at seeds a).values ≤ n + lost v.values → Lost n' positions (put seeds a v)
  lost_put n n' w h q = omega (arith, sum_put (λ x. lost x.values) w)

-- ---- new arguments, with nothing seeded

-- numbers that are 0 add nothing
total_beyond : (f g : ℕ → ℕ) (from n : ℕ) → ((i : ℕ) → i < from → g i ≡ f i) → ((i : ℕ) → from ≤ i → i < from + n → g i ≡ 0) → total g (from + n) ≡ total f from
unfolding total
total_beyond f g from zero h z = let e : from + 0 ≡ from = omega arith in ap (total g) e ∙ total_same f g from h
total_beyond f g from (suc n) h z =
    let e : from + suc n ≡ suc (from + n) = omega arith in
    let s = total_beyond f g from n h (λ i l m. z i l (omega arith)) in
    let d = z (from + n) (omega arith) (omega arith) in
    ap (total g) e ∙ omega arith

pub bottoms_length : (seeds : List ℕ) (from n : ℕ) → length (bottoms seeds from n) ≡ length seeds
unfolding bottoms
bottoms_length seeds from zero = refl
bottoms_length seeds from (suc n) = length_put (bottoms seeds from n) (from + n) bottom ∙ bottoms_length seeds from n

-- the arguments before them keep their seeds
pub bottoms_old : (seeds : List ℕ) (from n i : ℕ) → i < from → value_at (bottoms seeds from n) i ≡ value_at seeds i
unfolding bottoms
bottoms_old seeds from zero i l = refl
bottoms_old seeds from (suc n) i l = put_other (bottoms seeds from n) (from + n) bottom i (λ e. omega arith) ∙ bottoms_old seeds from n i l

pub bottoms_new : (seeds : List ℕ) (from n i : ℕ) → value_row * (from + n) ≤ length seeds → from ≤ i → i < from + n → value_at (bottoms seeds from n) i ≡ bottom
unfolding bottoms
bottoms_new seeds from zero i h l m = absurd (omega arith)
bottoms_new seeds from (suc n) i h l m = elim (ℕ_discrete i (from + n)) [
  | yes e ↦
      ap (value_at (put (bottoms seeds from n) (from + n) bottom)) e
      ∙ put_back (bottoms seeds from n) (from + n) bottom (omega (arith, bottoms_length seeds from n)) (regular_bottom 0 0 []).formed
  | no d ↦ put_other (bottoms seeds from n) (from + n) bottom i d ∙ bottoms_new seeds from n i (omega arith) l (omega (arith, below d))
]
  where
    below : (i ≡ from + n → ⊥) → i < from + n
    below d = elim (dec_lt i (from + n)) [ yes k ↦ k | no k ↦ absurd (d (omega arith)) ]

module _ (seeds : List ℕ) (positions arity : ℕ) (size : value_row * (positions + arity) ≤ length seeds) where
  pub seeded_bottoms : (width k : ℕ) (constants : List ℕ) → Seeded width k positions constants seeds → Seeded width k (positions + arity) constants (bottoms seeds positions arity)
  seeded_bottoms width k constants h = record {
    at = λ i l. elim (dec_lt i positions) [
      | yes m ↦ rw (bottoms_old seeds positions arity i m) (h.at i m)
      | no m ↦ rw (bottoms_new seeds positions arity i size (omega arith) l) (regular_bottom width k constants)
    ];
  }

  none_beyond : (f : Value → ℕ) → f bottom ≡ 0 → total (λ i. f (value_at (bottoms seeds positions arity) i)) (positions + arity) ≡ total (λ i. f (value_at seeds i)) positions
  none_beyond f e =
      total_beyond (λ i. f (value_at seeds i)) (λ i. f (value_at (bottoms seeds positions arity) i)) positions arity (λ i l. ap f (bottoms_old seeds positions arity i l))
      (λ i l m. ap f (bottoms_new seeds positions arity i size l m) ∙ e)

  pub live_bottoms : (e : ℕ) → Live e positions seeds → Live e (positions + arity) (bottoms seeds positions arity)
  live_bottoms e h = h ∙ sym (none_beyond entries_of refl)

  pub lost_bottoms : (n : ℕ) → Lost n positions seeds → Lost n (positions + arity) (bottoms seeds positions arity)
  lost_bottoms n h = omega (arith, none_beyond (λ v. lost v.values) refl)
