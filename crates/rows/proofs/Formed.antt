-- Each operation of the lattice makes a value that a row holds exactly, from such values: numbers of constants have 32 bits, as their cells
-- have.
use Prim.Native.Nat.{ℕ, ◌+◌, ◌*◌, ◌^◌, ◌≤◌, ◌<◌}
use native.Mathlib.Omega.{arith}
use native.Mathlib.Decide.{ℕ_discrete}
use mathlib.Core.Path.{◌≡◌, refl}
use mathlib.Core.Bool.{Bool, true, false, cond}
use mathlib.Core.List.{List, [], ◌∷◌, ◌++◌, foldl}
use mathlib.Core.Option.{Option, some, none}
use borrow.Author.Tests.{eq-eqb, ne_eqb}
use lib.Dec.{leb}
use lib.IntN.{ℤ}
use lib.ListN.{length, get_or, length-append}
use Rattle.integers.specs.Order.{Number, least32, greatest32, min_z, max_z}
use Rattle.integers.specs.Lists.{All}
use Rattle.integers.proofs.Tests.{by_cond}
use Rattle.integers.proofs.OrderLaws.{by_le, min_left, min_right, max_left, max_right, min_either, max_either}
use Rattle.integers.proofs.Stores.{all_get_d}
use Rattle.limits.specs.Meter.{work, retain}
use Rattle.limits.proofs.Monad.{Ensures, by_pure, by_test, bind, then, weaken, any_value}
use Rattle.interval.specs.declared.Interval.{Interval}
use Rattle.interval.specs.declared.Interval.TheVariants.{Bottom, Bounded, Unbounded}
use Rattle.interval.specs.declared.Bound.{Bound}
use Rattle.interval.specs.declared.Constant.{Constant}
use Rattle.interval.specs.declared.Constant.TheVariants.{Number as number, Name, Large}
use Rattle.interval.specs.Cousot as cousot
use Rattle.interval.specs.Interval.{interval, hull_of, meet_of, checked_of}
use Rattle.interval.specs.Bound.{bottom_bound, constant_bound, hull_bound, same_bound}
use Rattle.cells.specs.Cells.{of_cell}
use Rattle.cells.proofs.CellLaws.{of_number}
use Rattle.lattice.specs.Value.{Reason}
use Rattle.lattice.specs.Value.{Value}
use Rattle.lattice.specs.Constants.{constant_of, constant_at}
use Rattle.lattice.specs.Lattice.{bottom, top, numeric, retained, constant, copied, keep_one, sift, reduce, source, meet_lists, meet, refine}
use Rattle.lattice.proofs.Meets.{held_by, reduce_is}
use Rattle.lattice.proofs.Copies.{copied_is}
use Rattle.rows.specs.WellFormed.{Proper, Short, WellFormed}
use Rattle.rows.proofs.RowLaws.{ascending_proper}

-- ---- intervals

pub proper_hull : (x y : Interval) → Proper x → Proper y → Proper (hull_of x y)
unfolding hull_of
proper_hull Bottom Bottom p q = tt
proper_hull Bottom (Bounded c d) p q = q
proper_hull Bottom Unbounded p q = tt
proper_hull (Bounded a b) Bottom p q = p
proper_hull (Bounded a b) (Bounded c d) p q =
    (min_either Number a c p.0 q.0, (max_either Number b d p.1.0 q.1.0, omega (arith, min_left a c, max_left b d)))
proper_hull (Bounded a b) Unbounded p q = tt
proper_hull Unbounded Bottom p q = tt
proper_hull Unbounded (Bounded c d) p q = tt
proper_hull Unbounded Unbounded p q = tt

pub proper_meet : (x y : Interval) → Proper x → Proper y → Proper (meet_of x y)
unfolding meet_of
proper_meet Bottom y p q = tt
proper_meet (Bounded a b) Bottom p q = tt
proper_meet (Bounded a b) (Bounded c d) p q =
    ascending_proper (max_z a c) (min_z b d) (max_either Number a c p.0 q.0) (min_either Number b d p.1.0 q.1.0)
proper_meet (Bounded a b) Unbounded p q = ascending_proper a b p.0 p.1.0
proper_meet Unbounded Bottom p q = tt
proper_meet Unbounded (Bounded c d) p q = ascending_proper c d q.0 q.1.0
proper_meet Unbounded Unbounded p q = tt

-- whatever the two numbers are
pub proper_checked : (low high : ℤ) → Proper (checked_of low high)
unfolding checked_of
proper_checked low high =
    by_le (λ b. Proper (interval (cond b (cousot.between (cousot.from (max_z low least32)) (cousot.to (min_z high greatest32))) cousot.empty))) (max_z low least32) (min_z high greatest32)
    (λ h. ((max_right low least32, omega (arith, min_right high greatest32)), ((omega (arith, max_right low least32), min_right high greatest32), h)))
    (λ _. tt)

-- ---- values that nothing is charged for

pub bottom_formed : WellFormed bottom
bottom_formed = record { interval = tt; list = (omega arith, tt) }

pub top_formed : (r : Reason) → WellFormed (top r)
top_formed r = record { interval = tt; list = tt }

pub numeric_formed : (i : Interval) → Proper i → WellFormed (numeric i)
numeric_formed Bottom p = bottom_formed
numeric_formed (Bounded low high) p = record { interval = p; list = tt }
numeric_formed Unbounded p = record { interval = tt; list = tt }

-- ---- constants

-- a constant's number has 32 bits, as its cell has
pub number_fits : (constants : List ℕ) (id : ℕ) → get_or constants (2 * id + 1) 0 < 2 ^ 32 → (n : ℤ) → constant_at constants id ≡ number n → Number n
number_fits constants id h n e = go (get_or constants (2 * id) 0) (get_or constants (2 * id + 1) 0) h e
  where
    go : (kind cell : ℕ) → cell < 2 ^ 32 → constant_of kind cell ≡ number n → Number n
    go kind cell l e = elim (ℕ_discrete kind 1) [
      | yes d ↦
          let f : of_cell cell ≡ n = cc (rw (eq-eqb kind 1 d) at e) in
          rw (← f) (of_number cell l)
      | no d ↦ elim (ℕ_discrete kind 2) [
        | yes f ↦ let z : ◌≡◌ {A = ℕ} 0 1 = cc (rw (ne_eqb kind 1 d, eq-eqb kind 2 f) at e) in absurd (omega arith)
        | no f ↦ let z : ◌≡◌ {A = ℕ} 0 1 = cc (rw (ne_eqb kind 1 d, ne_eqb kind 2 f) at e) in absurd (omega arith)
      ]
    ]

pub constant_proper : (cs : List ℕ) → All (λ n. n < 2 ^ 32) cs → (id : ℕ) → Proper (constant_bound (constant_at cs id)).interval
constant_proper cs small id = go (constant_at cs id) (number_fits cs id (all_get_d (λ n. n < 2 ^ 32) cs (2 * id + 1) 0 small (omega arith)))
  where
    go : (c : Constant) → ((n : ℤ) → c ≡ number n → Number n) → Proper (constant_bound c).interval
    go (number n) f = (f n refl, (f n refl, omega arith))
    go Name f = tt
    go Large f = tt

retained_formed : (id : ℕ) (b : Bound) (width : ℕ) → id < 2 ^ 16 → Proper b.interval → Ensures WellFormed (retained id b width)
retained_formed id b width h p =
    by_test (leb 1 width) (λ _. then (retain 1) (by_pure _ record { interval = p; list = (omega arith, (h, tt)) })) (λ _. by_pure _ record { interval = p; list = tt })

pub constant_formed : (cs : List ℕ) → All (λ n. n < 2 ^ 32) cs → (id width : ℕ) → id < 2 ^ 16 → Ensures WellFormed (constant id (constant_at cs id) width)
constant_formed cs small id width h = go (constant_at cs id) (constant_proper cs small id)
  where
    go : (c : Constant) → Proper (constant_bound c).interval → Ensures WellFormed (constant id c width)
    go (number n) p = retained_formed id _ width h p
    go Name p = retained_formed id _ width h p
    go Large p = by_pure _ record { interval = tt; list = tt }

pub copied_formed : (v : Value) → WellFormed v → Ensures WellFormed (copied v)
copied_formed v f = weaken (λ w e. rw e f) (copied_is v)

-- ---- meets

all_last : (P : ℕ → Type 0) (l : List ℕ) (i : ℕ) → All P l → P i → All P (l ++ (i ∷ []))
all_last P [] i a p = (p, tt)
all_last P (x ∷ l) i a p = (a.0, all_last P l i a.1 p)

source_short : (x y : Option (List ℕ)) → Short x → Short y → Short (source x y)
source_short none y p q = q
source_short (some x) none p q = p
source_short (some x) (some y) p q = by_cond (λ l. Short (some l)) (leb (length x) (length y)) (λ _. p) (λ _. q)

module _ (cs : List ℕ) (small : All (λ n. n < 2 ^ 32) cs) where
  held_proper : (h : Bound) (l : List ℕ) → Proper h.interval → Proper (foldl (λ h i. hull_bound h (constant_bound (constant_at cs i))) h l).interval
  held_proper h [] p = p
  held_proper h (i ∷ l) p = held_proper (hull_bound h (constant_bound (constant_at cs i))) l (proper_hull h.interval _ p (constant_proper cs small i))

  reduce_proper : (b : Bound) (kept : List ℕ) → Proper b.interval → Ensures (λ r. Proper r.interval) (reduce b cs kept)
  reduce_proper b kept p = weaken (λ r e. rw e (proper_meet b.interval (held_by cs kept).interval p (held_proper bottom_bound kept tt))) (reduce_is b cs kept)

  module _ (u v : Value) where
    -- what is kept is some of both
    sift_some : (P : ℕ → Type 0) (b : Bound) (kept l : List ℕ) → All P kept → All P l → Ensures (λ r. All P r × (length r ≤ length kept + length l)) (sift u v b cs kept l)
    unfolding sift
    sift_some P b kept [] p q = by_pure kept (p, omega arith)
    sift_some P b kept (i ∷ l) p q = bind (any_value (keep_one u v b cs (length kept) i)) (λ t _. go t (λ k a. sift_some P b k l a q.1))
      where
        go : (t : Bool) → ((k : List ℕ) → All P k → Ensures (λ r. All P r × (length r ≤ length k + length l)) (sift u v b cs k l)) →
            Ensures (λ r. All P r × (length r ≤ length kept + length (i ∷ l))) (sift u v b cs (cond t (kept ++ (i ∷ [])) kept) l)
        go true f = weaken (λ r h. (h.0, omega (arith, h.1, length-append kept (i ∷ [])))) (f (kept ++ (i ∷ [])) (all_last P kept i p q.0))
        go false f = weaken (λ r h. (h.0, omega (arith, h.1))) (f kept p)

    lists_formed : (b : Bound) (o : Option (List ℕ)) → Proper b.interval → Short o → Ensures WellFormed (meet_lists u v b cs o)
    lists_formed b none p s = by_pure _ record { interval = p; list = by_cond Short (same_bound b bottom_bound) (λ _. (omega arith, tt)) (λ _. tt) }
    lists_formed b (some l) p s =
        bind (sift_some (λ n. n < 2 ^ 16) b [] l tt s.1)
        (λ kept h. bind (reduce_proper b kept p) (λ r q. by_pure _ record { interval = q; list = (omega (arith, h.1, s.0), h.0) }))

    pub meet_formed : WellFormed u → WellFormed v → Ensures WellFormed (meet cs u v)
    unfolding meet
    meet_formed f g =
        then (work 1)
        (lists_formed _ (source u.values v.values) (proper_meet u.bound.interval v.bound.interval f.interval g.interval) (source_short u.values v.values f.list g.list))

  pub refine_formed : (v : Value) (i : Interval) → WellFormed v → Proper i → Ensures WellFormed (refine cs v i)
  unfolding refine
  refine_formed v i f p = meet_formed v (numeric i) f (numeric_formed i p)
