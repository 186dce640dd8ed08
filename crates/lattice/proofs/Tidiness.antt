-- Each operation keeps lists strictly increasing and no longer than 16 ids.
use Prim.Native.Nat.{ℕ}
use native.Mathlib.Omega.{arith}
use mathlib.Core.List.{List}
use lib.Dec.{leb}
use Rattle.limits.specs.Meter.{retain}
use Rattle.limits.proofs.Monad.{Ensures, by_pure, by_test, then, weaken, both}
use Rattle.interval.specs.declared.Interval.{Interval}
use Rattle.interval.specs.declared.Interval.TheVariants.{Bottom, Bounded, Unbounded}
use Rattle.interval.specs.declared.Bound.{Bound}
use Rattle.interval.specs.declared.Constant.{Constant}
use Rattle.interval.specs.declared.Constant.TheVariants.{Number, Name, Large}
use Rattle.lattice.specs.Value.{Value}
use Rattle.lattice.specs.Lattice.{numeric, retained, constant, copied, join, meet, refine}
use Rattle.lists.proofs.ListLaws.{Searchable}
use Rattle.lattice.proofs.Joins.{join_sorted, join_small}
use Rattle.lattice.proofs.Meets.{meet_sorted, meet_small}
use Rattle.lattice.proofs.Copies.{copied_is}

abbrev pub Tidy : Value → Type 0
Tidy v = Searchable v.values

pub numeric_tidy : (i : Interval) → Tidy (numeric i)
numeric_tidy Bottom = record { sorted = tt; small = omega arith }
numeric_tidy (Bounded low high) = record { sorted = tt; small = tt }
numeric_tidy Unbounded = record { sorted = tt; small = tt }

retained_tidy : (id : ℕ) (b : Bound) (width : ℕ) → Ensures Tidy (retained id b width)
retained_tidy id b width =
    by_test (leb 1 width) (λ _. then (retain 1) (by_pure _ record { sorted = tt; small = omega arith })) (λ _. by_pure _ record { sorted = tt; small = tt })

pub constant_tidy : (id : ℕ) (c : Constant) (width : ℕ) → Ensures Tidy (constant id c width)
constant_tidy id (Number n) width = retained_tidy id _ width
constant_tidy id Name width = retained_tidy id _ width
constant_tidy id Large width = by_pure _ record { sorted = tt; small = tt }

pub copied_tidy : (v : Value) → Tidy v → Ensures Tidy (copied v)
copied_tidy v t = weaken (λ w e. rw e t) (copied_is v)

pub join_tidy : (width : ℕ) (u v : Value) → Tidy u → Tidy v → Ensures Tidy (join width u v)
join_tidy width u v p q = weaken (λ w h. record { sorted = h.0; small = h.1 }) (both (join_sorted width u v p.sorted q.sorted) (join_small width u v))

pub meet_tidy : (cs : List ℕ) (u v : Value) → Tidy u → Tidy v → Ensures Tidy (meet cs u v)
meet_tidy cs u v p q =
    weaken (λ w h. record { sorted = h.0; small = h.1 })
    (both (meet_sorted cs u v p q) (meet_small cs u v p q))

pub refine_tidy : (cs : List ℕ) (v : Value) (i : Interval) → Tidy v → Ensures Tidy (refine cs v i)
unfolding refine
refine_tidy cs v i t = meet_tidy cs v (numeric i) t (numeric_tidy i)
