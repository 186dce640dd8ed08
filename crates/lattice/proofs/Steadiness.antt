-- The value of each operation does not depend on the counts: from any two meters it is the same, where both runs complete.
use Prim.Native.Nat.{ℕ, min}
use mathlib.Core.Bool.{cond, ◌&&◌}
use mathlib.Core.List.{List, [], ◌∷◌, ◌++◌}
use mathlib.Core.Option.{Option, some, none}
use lib.Dec.{leb, eqb}
use lib.ListN.{length}
use Rattle.limits.specs.Meter.{work, retain, release, holding}
use Rattle.limits.proofs.Monad.{Steady, steady_pure, steady_test, steady_unit, steady_bind, steady_then, steady_fold, steady_through}
use Rattle.interval.specs.declared.Interval.{Interval}
use Rattle.interval.specs.declared.Bound.{Bound}
use Rattle.interval.specs.declared.Constant.{Constant}
use Rattle.interval.specs.declared.Constant.TheVariants.{Number, Name, Large}
use Rattle.interval.specs.Bound.{bottom_bound, meet_bound, same_bound, allows_of}
use Rattle.search.specs.Seek.{found?}
use Rattle.search.proofs.Complete.{steady_seek}
use Rattle.lattice.specs.Value.{Reason}
use Rattle.lattice.specs.Value.{Value}
use Rattle.lattice.specs.Constants.{constant_at}
use Rattle.lists.specs.Lists.{union, push, take_one, collect, list_turns, permits_in, permits, same_ids}
use Rattle.lattice.specs.Lattice.{numeric, retained, constant, copied_list, copied, same_lists, same, joined_of, join_lists, join, permitted, keep_one, sift, reduce, source, meet_lists, meet, refine}

-- ---- lists

take_steady : (width n : ℕ) → Steady (take_one width n)
unfolding take_one
take_steady width n =
    steady_then (steady_unit (holding n (work 1)))
    (steady_test (leb (min width 16) n) (λ _. steady_then (steady_unit (release n)) (steady_pure _)) (λ _. steady_then (steady_unit (push n)) (steady_pure _)))

collect_steady : (width : ℕ) (kept l : List ℕ) → Steady (collect width kept l)
unfolding collect
collect_steady width kept [] = steady_pure (some kept)
collect_steady width kept (i ∷ l) =
    steady_bind (take_steady width (length kept)) (λ t. steady_test t (λ _. collect_steady width (kept ++ (i ∷ [])) l) (λ _. steady_pure none))

pub permits_steady : (o : Option (List ℕ)) (id : ℕ) → Steady (permits o id)
unfolding permits_in
permits_steady none id = steady_pure _
permits_steady (some l) id = steady_bind (steady_seek _ list_turns 0 (length l)) (λ p. steady_pure (found? p))

same_ids_steady : (l r : List ℕ) → Steady (same_ids l r)
unfolding same_ids
same_ids_steady [] r = steady_pure _
same_ids_steady (a ∷ l) [] = steady_pure _
same_ids_steady (a ∷ l) (b ∷ r) = steady_then (steady_unit (work 1)) (steady_test (eqb a b) (λ _. same_ids_steady l r) (λ _. steady_pure _))

-- ---- values

retained_steady : (id : ℕ) (b : Bound) (width : ℕ) → Steady (retained id b width)
retained_steady id b width = steady_test (leb 1 width) (λ _. steady_then (steady_unit (retain 1)) (steady_pure _)) (λ _. steady_pure _)

pub constant_steady : (id : ℕ) (c : Constant) (width : ℕ) → Steady (constant id c width)
constant_steady id (Number n) width = retained_steady id _ width
constant_steady id Name width = retained_steady id _ width
constant_steady id Large width = steady_pure _

pub copied_steady : (v : Value) → Steady (copied v)
unfolding copied
copied_steady v = steady_then (steady_unit (work 1)) (steady_then (steady_unit (copied_list v.values)) (steady_pure v))

same_lists_steady : (x y : Option (List ℕ)) → Steady (same_lists x y)
same_lists_steady none none = steady_pure _
same_lists_steady none (some r) = steady_pure _
same_lists_steady (some l) none = steady_pure _
same_lists_steady (some l) (some r) = steady_test (eqb (length l) (length r)) (λ _. same_ids_steady l r) (λ _. steady_pure _)

pub same_steady : (u v : Value) → Steady (same u v)
unfolding same
same_steady u v =
    steady_then (steady_unit (work 1)) (steady_test (same_bound u.bound v.bound) (λ _. same_lists_steady u.values v.values) (λ _. steady_pure _))

join_lists_steady : (width : ℕ) (b : Bound) (r : Reason) (x y : Option (List ℕ)) → Steady (join_lists width b r x y)
join_lists_steady width b r none y = steady_pure _
join_lists_steady width b r (some x) none = steady_pure _
join_lists_steady width b r (some x) (some y) = steady_bind (collect_steady width [] (union x y)) (λ kept. steady_pure (joined_of b r kept))

pub join_steady : (width : ℕ) (u v : Value) → Steady (join width u v)
unfolding join
join_steady width u v = steady_then (steady_unit (work 1)) (join_lists_steady width _ _ u.values v.values)

permitted_steady : (u v : Value) (i : ℕ) → Steady (permitted u v i)
unfolding permitted
permitted_steady u v i = steady_bind (permits_steady u.values i) (λ t. steady_test t (λ _. permits_steady v.values i) (λ _. steady_pure _))

keep_steady : (u v : Value) (b : Bound) (cs : List ℕ) (n i : ℕ) → Steady (keep_one u v b cs n i)
unfolding keep_one
keep_steady u v b cs n i =
    steady_then (steady_unit (holding n (work 1)))
    (steady_bind (steady_through _ _ _ _ (permitted_steady u v i))
    (λ t. steady_test (t && allows_of b (constant_at cs i)) (λ _. steady_then (steady_unit (push n)) (steady_pure _)) (λ _. steady_pure _)))

sift_steady : (u v : Value) (b : Bound) (cs kept l : List ℕ) → Steady (sift u v b cs kept l)
unfolding sift
sift_steady u v b cs kept [] = steady_pure kept
sift_steady u v b cs kept (i ∷ l) = steady_bind (keep_steady u v b cs (length kept) i) (λ t. sift_steady u v b cs (cond t (kept ++ (i ∷ [])) kept) l)

reduce_steady : (b : Bound) (cs kept : List ℕ) → Steady (reduce b cs kept)
unfolding reduce
reduce_steady b cs kept =
    steady_bind (steady_fold (λ h i. steady_then (steady_unit (holding (length kept) (work 1))) (steady_pure _)) bottom_bound kept) (λ held. steady_pure (meet_bound b held))

meet_lists_steady : (u v : Value) (b : Bound) (cs : List ℕ) (o : Option (List ℕ)) → Steady (meet_lists u v b cs o)
meet_lists_steady u v b cs none = steady_pure _
meet_lists_steady u v b cs (some l) = steady_bind (sift_steady u v b cs [] l) (λ kept. steady_bind (reduce_steady b cs kept) (λ reduced. steady_pure _))

pub meet_steady : (cs : List ℕ) (u v : Value) → Steady (meet cs u v)
unfolding meet
meet_steady cs u v = steady_then (steady_unit (work 1)) (meet_lists_steady u v _ cs (source u.values v.values))

pub refine_steady : (cs : List ℕ) (v : Value) (i : Interval) → Steady (refine cs v i)
unfolding refine
refine_steady cs v i = meet_steady cs v (numeric i)
