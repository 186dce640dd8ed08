-- Live entries after each operation: those before plus the answer's list where it completes, those before where it is stopped.
use Prim.Native.Nat.{ℕ, ◌+◌}
use native.Mathlib.Omega.{arith}
use mathlib.Core.Path.{◌≡◌, refl, sym}
use mathlib.Core.Bool.{Bool, true, false, cond, ◌&&◌}
use mathlib.Core.List.{List, [], ◌∷◌, ◌++◌}
use mathlib.Core.Option.{Option, some, none}
use lib.Dec.{leb, eqb}
use lib.ListN.{length, length-append}
use Rattle.limits.proofs.Live.{Lives, live_pure, live_test, live_bind, live_then, live_fold, live_work, live_retain, live_as, live_beside}
use Rattle.interval.specs.declared.Interval.{Interval}
use Rattle.interval.specs.declared.Bound.{Bound}
use Rattle.interval.specs.declared.Constant.{Constant}
use Rattle.interval.specs.declared.Constant.TheVariants.{Number, Name, Large}
use Rattle.interval.specs.Bound.{bottom_bound, meet_bound, same_bound, allows_of}
use Rattle.lists.specs.Lists.{union}
use Rattle.lists.proofs.LiveLaws.{list_size, push_lives, work_lives, retain_all_lives, collect_lives, permits_lives, same_ids_live}
use Rattle.lattice.specs.Value.{Reason}
use Rattle.lattice.specs.Value.{Value}
use Rattle.lattice.specs.Constants.{constant_at}
use Rattle.lattice.specs.Lattice.{numeric, retained, constant, copied_list, copied, same_lists, same, joined_of, join_lists, join, permitted, keep_one, sift, reduce, source, meet_lists, meet, refine}

-- the entries of a value's list
abbrev pub size : Value → ℕ
size v = list_size v.values

retained_lives : (id : ℕ) (b : Bound) (width : ℕ) → Lives 0 size (retained id b width)
retained_lives id b width = live_test (leb 1 width) (λ _. live_then (live_retain 1) (live_pure 1 _ refl)) (λ _. live_pure 0 _ refl)

pub constant_lives : (id : ℕ) (c : Constant) (width : ℕ) → Lives 0 size (constant id c width)
constant_lives id (Number n) width = retained_lives id _ width
constant_lives id Name width = retained_lives id _ width
constant_lives id Large width = live_pure 0 _ refl

copied_list_lives : (o : Option (List ℕ)) → Lives 0 (λ _. list_size o) (copied_list o)
copied_list_lives none = live_pure 0 tt refl
copied_list_lives (some l) = live_then (live_work (length l)) (live_as (λ _. omega arith) (retain_all_lives 0 (length l)))

pub copied_lives : (v : Value) → Lives 0 size (copied v)
unfolding copied
copied_lives v = live_then (live_work 1) (live_then (copied_list_lives v.values) (live_pure (size v) v refl))

same_lists_live : (x y : Option (List ℕ)) → Lives 0 (λ _. 0) (same_lists x y)
same_lists_live none none = live_pure 0 true refl
same_lists_live none (some r) = live_pure 0 false refl
same_lists_live (some l) none = live_pure 0 false refl
same_lists_live (some l) (some r) = live_test (eqb (length l) (length r)) (λ _. same_ids_live l r) (λ _. live_pure 0 false refl)

pub same_lives : (u v : Value) → Lives 0 (λ _. 0) (same u v)
unfolding same
same_lives u v = live_then (live_work 1) (live_test (same_bound u.bound v.bound) (λ _. same_lists_live u.values v.values) (λ _. live_pure 0 false refl))

joined_size : (b : Bound) (r : Reason) (o : Option (List ℕ)) → list_size o ≡ size (joined_of b r o)
joined_size b r none = refl
joined_size b r (some l) = refl

join_lists_live : (width : ℕ) (b : Bound) (r : Reason) (x y : Option (List ℕ)) → Lives 0 size (join_lists width b r x y)
join_lists_live width b r none y = live_pure 0 _ refl
join_lists_live width b r (some x) none = live_pure 0 _ refl
join_lists_live width b r (some x) (some y) = live_bind (collect_lives width [] (union x y)) (λ kept. live_pure (list_size kept) (joined_of b r kept) (joined_size b r kept))

pub join_lives : (width : ℕ) (u v : Value) → Lives 0 size (join width u v)
unfolding join
join_lives width u v = live_then (live_work 1) (join_lists_live width _ _ u.values v.values)

permitted_lives : (u v : Value) (i : ℕ) → Lives 0 (λ _. 0) (permitted u v i)
unfolding permitted
permitted_lives u v i = live_bind (permits_lives u.values i) (λ t. live_test t (λ _. permits_lives v.values i) (λ _. live_pure 0 false refl))

keep_lives : (u v : Value) (b : Bound) (cs : List ℕ) (n i : ℕ) → Lives n (λ t. cond t (n + 1) n) (keep_one u v b cs n i)
unfolding keep_one
keep_lives u v b cs n i =
    live_then (work_lives n 1)
    (live_bind (live_beside n (permitted_lives u v i))
    (λ t. live_test (t && allows_of b (constant_at cs i)) (λ _. live_then (push_lives n) (live_pure (n + 1) true refl)) (λ _. live_pure n false refl)))

sift_lives : (u v : Value) (b : Bound) (cs kept l : List ℕ) → Lives (length kept) length (sift u v b cs kept l)
unfolding sift
sift_lives u v b cs kept [] = live_pure (length kept) kept refl
sift_lives u v b cs kept (i ∷ l) =
    live_bind (keep_lives u v b cs (length kept) i)
    (λ t. let h = sift_lives u v b cs (cond t (kept ++ (i ∷ [])) kept) l in rw (grown t) h)
  where
    grown : (t : Bool) → cond t (length kept + 1) (length kept) ≡ length (cond t (kept ++ (i ∷ [])) kept)
    grown true = sym (length-append kept (i ∷ []))
    grown false = refl

reduce_lives : (b : Bound) (cs kept : List ℕ) → Lives (length kept) (λ _. length kept) (reduce b cs kept)
unfolding reduce
reduce_lives b cs kept =
    live_bind (live_fold (λ h i. live_then (work_lives (length kept) 1) (live_pure (length kept) _ refl)) bottom_bound kept)
    (λ held. live_pure (length kept) (meet_bound b held) refl)

meet_lists_live : (u v : Value) (b : Bound) (cs : List ℕ) (o : Option (List ℕ)) → Lives 0 size (meet_lists u v b cs o)
meet_lists_live u v b cs none = live_pure 0 _ (empty (same_bound b bottom_bound))
  where
    empty : (t : Bool) → 0 ≡ list_size (cond t (some []) none)
    empty true = refl
    empty false = refl
meet_lists_live u v b cs (some l) = live_bind (sift_lives u v b cs [] l) (λ kept. live_bind (reduce_lives b cs kept) (λ reduced. live_pure (length kept) _ refl))

pub meet_lives : (cs : List ℕ) (u v : Value) → Lives 0 size (meet cs u v)
unfolding meet
meet_lives cs u v = live_then (live_work 1) (meet_lists_live u v _ cs (source u.values v.values))

pub refine_lives : (cs : List ℕ) (v : Value) (i : Interval) → Lives 0 size (refine cs v i)
unfolding refine
refine_lives cs v i = meet_lives cs v (numeric i)
