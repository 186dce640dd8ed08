-- Live entries after each operation on lists: those of the answer's list instead of those held, and none where it is stopped.
use Prim.Native.Nat.{ℕ, zero, suc, ◌+◌, min}
use native.Mathlib.Omega.{arith}
use mathlib.Core.Path.{◌≡◌, refl, sym}
use mathlib.Core.Bool.{Bool, true, false, cond}
use mathlib.Core.List.{List, [], ◌∷◌, ◌++◌}
use mathlib.Core.Option.{Option, some, none}
use lib.Dec.{leb, eqb}
use lib.ListN.{length, length-append}
use Rattle.limits.specs.Metered.{pure}
use Rattle.limits.specs.Meter.{work, holding}
use Rattle.limits.proofs.Live.{Lives, live_pure, live_test, live_bind, live_then, live_work, live_retain, live_release, live_holding, live_as, live_beside}
use Rattle.search.proofs.Live.{seek_lives}
use Rattle.search.specs.Seek.{found?}
use Rattle.lists.specs.Lists.{push, retain_all, take_one, collect, list_turns, permits_in, permits, same_ids}

-- the entries of a list, if there is one
abbrev pub list_size : Option (List ℕ) → ℕ
list_size none = 0
list_size (some l) = length l

pub push_lives : (n : ℕ) → Lives n (λ _. n + 1) (push n)
unfolding push
push_lives n = live_holding n (live_retain 1)

pub work_lives : (n amount : ℕ) → Lives n (λ _. n) (holding n (work amount))
work_lives n amount = live_beside n (live_work amount)

pub retain_all_lives : (n count : ℕ) → Lives n (λ _. n + count) (retain_all n count)
unfolding retain_all
retain_all_lives n zero = live_pure n tt (omega arith)
retain_all_lives n (suc count) = live_then (push_lives n) (live_as (λ _. omega arith) (retain_all_lives (n + 1) count))

take_lives : (width n : ℕ) → Lives n (λ t. cond t (n + 1) 0) (take_one width n)
unfolding take_one
take_lives width n =
    live_then (work_lives n 1)
    (live_test (leb (min width 16) n) (λ _. live_then (live_release n) (live_pure 0 false refl)) (λ _. live_then (push_lives n) (live_pure (n + 1) true refl)))

pub collect_lives : (width : ℕ) (kept l : List ℕ) → Lives (length kept) list_size (collect width kept l)
unfolding collect
collect_lives width kept [] = live_pure (length kept) (some kept) refl
collect_lives width kept (i ∷ l) =
    live_bind (take_lives width (length kept)) (λ t. by_fit t (collect_lives width (kept ++ (i ∷ [])) l))
  where
    by_fit : (t : Bool) → Lives (length (kept ++ (i ∷ []))) list_size (collect width (kept ++ (i ∷ [])) l) →
        Lives (cond t (length kept + 1) 0) list_size (cond t (collect width (kept ++ (i ∷ [])) l) (pure none))
    by_fit true h = let e : length kept + 1 ≡ length (kept ++ (i ∷ [])) = sym (length-append kept (i ∷ [])) in rw e h
    by_fit false h = live_pure 0 none refl

pub permits_lives : (o : Option (List ℕ)) (id : ℕ) → Lives 0 (λ _. 0) (permits o id)
unfolding permits_in
permits_lives none id = live_pure 0 true refl
permits_lives (some l) id = live_bind (seek_lives _ list_turns 0 (length l)) (λ p. live_pure 0 (found? p) refl)

pub same_ids_live : (l r : List ℕ) → Lives 0 (λ _. 0) (same_ids l r)
unfolding same_ids
same_ids_live [] r = live_pure 0 true refl
same_ids_live (a ∷ l) [] = live_pure 0 true refl
same_ids_live (a ∷ l) (b ∷ r) = live_then (live_work 1) (live_test (eqb a b) (λ _. same_ids_live l r) (λ _. live_pure 0 false refl))
