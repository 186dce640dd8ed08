-- What the metered list operations give where they complete: permits is membership, a collected list is kept exactly if it fits the width.
use Prim.Native.Nat.{ℕ, suc, ◌+◌, ◌^◌, ◌<◌, ◌≤◌, min}
use native.Mathlib.Omega.{arith}
use mathlib.Core.Path.{◌≡◌, refl, sym, ◌∙◌}
use mathlib.Core.Bool.{Bool, true, false, cond}
use mathlib.Core.List.{List, [], ◌∷◌, ◌++◌, append_assoc, append-nil}
use mathlib.Core.Option.{Option, some, none}
use borrow.Author.Tests.{leb-true, leb-false, le-leb, lt-leb, ltb-true, ltb-false}
use lib.Dec.{ltb, leb}
use lib.ListN.{length, get_or, length-append}
use Rattle.integers.specs.Lists.{Increasing}
use Rattle.integers.proofs.ListLaws.{rises, has, has_at, at_has}
use Rattle.limits.specs.Meter.{work, release, holding}
use Rattle.limits.proofs.Monad.{Ensures, by_pure, by_test, bind, then}
use Rattle.std.specs.declared.cmp.Ordering.{Ordering}
use Rattle.std.specs.declared.cmp.Ordering.TheVariants.{Less, Greater}
use Rattle.search.specs.Seek.{Place, found, absent, found?, compareℕ}
use Rattle.search.proofs.Turns.{is_less, is_greater, less_is, greater_is, equal_is}
use Rattle.search.proofs.Complete.{Rising, Ends, search_ends}
use Rattle.lists.specs.Lists.{push, take_one, collect, list_turns, permits_in, permits}

-- ---- permits

module _ (l : List ℕ) (id : ℕ) (inc : Increasing l) where
  abbrev probe : ℕ → Ordering
  probe i = compareℕ (get_or l i 0) id

  rising : Rising probe (length l)
  rising = record {
    down = λ p q h k e. is_less (get_or l p 0) id (omega (arith, rises l p q inc h k, less_is (get_or l q 0) id e));
    up = λ p q h k e. is_greater (get_or l q 0) id (omega (arith, rises l p q inc h k, greater_is (get_or l p 0) id e));
  }

  not_there : (low : ℕ) → ((k : ℕ) → k < low → probe k ≡ Less) → ((k : ℕ) → low ≤ k → k < length l → probe k ≡ Greater) → (t : Bool) → has l id ≡ t → false ≡ t
  not_there low b a false e = refl
  not_there low b a true e = let w = has_at l id e in absurd (go w.0 w.1 w.2 (ltb w.0 low) refl)
    where
      go : (i : ℕ) → i < length l → get_or l i 0 ≡ id → (t : Bool) → ltb i low ≡ t → ⊥
      go i h g true f = let k = less_is (get_or l i 0) id (b i (ltb-true i low f)) in omega arith
      go i h g false f = let k = greater_is (get_or l i 0) id (a i (ltb-false i low f) h) in omega arith

  ended : (p : Place) → Ends probe (length l) p → found? p ≡ has l id
  ended (found i) h = sym (at_has l i id h.0 (equal_is (get_or l i 0) id h.1))
  ended (absent low) h = not_there low h.1 h.2 (has l id) refl

  -- on a strictly increasing list, with turns enough, yes exactly for an id in the list
  pub permits_in_lem : (turns : ℕ) → length l < 2 ^ turns → Ensures (λ t. t ≡ has l id) (permits_in turns l id)
  unfolding permits_in
  permits_in_lem turns h = bind (search_ends probe (length l) rising turns h) (λ p e. by_pure (found? p) (ended p e))

-- a value's list, where there is one
abbrev pub has_in : Option (List ℕ) → ℕ → Bool
has_in none id = true
has_in (some l) id = has l id

abbrev pub Sorted : Option (List ℕ) → Type 0
Sorted none = Unit {0}
Sorted (some l) = Increasing l

-- a list, if there is one, has at most 16 ids: those that the array of a value in hand has places for
abbrev pub Small : Option (List ℕ) → Type 0
Small none = Unit {0}
Small (some l) = length l ≤ 16

-- what a search through a list asks of it
pub record Searchable (o : Option (List ℕ)) : Type 0 where
  pub sorted : Sorted o
  pub small : Small o

pub permits_is : (o : Option (List ℕ)) (id : ℕ) → Searchable o → Ensures (λ t. t ≡ has_in o id) (permits o id)
permits_is none id s = by_pure true refl
permits_is (some l) id s = permits_in_lem l id s.sorted list_turns (omega (arith, s.small))

-- ---- collect

-- the width, as far as the array goes
abbrev pub room : ℕ → ℕ
room width = min width 16

pub take_is : (width n : ℕ) → Ensures (λ t. t ≡ leb (n + 1) (room width)) (take_one width n)
unfolding take_one
take_is width n =
    then (holding n (work 1))
    (by_test (leb (min width 16) n)
    (λ e. then (release n) (by_pure false (sym (lt-leb (n + 1) (min width 16) (omega (arith, leb-true (min width 16) n e))))))
    (λ e. then (push n) (by_pure true (sym (le-leb (n + 1) (min width 16) (omega (arith, leb-false (min width 16) n e)))))))

-- a list, or none where it does not fit the width
abbrev pub fitting : ℕ → List ℕ → Option (List ℕ)
fitting width l = cond (leb (length l) (room width)) (some l) none

pub collect_is : (width : ℕ) (kept l : List ℕ) → length kept ≤ room width → Ensures (λ r. r ≡ fitting width (kept ++ l)) (collect width kept l)
unfolding collect
collect_is width kept [] h = by_pure (some kept) (rw (append-nil kept, le-leb (length kept) (min width 16) h))
collect_is width kept (i ∷ l) h =
    bind (take_is width (length kept))
    (λ t e.
    by_test t
    (λ f.
    let k : length kept + 1 ≤ min width 16 = leb-true (length kept + 1) (min width 16) (sym e ∙ f) in
    let s : kept ++ (i ∷ l) ≡ (kept ++ (i ∷ [])) ++ l = rw append_assoc in
    rw s (collect_is width (kept ++ (i ∷ [])) l (simp length-append (omega arith))))
    (λ f.
    let k = leb-false (length kept + 1) (min width 16) (sym e ∙ f) in
    let n : length (kept ++ (i ∷ l)) ≡ length kept + suc (length l) = length-append kept (i ∷ l) in
    by_pure none (rw (lt-leb (length (kept ++ (i ∷ l))) (min width 16) (omega arith)))))
