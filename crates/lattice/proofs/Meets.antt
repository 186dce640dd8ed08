-- Where a meet completes, of values whose lists are strictly increasing. 01: "Meet intersects, then shrinks the bound to what the list holds."
use Prim.Native.Nat.{ℕ, ◌≤◌}
use native.Mathlib.Omega.{arith}
use mathlib.Core.Path.{◌≡◌, refl, sym, ◌∙◌}
use mathlib.Core.Logic.{◌↔◌}
use mathlib.Core.Bool.{Bool, true, false, cond, ◌&&◌}
use mathlib.Core.List.{List, [], ◌∷◌, ◌++◌, append_assoc, append-nil, foldl, Memᴰ}
use mathlib.Core.Option.{Option, some, none}
use lib.Dec.{leb}
use lib.ListN.{length}
use Rattle.integers.specs.Lists.{Increasing, passing}
use Rattle.integers.proofs.Tests.{by_cond, and_left, and_right}
use Rattle.integers.proofs.ListLaws.{has_is, passing_increasing, passing_length, passing_in}
use Rattle.limits.specs.Metered.{pure, ◌>>◌, fold_m}
use Rattle.limits.specs.Meter.{work, holding}
use Rattle.limits.proofs.Monad.{Ensures, by_pure, by_test, by_through, bind, then, weaken}
use Rattle.interval.specs.declared.Bound.{Bound}
use Rattle.interval.specs.Bound.{bottom_bound, constant_bound, hull_bound, meet_bound, same_bound, allows_of}
use Rattle.interval.proofs.Members.{same_bound_is}
use Rattle.std.specs.Prelude.{None}
use Rattle.lattice.specs.Value.{Value, value}
use Rattle.lattice.specs.Constants.{constant_at}
use Rattle.lists.specs.Lists.{push}
use Rattle.lattice.specs.Lattice.{first_reason, permitted, keep_one, sift, reduce, source, meet_lists, meet}
use Rattle.lists.proofs.ListLaws.{has_in, Sorted, Small, Searchable, permits_is}

-- ---- what stays

-- an id is in a list, if there is one
abbrev pub InList : Option (List ℕ) → ℕ → Type 0
InList none i = Unit {0}
InList (some l) i = Memᴰ i l

pub has_in_is : (o : Option (List ℕ)) (i : ℕ) → (has_in o i ≡ true) ↔ InList o i
has_in_is none i = (λ _. tt, λ _. refl)
has_in_is (some l) i = has_is l i

-- an id stays: both lists have it, and the bound b allows its constant
abbrev pub stays : List ℕ → Option (List ℕ) → Option (List ℕ) → Bound → ℕ → Bool
stays cs x y b i = (has_in x i && has_in y i) && allows_of b (constant_at cs i)

pub stays_is : (cs : List ℕ) (x y : Option (List ℕ)) (b : Bound) (i : ℕ) → (stays cs x y b i ≡ true) ↔ (InList x i × InList y i × (allows_of b (constant_at cs i) ≡ true))
stays_is cs x y b i = (
  λ e.
      let both : (has_in x i && has_in y i) ≡ true = and_left (has_in x i && has_in y i) (allows_of b (constant_at cs i)) e in (
        (has_in_is x i).0 (and_left (has_in x i) (has_in y i) both),
        (has_in_is y i).0 (and_right (has_in x i) (has_in y i) both),
        and_right (has_in x i && has_in y i) (allows_of b (constant_at cs i)) e,
      ),
  λ h. rw ((has_in_is x i).1 h.0, (has_in_is y i).1 h.1, h.2),
)

module _ (u v : Value) (p : Searchable u.values) (q : Searchable v.values) where
  pub permitted_is : (i : ℕ) → Ensures (λ t. t ≡ (has_in u.values i && has_in v.values i)) (permitted u v i)
  unfolding permitted
  permitted_is i =
      bind (permits_is u.values i p)
      (λ t e. by_test t (λ f. weaken (λ s g. g ∙ rw (← e, f)) (permits_is v.values i q)) (λ f. by_pure false (rw (← e, f))))

  module _ (b : Bound) (cs : List ℕ) where
    keep_is : (n i : ℕ) → Ensures (λ t. t ≡ stays cs u.values v.values b i) (keep_one u v b cs n i)
    unfolding keep_one
    keep_is n i =
        then (holding n (work 1))
        (bind (by_through _ _ _ _ _ (permitted_is i))
        (λ t e.
        by_test (t && allows_of b (constant_at cs i)) (λ f. then (push n) (by_pure true (sym f ∙ rw e))) (λ f. by_pure false (sym f ∙ rw e))))

    -- what stays of l comes behind what is kept already
    pub sift_is : (kept l : List ℕ) → Ensures (λ r. r ≡ kept ++ passing (stays cs u.values v.values b) l) (sift u v b cs kept l)
    unfolding sift
    sift_is kept [] = by_pure kept (rw append-nil)
    sift_is kept (i ∷ l) =
        bind (keep_is (length kept) i)
        (λ t e. weaken (λ r f. f ∙ rw (← e) (grown t (passing (stays cs u.values v.values b) l))) (sift_is (cond t (kept ++ (i ∷ [])) kept) l))
      where
        grown : (t : Bool) (m : List ℕ) → cond t (kept ++ (i ∷ [])) kept ++ m ≡ kept ++ cond t (i ∷ m) m
        grown true m = append_assoc kept (i ∷ []) m
        grown false m = refl

-- ---- the bound

-- the hull of the bounds of some constants
abbrev pub held_by : List ℕ → List ℕ → Bound
held_by cs l = foldl (λ h i. hull_bound h (constant_bound (constant_at cs i))) bottom_bound l

folds : (cs : List ℕ) (n : ℕ) (h : Bound) (l : List ℕ) →
    Ensures (λ r. r ≡ foldl (λ h i. hull_bound h (constant_bound (constant_at cs i))) h l) (fold_m (λ h i. holding n (work 1) >> pure (hull_bound h (constant_bound (constant_at cs i)))) h l)
unfolding fold_m
folds cs n h [] = by_pure h refl
folds cs n h (i ∷ l) =
    bind {P = λ g. g ≡ hull_bound h (constant_bound (constant_at cs i))} (then (holding n (work 1)) (by_pure _ refl)) (λ g e. rw e (folds cs n (hull_bound h (constant_bound (constant_at cs i))) l))

pub reduce_is : (b : Bound) (cs kept : List ℕ) → Ensures (λ r. r ≡ meet_bound b (held_by cs kept)) (reduce b cs kept)
unfolding reduce
reduce_is b cs kept = bind (folds cs (length kept) bottom_bound kept) (λ h e. by_pure (meet_bound b h) (rw e))

-- ---- the whole answer

-- with no list on either side the list is empty exactly if the bound is, and the reason is the older one; else what stays is the list,
-- and the bound shrinks to its constants
abbrev pub met_from : List ℕ → Value → Value → Bound → Option (List ℕ) → Value
met_from cs u v b none = value b (cond (same_bound b bottom_bound) (some []) none) (first_reason u.widening v.widening)
met_from cs u v b (some l) =
    value (meet_bound b (held_by cs (passing (stays cs u.values v.values b) l))) (some (passing (stays cs u.values v.values b) l)) None

abbrev pub met_value : List ℕ → Value → Value → Value
met_value cs u v = met_from cs u v (meet_bound u.bound v.bound) (source u.values v.values)

lists_meet : (cs : List ℕ) (u v : Value) (b : Bound) (o : Option (List ℕ)) → Searchable u.values → Searchable v.values →
    Ensures (λ w. w ≡ met_from cs u v b o) (meet_lists u v b cs o)
lists_meet cs u v b none p q = by_pure _ refl
lists_meet cs u v b (some l) p q =
    bind (sift_is u v p q b cs [] l) (λ kept e. bind (reduce_is b cs kept) (λ r f. by_pure (value r (some kept) None) (rw (f, e))))

pub meet_is : (cs : List ℕ) (u v : Value) → Searchable u.values → Searchable v.values → Ensures (λ w. w ≡ met_value cs u v) (meet cs u v)
unfolding meet
meet_is cs u v p q = then (work 1) (lists_meet cs u v (meet_bound u.bound v.bound) (source u.values v.values) p q)

-- ---- no list on either side

pub record Listless (u v w : Value) : Type 0 where
  pub bound : w.bound ≡ meet_bound u.bound v.bound
  pub empty : meet_bound u.bound v.bound ≡ bottom_bound → w.values ≡ some []
  pub otherwise : (meet_bound u.bound v.bound ≡ bottom_bound → ⊥) → w.values ≡ none
  pub reason : w.widening ≡ first_reason u.widening v.widening

listless : (cs : List ℕ) (u v w : Value) → u.values ≡ none → v.values ≡ none → w ≡ met_value cs u v → Listless u v w
listless cs u v w p q e =
    let f : w ≡ met_from cs u v b none = e ∙ rw (p, q) in
    record {
      bound = rw f;
      empty = λ z. rw (f, (same_bound_is b bottom_bound).1 z);
      otherwise = λ z. rw (f, no (same_bound b bottom_bound) (λ t. z ((same_bound_is b bottom_bound).0 t)));
      reason = rw f;
    }
  where
    b : Bound
    b = meet_bound u.bound v.bound

    no : (t : Bool) → (t ≡ true → ⊥) → t ≡ false
    no true h = absurd (h refl)
    no false h = refl

pub meet_listless : (cs : List ℕ) (u v : Value) → u.values ≡ none → v.values ≡ none → Ensures (λ w. Listless u v w) (meet cs u v)
meet_listless cs u v p q = weaken (λ w e. listless cs u v w p q e) (meet_is cs u v (rw p record { sorted = tt; small = tt }) (rw q record { sorted = tt; small = tt }))

-- ---- a list on some side: l is the one that the meet goes through

pub record FromList (cs : List ℕ) (u v : Value) (l : List ℕ) (w : Value) : Type 0 where
  pub kept : List ℕ
  pub list : w.values ≡ some kept
  pub whole : kept ≡ passing (stays cs u.values v.values (meet_bound u.bound v.bound)) l
  pub bound : w.bound ≡ meet_bound (meet_bound u.bound v.bound) (held_by cs kept)
  pub reason : w.widening ≡ None
  pub members : (i : ℕ) → Memᴰ i kept ↔ (InList u.values i × InList v.values i × (allows_of (meet_bound u.bound v.bound) (constant_at cs i) ≡ true))
  pub increasing : Increasing kept
  pub shorter : length kept ≤ length l

source_in : (x y : Option (List ℕ)) (l : List ℕ) (i : ℕ) → source x y ≡ some l → InList x i → InList y i → Memᴰ i l
source_in none y l i e p q = rw e at q
source_in (some x) none l i e p q = let f : x ≡ l = cc in rw f at p
source_in (some x) (some y) l i e p q =
    let f : cond (leb (length x) (length y)) x y ≡ l = cc in
    rw f at (by_cond (λ (z : List ℕ). Memᴰ i z) (leb (length x) (length y)) {x = x} {y = y} (λ _. p) (λ _. q))

source_sorted : (x y : Option (List ℕ)) → Sorted x → Sorted y → Sorted (source x y)
source_sorted none y p q = q
source_sorted (some x) none p q = p
source_sorted (some x) (some y) p q = by_cond Increasing (leb (length x) (length y)) (λ _. p) (λ _. q)

source_small : (x y : Option (List ℕ)) → Small x → Small y → Small (source x y)
source_small none y p q = q
source_small (some x) none p q = p
source_small (some x) (some y) p q = by_cond (λ (z : List ℕ). length z ≤ 16) (leb (length x) (length y)) (λ _. p) (λ _. q)

from_list : (cs : List ℕ) (u v w : Value) (l : List ℕ) → Searchable u.values → Searchable v.values → source u.values v.values ≡ some l → w ≡ met_value cs u v → FromList cs u v l w
from_list cs u v w l p q s e =
    let f : w ≡ met_from cs u v b (some l) = e ∙ rw s in
    record {
      kept = passing t l;
      list = rw f;
      whole = refl;
      bound = rw f;
      reason = rw f;
      members = λ i. (
        λ m. (stays_is cs u.values v.values b i).0 ((passing_in t l i).0 m).1,
        λ h. (passing_in t l i).1 (source_in u.values v.values l i s h.0 h.1, (stays_is cs u.values v.values b i).1 h),
      );
      increasing = passing_increasing t l (rw s at (source_sorted u.values v.values p.sorted q.sorted));
      shorter = passing_length t l;
    }
  where
    b : Bound
    b = meet_bound u.bound v.bound

    t : ℕ → Bool
    t = stays cs u.values v.values b

pub meet_from_list : (cs : List ℕ) (u v : Value) (l : List ℕ) → Searchable u.values → Searchable v.values → source u.values v.values ≡ some l →
    Ensures (λ w. FromList cs u v l w) (meet cs u v)
meet_from_list cs u v l p q s = weaken (λ w e. from_list cs u v w l p q s e) (meet_is cs u v p q)

-- ---- in any case

module _ (cs : List ℕ) (u v : Value) (p : Searchable u.values) (q : Searchable v.values) where
  met_sorted : (o : Option (List ℕ)) (b : Bound) → Sorted o → Sorted (met_from cs u v b o).values
  met_sorted none b s = by_cond Sorted (same_bound b bottom_bound) (λ _. tt) (λ _. tt)
  met_sorted (some l) b s = passing_increasing (stays cs u.values v.values b) l s

  met_small : (o : Option (List ℕ)) (b : Bound) → Small o → Small (met_from cs u v b o).values
  met_small none b s = by_cond Small (same_bound b bottom_bound) (λ _. omega arith) (λ _. tt)
  met_small (some l) b s = omega (arith, passing_length (stays cs u.values v.values b) l)

  pub meet_sorted : Ensures (λ w. Sorted w.values) (meet cs u v)
  meet_sorted = weaken (λ w e. rw e (met_sorted (source u.values v.values) _ (source_sorted u.values v.values p.sorted q.sorted))) (meet_is cs u v p q)

  pub meet_small : Ensures (λ w. Small w.values) (meet cs u v)
  meet_small = weaken (λ w e. rw e (met_small (source u.values v.values) _ (source_small u.values v.values p.small q.small))) (meet_is cs u v p q)
