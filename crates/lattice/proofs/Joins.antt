-- Where a join completes. 01: "Join takes the hull; lists, strictly increasing constant ids, are kept exactly if both operands have one
-- and the union fits the width."
use Prim.Native.Nat.{ℕ, ◌≤◌}
use native.Mathlib.Omega.{arith}
use native.Mathlib.Nat.{min-le_right, min-eq_left}
use mathlib.Core.Path.{◌≡◌, refl}
use mathlib.Core.Logic.{◌↔◌}
use mathlib.Core.Bool.{Bool, true, false, cond}
use mathlib.Core.List.{List, []}
use mathlib.Core.Option.{Option, some, none}
use borrow.Author.Tests.{leb-true, le-leb}
use lib.Dec.{leb}
use lib.ListN.{length}
use Rattle.integers.proofs.Tests.{by_cond}
use Rattle.limits.specs.Meter.{work}
use Rattle.limits.proofs.Monad.{Ensures, by_pure, bind, then, weaken}
use Rattle.interval.specs.declared.Bound.{Bound}
use Rattle.interval.specs.Bound.{hull_bound}
use Rattle.lattice.specs.declared.Widening.TheVariants.{ValueWidth}
use Rattle.lattice.specs.Value.{Reason}
use Rattle.std.specs.Prelude.{Some}
use Rattle.lattice.specs.Value.{Value, value}
use Rattle.lists.specs.Lists.{union}
use Rattle.lattice.specs.Lattice.{first_reason, joined_of, join_lists, join}
use Rattle.lists.proofs.Unions.{union_increasing}
use Rattle.lists.proofs.ListLaws.{Sorted, Small, room, fitting, collect_is}

-- a store's width is at most 16, and then the room is the width
pub room_width : (width : ℕ) → width ≤ 16 → room width ≡ width
room_width width h = min-eq_left h

-- the list of a join: the union, if both have a list and it fits the width
abbrev pub joined_list : ℕ → Option (List ℕ) → Option (List ℕ) → Option (List ℕ)
joined_list width none y = none
joined_list width (some x) none = none
joined_list width (some x) (some y) = fitting width (union x y)

-- its reason: the older one r, and ValueWidth only where a union was made, did not fit and there is no older reason
abbrev pub joined_reason : ℕ → Reason → Option (List ℕ) → Option (List ℕ) → Reason
joined_reason width r none y = r
joined_reason width r (some x) none = r
joined_reason width r (some x) (some y) = cond (leb (length (union x y)) (room width)) r (first_reason r (Some ValueWidth))

abbrev pub joined_value : ℕ → Value → Value → Value
joined_value width u v =
    value (hull_bound u.bound v.bound) (joined_list width u.values v.values)
    (joined_reason width (first_reason u.widening v.widening) u.values v.values)

lists_are : (width : ℕ) (b : Bound) (r : Reason) (x y : Option (List ℕ)) →
    Ensures (λ w. w ≡ value b (joined_list width x y) (joined_reason width r x y)) (join_lists width b r x y)
lists_are width b r none y = by_pure _ refl
lists_are width b r (some x) none = by_pure _ refl
lists_are width b r (some x) (some y) = bind (collect_is width [] (union x y) (omega arith)) (λ kept e. by_pure (joined_of b r kept) (rw e (told (leb (length (union x y)) (room width)))))
  where
    told : (t : Bool) → joined_of b r (cond t (some (union x y)) none) ≡ value b (cond t (some (union x y)) none) (cond t r (first_reason r (Some ValueWidth)))
    told true = refl
    told false = refl

-- ---- the whole answer

pub join_is : (width : ℕ) (u v : Value) → Ensures (λ w. w ≡ joined_value width u v) (join width u v)
unfolding join
join_is width u v = then (work 1) (lists_are width _ _ u.values v.values)

-- ---- when a list is kept

-- l is kept: both have a list, their union fits the width and is l
pub record Kept (width : ℕ) (x y : Option (List ℕ)) (l : List ℕ) : Type 0 where
  pub left : List ℕ
  pub right : List ℕ
  pub is_left : x ≡ some left
  pub is_right : y ≡ some right
  pub fits : length (union left right) ≤ room width
  pub whole : l ≡ union left right

pub kept_is : (width : ℕ) (x y : Option (List ℕ)) (l : List ℕ) → (joined_list width x y ≡ some l) ↔ Kept width x y l
kept_is width x y l = (to x y, back)
  where
    fit : (a b : List ℕ) → fitting width (union a b) ≡ some l → (t : Bool) → leb (length (union a b)) (room width) ≡ t → Kept width (some a) (some b) l
    fit a b e true f =
        let g : fitting width (union a b) ≡ some (union a b) = rw f in
        record { left = a; right = b; is_left = refl; is_right = refl; fits = leb-true (length (union a b)) (room width) f; whole = cc }
    fit a b e false f =
        let g : fitting width (union a b) ≡ none = rw f in
        let z : ◌≡◌ {A = ℕ} 0 1 = cc in
        absurd (omega arith)

    to : (x y : Option (List ℕ)) → joined_list width x y ≡ some l → Kept width x y l
    to none y e = let z : ◌≡◌ {A = ℕ} 0 1 = cc in absurd (omega arith)
    to (some a) none e = let z : ◌≡◌ {A = ℕ} 0 1 = cc in absurd (omega arith)
    to (some a) (some b) e = fit a b e (leb (length (union a b)) (room width)) refl

    back : Kept width x y l → joined_list width x y ≡ some l
    back k = rw (k.is_left, k.is_right, le-leb (length (union k.left k.right)) (room width) k.fits, k.whole)

joined_sorted : (width : ℕ) (x y : Option (List ℕ)) → Sorted x → Sorted y → Sorted (joined_list width x y)
joined_sorted width none y p q = tt
joined_sorted width (some x) none p q = tt
joined_sorted width (some x) (some y) p q = by_cond Sorted (leb (length (union x y)) (room width)) (λ _. union_increasing x y p q) (λ _. tt)

joined_small : (width : ℕ) (x y : Option (List ℕ)) → Small (joined_list width x y)
joined_small width none y = tt
joined_small width (some x) none = tt
joined_small width (some x) (some y) =
    by_cond Small (leb (length (union x y)) (room width))
    (λ e. omega (arith, leb-true (length (union x y)) (room width) e, min-le_right width 16)) (λ _. tt)

-- ---- part by part

module _ (width : ℕ) (u v : Value) where
  pub join_bound : Ensures (λ w. w.bound ≡ hull_bound u.bound v.bound) (join width u v)
  join_bound = weaken (λ w e. rw e) (join_is width u v)

  pub join_list : Ensures (λ w. w.values ≡ joined_list width u.values v.values) (join width u v)
  join_list = weaken (λ w e. rw e) (join_is width u v)

  -- 01: "kept exactly if both operands have one and the union fits the width"
  pub join_kept : Ensures (λ w. (l : List ℕ) → (w.values ≡ some l) ↔ Kept width u.values v.values l) (join width u v)
  join_kept = weaken (λ w e l. rw e (kept_is width u.values v.values l)) join_list

  pub join_reason : Ensures (λ w. w.widening ≡ joined_reason width (first_reason u.widening v.widening) u.values v.values) (join width u v)
  join_reason = weaken (λ w e. rw e) (join_is width u v)

  pub join_sorted : Sorted u.values → Sorted v.values → Ensures (λ w. Sorted w.values) (join width u v)
  join_sorted p q = weaken (λ w e. rw e (joined_sorted width u.values v.values p q)) (join_is width u v)

  pub join_small : Ensures (λ w. Small w.values) (join width u v)
  join_small = weaken (λ w e. rw e (joined_small width u.values v.values)) (join_is width u v)
