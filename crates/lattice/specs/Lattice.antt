-- The operations of lattice.rs on abstract values, with its charges in its order. 01, "Leaves: bounds and lists".
use Rattle.std.specs.Prelude.{ℕ, Bool, true, false, cond, ◌&&◌, List, [], ◌∷◌, ◌++◌, leb, eqb, length, Some, None}
use Rattle.std.proofs.Math.Option.{Option, some, none}
use Rattle.limits.specs.declared.Stop.{Stop}
use Rattle.limits.specs.Metered.{Metered, pure, ◌>>=◌, ◌>>◌, fold_m}
use Rattle.limits.specs.declared.Meter.{Meter}
use Rattle.limits.specs.Meter.{work, retain, holding}
use Rattle.interval.specs.declared.Interval.{Interval}
use Rattle.interval.specs.declared.Interval.TheVariants.{Bottom, Bounded, Unbounded}
use Rattle.interval.specs.declared.Bound.{Bound}
use Rattle.interval.specs.declared.Constant.{Constant}
use Rattle.interval.specs.declared.Constant.TheVariants.{Number, Name, Large}
use Rattle.interval.specs.Bound.{top_bound, bottom_bound, numeric_bound, constant_bound, hull_bound, meet_bound, same_bound, allows_of}
use Rattle.lattice.specs.declared.Widening.TheVariants.{SymbolSize, ValueWidth}
use Rattle.lattice.specs.Value.{Value, value, Reason}
use Rattle.lattice.specs.Constants.{constant_at}
use Rattle.lists.specs.Lists.{union, push, retain_all, collect, permits, same_ids}

abbrev pub bottom : Value
bottom = value bottom_bound (some []) None

abbrev pub top : Reason → Value
top reason = value top_bound none reason

abbrev pub numeric : Interval → Value
numeric Bottom = bottom
numeric (Bounded low high) = value (numeric_bound (Bounded low high)) none None
numeric Unbounded = value (numeric_bound Unbounded) none None

-- a constant that is retained has a list where the width admits one
abbrev pub retained : ℕ → Bound → ℕ → Metered Stop Meter Value
retained id b width = cond (leb 1 width) (retain 1 >> pure (value b (some (id ∷ [])) None)) (pure (value b none (Some ValueWidth)))

-- 01: "An unretained constant has no list, reason SymbolSize; a retained one at width 0 none, reason ValueWidth."
abbrev pub constant : ℕ → Constant → ℕ → Metered Stop Meter Value
constant id (Number n) width = retained id (constant_bound (Number n)) width
constant id Name width = retained id (constant_bound Name) width
constant id Large width = pure (value (constant_bound Large) none (Some SymbolSize))

abbrev pub copied_list : Option (List ℕ) → Metered Stop Meter (Unit {0})
copied_list none = pure tt
copied_list (some l) = work (length l) >> retain_all 0 (length l)

abbrev pub copied_as : Value → Option (List ℕ) → Metered Stop Meter Value
copied_as v l = copied_list l >> pure v

unfoldable pub copied : Value → Metered Stop Meter Value
copied v = work 1 >> copied_as v v.values

abbrev pub same_lists : Option (List ℕ) → Option (List ℕ) → Metered Stop Meter Bool
same_lists none none = pure true
same_lists none (some r) = pure false
same_lists (some l) none = pure false
same_lists (some l) (some r) = cond (eqb (length l) (length r)) (same_ids l r) (pure false)

unfoldable pub same : Value → Value → Metered Stop Meter Bool
same u v = work 1 >> cond (same_bound u.bound v.bound) (same_lists u.values v.values) (pure false)

-- the first reason that there is
abbrev pub first_reason : Reason → Reason → Reason
first_reason None r = r
first_reason (Some w) r = Some w

-- the answer of a join: a list that does not fit the width is lost, with ValueWidth unless there is an older reason
abbrev pub joined_of : Bound → Reason → Option (List ℕ) → Value
joined_of b r none = value b none (first_reason r (Some ValueWidth))
joined_of b r (some l) = value b (some l) r

abbrev pub join_lists : ℕ → Bound → Reason → Option (List ℕ) → Option (List ℕ) → Metered Stop Meter Value
join_lists width b r none y = pure (value b none r)
join_lists width b r (some x) none = pure (value b none r)
join_lists width b r (some x) (some y) = do
  kept ← collect width [] (union x y)
  pure (joined_of b r kept)

-- 01: "Join takes the hull; lists [..] are kept exactly if both operands have one and the union fits the width."
unfoldable pub join : ℕ → Value → Value → Metered Stop Meter Value
join width u v = work 1 >> join_lists width (hull_bound u.bound v.bound) (first_reason u.widening v.widening) u.values v.values

-- whether both values permit an id
unfoldable pub permitted : Value → Value → ℕ → Metered Stop Meter Bool
permitted u v i = do
  mine ← permits u.values i
  cond mine (permits v.values i) (pure false)

-- whether an id of the shorter list stays: both permit it, and the bound allows its constant
unfoldable pub keep_one : Value → Value → Bound → List ℕ → ℕ → ℕ → Metered Stop Meter Bool
keep_one u v b constants n i = do
  holding n (work 1)
  both ← holding n (permitted u v i)
  cond (both && allows_of b (constant_at constants i)) (push n >> pure true) (pure false)

unfoldable pub sift : Value → Value → Bound → List ℕ → List ℕ → List ℕ → Metered Stop Meter (List ℕ)
sift u v b constants kept [] = pure kept
sift u v b constants kept (i ∷ l) = do
  stays ← keep_one u v b constants (length kept) i
  sift u v b constants (cond stays (kept ++ (i ∷ [])) kept) l

-- `Abstract::reduce`: the bound shrinks to what the list holds
unfoldable pub reduce : Bound → List ℕ → List ℕ → Metered Stop Meter Bound
reduce b constants kept = do
  held ← fold_m (λ h i. holding (length kept) (work 1) >> pure (hull_bound h (constant_bound (constant_at constants i)))) bottom_bound kept
  pure (meet_bound b held)

-- the list that a meet goes through: the shorter one, the left one of two of one length
abbrev pub source : Option (List ℕ) → Option (List ℕ) → Option (List ℕ)
source none y = y
source (some x) none = some x
source (some x) (some y) = some (cond (leb (length x) (length y)) x y)

-- a meet where neither value has a list: none, or the empty one where nothing is left
abbrev pub bare_meet : Value → Value → Bound → Value
bare_meet u v b = value b (cond (same_bound b bottom_bound) (some []) none) (first_reason u.widening v.widening)

abbrev pub meet_lists : Value → Value → Bound → List ℕ → Option (List ℕ) → Metered Stop Meter Value
meet_lists u v b constants none = pure (bare_meet u v b)
meet_lists u v b constants (some l) = do
  kept ← sift u v b constants [] l
  reduced ← reduce b constants kept
  pure (value reduced (some kept) None)

-- 01: "Meet intersects, then shrinks the bound to what the list holds."
unfoldable pub meet : List ℕ → Value → Value → Metered Stop Meter Value
meet constants u v = work 1 >> meet_lists u v (meet_bound u.bound v.bound) constants (source u.values v.values)

unfoldable pub refine : List ℕ → Value → Interval → Metered Stop Meter Value
refine constants v i = meet constants v (numeric i)

-- a value that had a list is followed by one that has none: `widened` counts the arguments that this befalls
abbrev pub loses : Option (List ℕ) → Option (List ℕ) → Bool
loses none new = false
loses (some l) none = true
loses (some l) (some m) = false
