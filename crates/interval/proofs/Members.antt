-- The numbers and names of intervals and bounds: what hull, meet, `checked`, `contains`, `constant`, `allows` and `same` mean.
use native.Mathlib.Omega.{arith}
use Prim.Native.Nat.{ℕ}
use mathlib.Core.Path.{◌≡◌, refl, sym, ap, ◌∙◌}
use mathlib.Core.Logic.{◌↔◌, ◌⊎◌, inl, inr, ⊎_elim}
use mathlib.Core.Bool.{true, ◌&&◌}
use lib.IntN.{ℤ}
use lib.Signed.{le_z}
use Rattle.integers.specs.Order.{Between, eq_z, min_z, max_z, least32, greatest32, Number}
use Rattle.integers.proofs.Tests.{by_cond, and_left, and_right}
use Rattle.integers.proofs.OrderLaws.{le_yes, yes_le, eq_yes, yes_eq, le_antisym}
use Rattle.interval.specs.declared.Integrality.{Integrality}
use Rattle.interval.specs.declared.Integrality.TheVariants.{Integer, Mixed}
use Rattle.interval.specs.declared.Interval.{Interval}
use Rattle.interval.specs.declared.Interval.TheVariants.{Bottom, Bounded, Unbounded}
use Rattle.interval.specs.declared.Bound.{Bound}
use Rattle.interval.specs.declared.TheConstants.Bound.{TOP, BOTTOM}
use Rattle.interval.specs.declared.Constant.{Constant}
use Rattle.interval.specs.declared.Constant.TheVariants.{Number as number, Name, Large}
use Rattle.interval.specs.Cousot.{−∞, from, to, +∞, Cousot, empty, between, from_to, join, meet, ◌⊑◌, ◌∋◌}
use Rattle.interval.specs.Interval.{cousot, interval, hull_of, meet_of, checked_of, contains_of, same_of}
use Rattle.interval.specs.Bound.{join_integrality, meet_integrality, same_integrality, mixed, HasNumber, HasNames}
use Rattle.interval.specs.Bound.{top_bound, bottom_bound, constant_bound, hull_bound, meet_bound, same_bound, allows_of}
use Rattle.interval.proofs.Lattice.{⊑_trans, join_left, join_right, meet_left, meet_right, meet_greatest}

-- ---- nothing is lost in coming back from the intervals of Cousot and Cousot

pub interval_cousot : (x : Interval) → interval (cousot x) ≡ x
interval_cousot Bottom = refl
interval_cousot (Bounded a b) = refl
interval_cousot Unbounded = refl

pub cousot_injective : (x y : Interval) → cousot x ≡ cousot y → x ≡ y
cousot_injective x y e = sym (interval_cousot x) ∙ ap interval e ∙ interval_cousot y

from_to_back : (a b : ℤ) → cousot (interval (from_to (from a) (to b))) ≡ from_to (from a) (to b)
from_to_back a b = by_cond (λ x. cousot (interval x) ≡ x) (le_z a b) (λ _. refl) (λ _. refl)

pub join_back : (x y : Interval) → cousot (hull_of x y) ≡ join (cousot x) (cousot y)
unfolding hull_of
join_back Bottom y = ap cousot (interval_cousot y)
join_back (Bounded a b) Bottom = refl
join_back (Bounded a b) (Bounded c d) = refl
join_back (Bounded a b) Unbounded = refl
join_back Unbounded Bottom = refl
join_back Unbounded (Bounded c d) = refl
join_back Unbounded Unbounded = refl

pub meet_back : (x y : Interval) → cousot (meet_of x y) ≡ meet (cousot x) (cousot y)
unfolding meet_of
meet_back Bottom y = refl
meet_back (Bounded a b) Bottom = refl
meet_back (Bounded a b) (Bounded c d) = from_to_back (max_z a c) (min_z b d)
meet_back (Bounded a b) Unbounded = from_to_back a b
meet_back Unbounded Bottom = refl
meet_back Unbounded (Bounded c d) = from_to_back c d
meet_back Unbounded Unbounded = refl

pub checked_back : (low high : ℤ) → cousot (checked_of low high) ≡ meet (between (from low) (to high)) (between (from least32) (to greatest32))
unfolding checked_of
checked_back low high = from_to_back (max_z low least32) (min_z high greatest32)

-- ---- the integers of a join and of a meet: an interval has n if the interval of n alone lies within it

has_below : (x : Cousot) (n : ℤ) → (x ∋ n) ↔ (between (from n) (to n) ⊑ x)
has_below empty n = (λ h. h, λ h. h)
has_below (between −∞ (to b)) n = (λ h. h, λ h. h)
has_below (between −∞ +∞) n = (λ h. h, λ h. h)
has_below (between (from a) (to b)) n = (λ h. h, λ h. h)
has_below (between (from a) +∞) n = (λ h. h, λ h. h)

has_more : (x y : Cousot) (n : ℤ) → x ⊑ y → x ∋ n → y ∋ n
has_more x y n p h = (has_below y n).1 (⊑_trans (between (from n) (to n)) x y ((has_below x n).0 h) p)

pub join_has : (x y : Cousot) (n : ℤ) → (x ∋ n) ⊎ (y ∋ n) → join x y ∋ n
join_has x y n h = ⊎_elim (has_more x (join x y) n (join_left x y)) (has_more y (join x y) n (join_right x y)) h

pub meet_has : (x y : Cousot) (n : ℤ) → (meet x y ∋ n) ↔ ((x ∋ n) × (y ∋ n))
meet_has x y n = (
  λ h. (has_more (meet x y) x n (meet_left x y) h, has_more (meet x y) y n (meet_right x y) h),
  λ h. (has_below (meet x y) n).1
      (meet_greatest x y (between (from n) (to n)) (omega arith) ((has_below x n).0 h.0) ((has_below y n).0 h.1)),
)

-- ---- the numbers of intervals

-- a number of either is one of the hull
pub hull_has : (x y : Interval) (n : ℤ) → (cousot x ∋ n) ⊎ (cousot y ∋ n) → cousot (hull_of x y) ∋ n
hull_has x y n h = rw (join_back x y) (join_has (cousot x) (cousot y) n h)

-- the numbers of both are those of the meet
pub meet_of_has : (x y : Interval) (n : ℤ) → (cousot (meet_of x y) ∋ n) ↔ ((cousot x ∋ n) × (cousot y ∋ n))
meet_of_has x y n = rw (meet_back x y) (meet_has (cousot x) (cousot y) n)

-- `checked` has the numbers of 32 bits from low to high
pub checked_has_all : (low high n : ℤ) → (cousot (checked_of low high) ∋ n) ↔ (Between low high n × Number n)
checked_has_all low high n = rw (checked_back low high) (meet_has (between (from low) (to high)) (between (from least32) (to greatest32)) n)

pub checked_has : (low high n : ℤ) → Number n → (cousot (checked_of low high) ∋ n) ↔ Between low high n
checked_has low high n f = (λ h. ((checked_has_all low high n).0 h).0, λ h. (checked_has_all low high n).1 (h, f))

within_ends_lem : (low high n : ℤ) → ((le_z low n && le_z n high) ≡ true) ↔ Between low high n
within_ends_lem low high n = (
  λ e. (le_yes low n (and_left (le_z low n) (le_z n high) e), le_yes n high (and_right (le_z low n) (le_z n high) e)),
  λ h. rw (yes_le low n h.0, yes_le n high h.1),
)

-- `contains`, of a number of 32 bits
pub contains_has : (x : Interval) (n : ℤ) → Number n → (contains_of x n ≡ true) ↔ (cousot x ∋ n)
contains_has Bottom n f = (λ e. let z : ◌≡◌ {A = ℕ} 0 1 = cc in omega arith, λ h. absurd h)
contains_has (Bounded low high) n f = within_ends_lem low high n
contains_has Unbounded n f = (λ e. (tt, tt), λ h. (within_ends_lem least32 greatest32 n).1 f)

-- ---- the numbers and the names of bounds

pub hull_number : (u v : Bound) (n : ℤ) → HasNumber u n ⊎ HasNumber v n → HasNumber (hull_bound u v) n
hull_number u v n h = hull_has u.interval v.interval n h

pub meet_number : (u v : Bound) (n : ℤ) → HasNumber (meet_bound u v) n ↔ (HasNumber u n × HasNumber v n)
meet_number u v n = meet_of_has u.interval v.interval n

join_integrality_names : (a b : Integrality) → HasNames (join_integrality a b) ↔ (HasNames a ⊎ HasNames b)
join_integrality_names Integer b = (λ h. inr h, λ h. ⊎_elim (λ n. absurd n) (λ n. n) h)
join_integrality_names Mixed b = (λ h. inl tt, λ h. tt)

meet_integrality_names : (a b : Integrality) → HasNames (meet_integrality a b) ↔ (HasNames a × HasNames b)
meet_integrality_names Integer b = (λ h. absurd h, λ h. absurd h.0)
meet_integrality_names Mixed b = (λ h. (tt, h), λ h. h.1)

pub hull_names : (u v : Bound) → HasNames (hull_bound u v).integrality ↔ (HasNames u.integrality ⊎ HasNames v.integrality)
hull_names u v = join_integrality_names u.integrality v.integrality

pub meet_names : (u v : Bound) → HasNames (meet_bound u v).integrality ↔ (HasNames u.integrality × HasNames v.integrality)
meet_names u v = meet_integrality_names u.integrality v.integrality

-- `allows`: exactly if the constant lies in the bound
pub allows_number : (b : Bound) (n : ℤ) → Number n → (allows_of b (number n) ≡ true) ↔ HasNumber b n
allows_number b n f = contains_has b.interval n f

mixed_names : (a : Integrality) → (mixed a ≡ true) ↔ HasNames a
mixed_names Integer = (λ e. let z : ◌≡◌ {A = ℕ} 0 1 = cc in omega arith, λ h. absurd h)
mixed_names Mixed = (λ e. tt, λ h. refl)

pub allows_name : (b : Bound) → (allows_of b Name ≡ true) ↔ HasNames b.integrality
allows_name b = mixed_names b.integrality

pub allows_large : (b : Bound) → (allows_of b Large ≡ true) ↔ HasNames b.integrality
allows_large b = mixed_names b.integrality

-- `constant`: a number's bound has that number and nothing else, a name's has names and no number
pub constant_number_lem : (n m : ℤ) → HasNumber (constant_bound (number n)) m ↔ (m ≡ n)
constant_number_lem n m = (λ h. le_antisym m n h.1 h.0, λ e. rw e (omega arith, omega arith))

pub number_no_names : (n : ℤ) → HasNames (constant_bound (number n)).integrality → ⊥
number_no_names n h = h

pub constant_name_lem : HasNames (constant_bound Name).integrality
constant_name_lem = tt

pub constant_large : HasNames (constant_bound Large).integrality
constant_large = tt

pub name_no_number : (n : ℤ) → HasNumber (constant_bound Name) n → ⊥
name_no_number n h = h

pub large_no_number : (n : ℤ) → HasNumber (constant_bound Large) n → ⊥
large_no_number n h = h

pub constant_allowed : (c : Constant) → allows_of (constant_bound c) c ≡ true
constant_allowed (number n) = (within_ends_lem n n n).1 (omega arith, omega arith)
constant_allowed Name = refl
constant_allowed Large = refl

-- ---- `same` is equality

same_yes : (x y : Interval) → same_of x y ≡ true → x ≡ y
same_yes Bottom Bottom e = refl
same_yes Bottom (Bounded c d) e = cc
same_yes Bottom Unbounded e = cc
same_yes (Bounded a b) Bottom e = cc
same_yes (Bounded a b) (Bounded c d) e =
    let p = eq_yes a c (and_left (eq_z a c) (eq_z b d) e) in
    let q = eq_yes b d (and_right (eq_z a c) (eq_z b d) e) in
    cc
same_yes (Bounded a b) Unbounded e = cc
same_yes Unbounded Bottom e = cc
same_yes Unbounded (Bounded c d) e = cc
same_yes Unbounded Unbounded e = refl

same_self : (x : Interval) → same_of x x ≡ true
same_self Bottom = refl
same_self (Bounded a b) = rw (yes_eq a a refl, yes_eq b b refl)
same_self Unbounded = refl

pub same_is : (x y : Interval) → (same_of x y ≡ true) ↔ (x ≡ y)
same_is x y = (same_yes x y, λ e. rw e (same_self y))

integrality_yes : (a b : Integrality) → same_integrality a b ≡ true → a ≡ b
integrality_yes Integer Integer e = refl
integrality_yes Integer Mixed e = cc
integrality_yes Mixed Integer e = cc
integrality_yes Mixed Mixed e = refl

integrality_self : (a : Integrality) → same_integrality a a ≡ true
integrality_self Integer = refl
integrality_self Mixed = refl

bound_yes : (u v : Bound) → same_bound u v ≡ true → u ≡ v
bound_yes u v e =
    let a = same_integrality u.integrality v.integrality in
    let b = same_of u.interval v.interval in
    let p = integrality_yes u.integrality v.integrality (and_left a b e) in
    let q = same_yes u.interval v.interval (and_right a b e) in
    λ i. record { integrality = p i; interval = q i }

pub same_bound_is : (u v : Bound) → (same_bound u v ≡ true) ↔ (u ≡ v)
same_bound_is u v = (bound_yes u v, λ e. rw (e, integrality_self v.integrality) (same_self v.interval))

-- ---- Unbounded is not the interval with both ends of 32 bits, and their hull is Unbounded

pub unbounded_other : (Unbounded ≡ Bounded least32 greatest32) → ⊥
unbounded_other e = let z : ◌≡◌ {A = ℕ} 0 1 = cc in omega arith

pub unbounded_hull : hull_of Unbounded (Bounded least32 greatest32) ≡ Unbounded
unfolding hull_of
unbounded_hull = refl

-- ---- the two constants of the code

pub top_is : TOP ≡ top_bound
top_is = refl

pub bottom_is : BOTTOM ≡ bottom_bound
bottom_is = refl
