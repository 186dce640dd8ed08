-- The intervals of Cousot and Cousot are a lattice: the order of the ends, the order of the intervals, and that `join` and `meet` are
-- the least upper and the greatest lower bound.
use native.Mathlib.Omega.{arith}
use mathlib.Core.Path.{◌≡◌, refl, ap, ap₂}
use mathlib.Core.Logic.{◌↔◌}
use mathlib.Core.Bool.{true}
use lib.IntN.{pos}
use Rattle.integers.specs.Order.{min_z, max_z}
use Rattle.integers.proofs.Tests.{by_cond}
use Rattle.integers.proofs.OrderLaws.{le_yes, yes_le, le_antisym, min_left, min_right, min_least, max_left, max_right, max_greatest}
use Rattle.interval.specs.Cousot.{Lower, −∞, from, Upper, to, +∞, LeLower, LeUpper, LeEnds, le_ends, min_lower, max_lower, min_upper, max_upper}
use Rattle.interval.specs.Cousot.{Cousot, empty, between, from_to, join, meet, ◌⊑◌, Ascends}

-- ---- the order of the ends

pub lower_refl : (a : Lower) → LeLower a a
lower_refl −∞ = tt
lower_refl (from a) = omega arith

pub lower_trans : (a b c : Lower) → LeLower a b → LeLower b c → LeLower a c
lower_trans −∞ b c p q = tt
lower_trans (from a) −∞ c p q = absurd p
lower_trans (from a) (from b) −∞ p q = q
lower_trans (from a) (from b) (from c) p q = omega arith

pub lower_antisym : (a b : Lower) → LeLower a b → LeLower b a → a ≡ b
lower_antisym −∞ −∞ p q = refl
lower_antisym −∞ (from b) p q = absurd q
lower_antisym (from a) −∞ p q = absurd p
lower_antisym (from a) (from b) p q = ap from (le_antisym a b p q)

pub upper_refl : (a : Upper) → LeUpper a a
upper_refl +∞ = tt
upper_refl (to a) = omega arith

pub upper_trans : (a b c : Upper) → LeUpper a b → LeUpper b c → LeUpper a c
upper_trans a b +∞ p q = tt
upper_trans a +∞ (to c) p q = absurd q
upper_trans +∞ (to b) (to c) p q = p
upper_trans (to a) (to b) (to c) p q = omega arith

pub upper_antisym : (a b : Upper) → LeUpper a b → LeUpper b a → a ≡ b
upper_antisym +∞ +∞ p q = refl
upper_antisym +∞ (to b) p q = absurd p
upper_antisym (to a) +∞ p q = absurd q
upper_antisym (to a) (to b) p q = ap to (le_antisym a b p q)

-- an interval about one whose ends ascend has ends that ascend
pub ends_within : (a c : Lower) (b d : Upper) → LeLower c a → LeEnds a b → LeUpper b d → LeEnds c d
ends_within a −∞ b d p u q = tt
ends_within a (from c) b +∞ p u q = tt
ends_within −∞ (from c) b (to d) p u q = absurd p
ends_within (from a) (from c) +∞ (to d) p u q = absurd q
ends_within (from a) (from c) (to b) (to d) p u q = omega arith

-- the test decides the order
pub le_ends_decides : (a : Lower) (b : Upper) → (le_ends a b ≡ true) ↔ LeEnds a b
le_ends_decides −∞ b = (λ _. tt, λ _. refl)
le_ends_decides (from a) +∞ = (λ _. tt, λ _. refl)
le_ends_decides (from a) (to b) = (le_yes a b, yes_le a b)

-- ---- the least and the greatest of two ends

pub min_lower_left : (a b : Lower) → LeLower (min_lower a b) a
min_lower_left −∞ b = tt
min_lower_left (from a) −∞ = tt
min_lower_left (from a) (from b) = min_left a b

pub min_lower_right : (a b : Lower) → LeLower (min_lower a b) b
min_lower_right −∞ b = tt
min_lower_right (from a) −∞ = tt
min_lower_right (from a) (from b) = min_right a b

pub min_lower_greatest : (a b c : Lower) → LeLower c a → LeLower c b → LeLower c (min_lower a b)
min_lower_greatest a b −∞ p q = tt
min_lower_greatest −∞ b (from c) p q = absurd p
min_lower_greatest (from a) −∞ (from c) p q = absurd q
min_lower_greatest (from a) (from b) (from c) p q = min_least a b c p q

pub max_lower_left : (a b : Lower) → LeLower a (max_lower a b)
max_lower_left −∞ b = tt
max_lower_left (from a) −∞ = lower_refl (from a)
max_lower_left (from a) (from b) = max_left a b

pub max_lower_right : (a b : Lower) → LeLower b (max_lower a b)
max_lower_right −∞ b = lower_refl b
max_lower_right (from a) −∞ = tt
max_lower_right (from a) (from b) = max_right a b

pub max_lower_least : (a b c : Lower) → LeLower a c → LeLower b c → LeLower (max_lower a b) c
max_lower_least −∞ b c p q = q
max_lower_least (from a) −∞ c p q = p
max_lower_least (from a) (from b) −∞ p q = p
max_lower_least (from a) (from b) (from c) p q = max_greatest a b c p q

pub min_upper_left : (a b : Upper) → LeUpper (min_upper a b) a
min_upper_left +∞ b = tt
min_upper_left (to a) +∞ = upper_refl (to a)
min_upper_left (to a) (to b) = min_left a b

pub min_upper_right : (a b : Upper) → LeUpper (min_upper a b) b
min_upper_right +∞ b = upper_refl b
min_upper_right (to a) +∞ = tt
min_upper_right (to a) (to b) = min_right a b

pub min_upper_greatest : (a b c : Upper) → LeUpper c a → LeUpper c b → LeUpper c (min_upper a b)
min_upper_greatest +∞ b c p q = q
min_upper_greatest (to a) +∞ c p q = p
min_upper_greatest (to a) (to b) +∞ p q = p
min_upper_greatest (to a) (to b) (to c) p q = min_least a b c p q

pub max_upper_left : (a b : Upper) → LeUpper a (max_upper a b)
max_upper_left +∞ b = tt
max_upper_left (to a) +∞ = tt
max_upper_left (to a) (to b) = max_left a b

pub max_upper_right : (a b : Upper) → LeUpper b (max_upper a b)
max_upper_right +∞ b = tt
max_upper_right (to a) +∞ = tt
max_upper_right (to a) (to b) = max_right a b

pub max_upper_least : (a b c : Upper) → LeUpper a c → LeUpper b c → LeUpper (max_upper a b) c
max_upper_least a b +∞ p q = tt
max_upper_least +∞ b (to c) p q = absurd p
max_upper_least (to a) +∞ (to c) p q = absurd q
max_upper_least (to a) (to b) (to c) p q = max_greatest a b c p q

-- ---- the order of the intervals

pub ⊑_refl : (x : Cousot) → x ⊑ x
⊑_refl empty = tt
⊑_refl (between a b) = (lower_refl a, upper_refl b)

pub ⊑_trans : (x y z : Cousot) → x ⊑ y → y ⊑ z → x ⊑ z
⊑_trans empty y z p q = tt
⊑_trans (between a b) empty z p q = absurd p
⊑_trans (between a b) (between c d) empty p q = absurd q
⊑_trans (between a b) (between c d) (between e f) p q = (lower_trans e c a q.0 p.0, upper_trans b d f p.1 q.1)

pub ⊑_antisym : (x y : Cousot) → x ⊑ y → y ⊑ x → x ≡ y
⊑_antisym empty empty p q = refl
⊑_antisym empty (between c d) p q = absurd q
⊑_antisym (between a b) empty p q = absurd p
⊑_antisym (between a b) (between c d) p q = ap₂ between (lower_antisym a c q.0 p.0) (upper_antisym b d p.1 q.1)

-- ---- `join` is the least upper bound, of any two

pub join_left : (x y : Cousot) → x ⊑ join x y
join_left empty y = tt
join_left (between a b) empty = ⊑_refl (between a b)
join_left (between a b) (between c d) = (min_lower_left a c, max_upper_left b d)

pub join_right : (x y : Cousot) → y ⊑ join x y
join_right empty y = ⊑_refl y
join_right (between a b) empty = tt
join_right (between a b) (between c d) = (min_lower_right a c, max_upper_right b d)

pub join_least : (x y z : Cousot) → x ⊑ z → y ⊑ z → join x y ⊑ z
join_least empty y z p q = q
join_least (between a b) empty z p q = p
join_least (between a b) (between c d) empty p q = absurd p
join_least (between a b) (between c d) (between e f) p q = (min_lower_greatest a c e p.0 q.0, max_upper_least b d f p.1 q.1)

-- ---- `meet` is the greatest lower bound: a lower bound of any two, and above every lower bound whose ends ascend

from_to_below : (a : Lower) (b : Upper) (z : Cousot) → between a b ⊑ z → from_to a b ⊑ z
from_to_below a b z p = by_cond (λ x. x ⊑ z) (le_ends a b) (λ _. p) (λ _. tt)

pub meet_left : (x y : Cousot) → meet x y ⊑ x
meet_left empty y = tt
meet_left (between a b) empty = tt
meet_left (between a b) (between c d) = from_to_below (max_lower a c) (min_upper b d) (between a b) (max_lower_left a c, min_upper_left b d)

pub meet_right : (x y : Cousot) → meet x y ⊑ y
meet_right empty y = tt
meet_right (between a b) empty = tt
meet_right (between a b) (between c d) = from_to_below (max_lower a c) (min_upper b d) (between c d) (max_lower_right a c, min_upper_right b d)

pub meet_greatest : (x y z : Cousot) → Ascends z → z ⊑ x → z ⊑ y → z ⊑ meet x y
meet_greatest x y empty u p q = tt
meet_greatest empty y (between e f) u p q = absurd p
meet_greatest (between a b) empty (between e f) u p q = absurd q
meet_greatest (between a b) (between c d) (between e f) u p q =
    let low = max_lower_least a c e p.0 q.0 in
    let high = min_upper_greatest b d f p.1 q.1 in
    rw ((le_ends_decides (max_lower a c) (min_upper b d)).1 (ends_within e (max_lower a c) f (min_upper b d) low u high)) (low, high)

-- an interval whose ends descend lies within itself, and not within its meet with itself
pub descending_escapes : (between (from (pos 1)) (to (pos 0)) ⊑ meet (between (from (pos 1)) (to (pos 0))) (between (from (pos 1)) (to (pos 0)))) → ⊥
unfolding min_z max_z
descending_escapes p = p

-- ---- the ends of a join ascend if those of both operands do; those of a meet do always

pub join_ascends : (x y : Cousot) → Ascends x → Ascends y → Ascends (join x y)
join_ascends empty y p q = q
join_ascends (between a b) empty p q = p
join_ascends (between a b) (between c d) p q = ends_within a (min_lower a c) b (max_upper b d) (min_lower_left a c) p (max_upper_left b d)

pub meet_ascends : (x y : Cousot) → Ascends (meet x y)
meet_ascends empty y = tt
meet_ascends (between a b) empty = tt
meet_ascends (between a b) (between c d) =
    by_cond Ascends (le_ends (max_lower a c) (min_upper b d)) (λ e. (le_ends_decides (max_lower a c) (min_upper b d)).0 e) (λ _. tt)
