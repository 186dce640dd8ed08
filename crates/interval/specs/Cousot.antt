-- The interval lattice of Cousot and Cousot (1977): an interval of integers is empty, or it has a lower end in ℤ ∪ {−∞} and an upper one in ℤ ∪ {+∞}.
use Rattle.std.specs.Prelude.{Bool, true, cond, ℤ}
use Rattle.std.specs.Int.Signed.{le_z}
use Rattle.integers.specs.Order.{Le, min_z, max_z}

pub data Lower : Type 0 where
  −∞ : Lower
  from : ℤ → Lower

pub data Upper : Type 0 where
  to : ℤ → Upper
  +∞ : Upper

pub data Cousot : Type 0 where
  empty : Cousot
  between : Lower → Upper → Cousot

-- ---- the order of the ends

abbrev pub LeLower : Lower → Lower → Type 0
LeLower −∞ b = Unit {0}
LeLower (from a) −∞ = ⊥
LeLower (from a) (from b) = Le a b

abbrev pub LeUpper : Upper → Upper → Type 0
LeUpper a +∞ = Unit {0}
LeUpper +∞ (to b) = ⊥
LeUpper (to a) (to b) = Le a b

-- a lower end is at most an upper one: as a fact, and as a test
abbrev pub LeEnds : Lower → Upper → Type 0
LeEnds −∞ b = Unit {0}
LeEnds (from a) +∞ = Unit {0}
LeEnds (from a) (to b) = Le a b

abbrev pub le_ends : Lower → Upper → Bool
le_ends −∞ b = true
le_ends (from a) +∞ = true
le_ends (from a) (to b) = le_z a b

abbrev pub min_lower : Lower → Lower → Lower
min_lower −∞ b = −∞
min_lower (from a) −∞ = −∞
min_lower (from a) (from b) = from (min_z a b)

abbrev pub max_lower : Lower → Lower → Lower
max_lower −∞ b = b
max_lower (from a) −∞ = from a
max_lower (from a) (from b) = from (max_z a b)

abbrev pub min_upper : Upper → Upper → Upper
min_upper +∞ b = b
min_upper (to a) +∞ = to a
min_upper (to a) (to b) = to (min_z a b)

abbrev pub max_upper : Upper → Upper → Upper
max_upper +∞ b = +∞
max_upper (to a) +∞ = +∞
max_upper (to a) (to b) = to (max_z a b)

-- ---- the lattice

abbrev pub join : Cousot → Cousot → Cousot
join empty y = y
join (between a b) empty = between a b
join (between a b) (between c d) = between (min_lower a c) (max_upper b d)

-- from a to b, or nothing where they descend
abbrev pub from_to : Lower → Upper → Cousot
from_to a b = cond (le_ends a b) (between a b) empty

abbrev pub meet : Cousot → Cousot → Cousot
meet empty y = empty
meet (between a b) empty = empty
meet (between a b) (between c d) = from_to (max_lower a c) (min_upper b d)

-- an interval is below another if it lies within it
infix 50 ◌⊑◌
abbrev pub ◌⊑◌ : Cousot → Cousot → Type 0
empty ⊑ y = Unit {0}
between a b ⊑ empty = ⊥
between a b ⊑ between c d = LeLower c a × LeUpper b d

-- theirs are empty or ascend: the lower end is at most the upper one
abbrev pub Ascends : Cousot → Type 0
Ascends empty = Unit {0}
Ascends (between a b) = LeEnds a b

-- the integers of an interval
infix 50 ◌∋◌
abbrev pub ◌∋◌ : Cousot → ℤ → Type 0
empty ∋ n = ⊥
between a b ∋ n = LeEnds a (to n) × LeEnds (from n) b
