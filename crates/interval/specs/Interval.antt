-- The intervals of the port, and what each operation answers. 01: "The interval covers the numbers", "Join takes the hull", "Meet intersects".
use Rattle.std.specs.Prelude.{Bool, true, false, ◌&&◌, ℤ, Option, Some, None}
use Rattle.std.specs.Int.Signed.{le_z}
use Rattle.integers.specs.Order.{least32, greatest32, eq_z}
use Rattle.interval.specs.declared.Interval.{Interval}
use Rattle.interval.specs.declared.Interval.TheVariants.{Bottom, Bounded, Unbounded}
use Rattle.interval.specs.Cousot.{−∞, from, to, +∞, Cousot, empty, between, from_to, join, meet}

-- the interval of Cousot and Cousot that each case is
abbrev pub cousot : Interval → Cousot
cousot Bottom = empty
cousot (Bounded low high) = between (from low) (to high)
cousot Unbounded = between −∞ +∞

-- and back: a half-open one does not arise here (`join_back`, `meet_back`)
abbrev pub interval : Cousot → Interval
interval empty = Bottom
interval (between (from low) (to high)) = Bounded low high
interval (between (from low) +∞) = Unbounded
interval (between −∞ (to high)) = Unbounded
interval (between −∞ +∞) = Unbounded

unfoldable pub hull_of : Interval → Interval → Interval
hull_of x y = interval (join (cousot x) (cousot y))

unfoldable pub meet_of : Interval → Interval → Interval
meet_of x y = interval (meet (cousot x) (cousot y))

-- from low to high, or nothing where they descend
abbrev pub ascending_of : ℤ → ℤ → Interval
ascending_of low high = interval (from_to (from low) (to high))

-- `Interval::checked`: from low to high, cut to 32 bits
unfoldable pub checked_of : ℤ → ℤ → Interval
checked_of low high = interval (meet (between (from low) (to high)) (between (from least32) (to greatest32)))

-- `Interval::endpoints`: Unbounded has the two ends of 32 bits
abbrev pub endpoints_of : Interval → Option (ℤ × ℤ)
endpoints_of Bottom = None
endpoints_of (Bounded low high) = Some (low, high)
endpoints_of Unbounded = Some (least32, greatest32)

abbrev pub within_ends : Option (ℤ × ℤ) → ℤ → Bool
within_ends None n = false
within_ends (Some (low, high)) n = le_z low n && le_z n high

abbrev pub contains_of : Interval → ℤ → Bool
contains_of i n = within_ends (endpoints_of i) n

-- `==`: Unbounded is another interval than the one with both ends of 32 bits
abbrev pub same_of : Interval → Interval → Bool
same_of Bottom Bottom = true
same_of Bottom (Bounded c d) = false
same_of Bottom Unbounded = false
same_of (Bounded a b) Bottom = false
same_of (Bounded a b) (Bounded c d) = eq_z a c && eq_z b d
same_of (Bounded a b) Unbounded = false
same_of Unbounded Bottom = false
same_of Unbounded (Bounded c d) = false
same_of Unbounded Unbounded = true
