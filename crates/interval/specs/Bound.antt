-- Bounds. 01: "A bound is Integer or Mixed, with an interval [..]. The interval covers the numbers; Mixed also admits names."
use Rattle.std.specs.Prelude.{Bool, true, false, ◌&&◌, ℤ}
use Rattle.interval.specs.declared.Integrality.{Integrality}
use Rattle.interval.specs.declared.Integrality.TheVariants.{Integer, Mixed}
use Rattle.interval.specs.declared.Interval.{Interval}
use Rattle.interval.specs.declared.Interval.TheVariants.{Bottom, Bounded, Unbounded}
use Rattle.interval.specs.declared.Bound.{Bound}
use Rattle.interval.specs.declared.Constant.{Constant}
use Rattle.interval.specs.declared.Constant.TheVariants.{Number, Name, Large}
use Rattle.interval.specs.Cousot.{◌∋◌}
use Rattle.interval.specs.Interval.{cousot, hull_of, meet_of, contains_of, same_of}

abbrev pub top_bound : Bound
top_bound = record { integrality = Mixed; interval = Unbounded }

abbrev pub bottom_bound : Bound
bottom_bound = record { integrality = Integer; interval = Bottom }

abbrev pub numeric_bound : Interval → Bound
numeric_bound i = record { integrality = Integer; interval = i }

-- a constant's bound: a number alone, or a name
abbrev pub constant_bound : Constant → Bound
constant_bound (Number n) = record { integrality = Integer; interval = Bounded n n }
constant_bound Name = record { integrality = Mixed; interval = Bottom }
constant_bound Large = record { integrality = Mixed; interval = Bottom }

-- the join has numbers alone where both have
abbrev pub join_integrality : Integrality → Integrality → Integrality
join_integrality Integer b = b
join_integrality Mixed b = Mixed

-- the meet has numbers alone where one has
abbrev pub meet_integrality : Integrality → Integrality → Integrality
meet_integrality Integer b = Integer
meet_integrality Mixed b = b

abbrev pub hull_bound : Bound → Bound → Bound
hull_bound u v = record { integrality = join_integrality u.integrality v.integrality; interval = hull_of u.interval v.interval }

abbrev pub meet_bound : Bound → Bound → Bound
meet_bound u v = record { integrality = meet_integrality u.integrality v.integrality; interval = meet_of u.interval v.interval }

abbrev pub same_integrality : Integrality → Integrality → Bool
same_integrality Integer Integer = true
same_integrality Integer Mixed = false
same_integrality Mixed Integer = false
same_integrality Mixed Mixed = true

abbrev pub same_bound : Bound → Bound → Bool
same_bound u v = same_integrality u.integrality v.integrality && same_of u.interval v.interval

abbrev pub mixed : Integrality → Bool
mixed Integer = false
mixed Mixed = true

-- whether a constant lies in a bound
abbrev pub allows_of : Bound → Constant → Bool
allows_of b (Number n) = contains_of b.interval n
allows_of b Name = mixed b.integrality
allows_of b Large = mixed b.integrality

-- ---- 01: "A number lies in a bound whose interval has it (Unbounded has all), a name in a Mixed one"

abbrev pub HasNumber : Bound → ℤ → Type 0
HasNumber b n = cousot b.interval ∋ n

abbrev pub HasNames : Integrality → Type 0
HasNames Integer = ⊥
HasNames Mixed = Unit {0}
