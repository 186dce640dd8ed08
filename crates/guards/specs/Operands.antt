-- What guards ask of a value: its bound alone, for which the code hands operands on and not values.
use Rattle.std.proofs.Math.Option.{none}
use Rattle.std.specs.Prelude.{None}
use Rattle.interval.specs.declared.Bound.{Bound}
use Rattle.lattice.specs.Value.{Value, value}

-- a value with this bound: guards ask for no more
abbrev pub bare : Bound → Value
bare b = value b none None
