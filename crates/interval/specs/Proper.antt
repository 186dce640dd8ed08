-- Intervals as the engine makes them: their ends are numbers of 32 bits that ascend.
use Rattle.integers.specs.Order.{Le, Number}
use Rattle.interval.specs.declared.Interval.{Interval}
use Rattle.interval.specs.declared.Interval.TheVariants.{Bottom, Bounded, Unbounded}

abbrev pub Proper : Interval → Type 0
Proper Bottom = Unit {0}
Proper (Bounded low high) = Number low × (Number high × Le low high)
Proper Unbounded = Unit {0}
