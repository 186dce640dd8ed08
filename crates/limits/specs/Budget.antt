-- What a store call and a run charge: the seven charges, the release of live entries, and the count of arguments that lost their list.
use Rattle.std.specs.Prelude.{ℕ, ◌+◌, ◌-◌, min, ◌^◌, Result, Ok, Err}
use Rattle.limits.specs.declared.Resource.{Resource}
use Rattle.limits.specs.declared.Resource.TheVariants.{Work, Predicates, Positions, Links, ValueEntries, Rounds, InspectedBytes}
use Rattle.limits.specs.declared.Stop.{Stop}
use Rattle.limits.specs.declared.Budget.{Budget}
use Rattle.limits.specs.Charge.{charge_of}
use Rattle.limits.specs.Records.{limit_of, count_of, with_count, with_widened, with_statistics}
use Rattle.limits.specs.Metered.{Run, going, stopped, Metered}

-- what a charge of one count makes of the budget: a refused one changes nothing
abbrev pub charged : Resource → Budget → Result ℕ Stop → Run Stop Budget (Unit {0})
charged r b (Ok n) = going tt (with_statistics (with_count r n b.statistics) b)
charged r b (Err e) = stopped e b

unfoldable pub charge : Resource → ℕ → Metered Stop Budget (Unit {0})
charge r amount b = charged r b (charge_of r (count_of r b.statistics) amount (limit_of r b.limits))

abbrev pub work : ℕ → Metered Stop Budget (Unit {0})
work = charge Work

abbrev pub bytes : ℕ → Metered Stop Budget (Unit {0})
bytes = charge InspectedBytes

abbrev pub predicates : ℕ → Metered Stop Budget (Unit {0})
predicates = charge Predicates

abbrev pub positions : ℕ → Metered Stop Budget (Unit {0})
positions = charge Positions

abbrev pub links : ℕ → Metered Stop Budget (Unit {0})
links = charge Links

-- `round` of engine.rs
abbrev pub round : Metered Stop Budget (Unit {0})
round = charge Rounds 1

-- `Budget::release`: n live entries fewer, and 0 on counts that no calls make
abbrev pub released : ℕ → Budget → Budget
released n b = with_statistics (with_count ValueEntries (b.statistics.entries - n) b.statistics) b

-- one argument more has lost its list; the count stays at the largest number
abbrev pub widened_once : Budget → Budget
widened_once b = with_statistics (with_widened (min (b.statistics.widened + 1) (2 ^ 64 - 1)) b.statistics) b
