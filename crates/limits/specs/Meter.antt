-- The part of a budget that lattice and transfer charge, work and live entries, each beside its limit. The code charges it in place.
use Rattle.std.specs.Prelude.{ℕ, zero, suc, ◌-◌, Result, Ok, Err}
use Rattle.limits.specs.declared.Resource.TheVariants.{Work, ValueEntries}
use Rattle.limits.specs.declared.Stop.{Stop}
use Rattle.limits.specs.declared.Budget.{Budget}
use Rattle.limits.specs.declared.Meter.{Meter}
use Rattle.limits.specs.Charge.{charge_of}
use Rattle.limits.specs.Records.{with_count, with_statistics}
use Rattle.limits.specs.Metered.{Run, going, stopped, Metered, answered, mapped, pure, ◌>>◌, on_stop, finally, zoom}

abbrev pub meter : ℕ → ℕ → ℕ → ℕ → Meter
meter w mw e me = record { work = w; max_work = mw; entries = e; max_entries = me }

abbrev pub with_work : ℕ → Meter → Meter
with_work n m = meter n m.max_work m.entries m.max_entries

abbrev pub with_entries : ℕ → Meter → Meter
with_entries n m = meter m.work m.max_work n m.max_entries

-- what a charge of one count makes of the meter: `put` stores the new count, a refused one changes nothing
abbrev pub charged : (ℕ → Meter) → Meter → Result ℕ Stop → Run Stop Meter (Unit {0})
charged put m (Ok n) = going tt (put n)
charged put m (Err e) = stopped e m

unfoldable pub work : ℕ → Metered Stop Meter (Unit {0})
work amount m = charged (λ n. with_work n m) m (charge_of Work m.work amount m.max_work)

-- n units of work, one by one: what a search pays that looks at n items
unfoldable pub units : ℕ → Metered Stop Meter (Unit {0})
units zero = pure tt
units (suc n) = work 1 >> units n

unfoldable pub retain : ℕ → Metered Stop Meter (Unit {0})
retain count m = charged (λ n. with_entries n m) m (charge_of ValueEntries m.entries count m.max_entries)

abbrev pub released : ℕ → Meter → Meter
released n m = with_entries (m.entries - n) m

unfoldable pub release : ℕ → Metered Stop Meter (Unit {0})
release n m = going tt (released n m)

-- m while n entries are live that go where m is stopped
abbrev pub holding : {A : Type 0} → ℕ → Metered Stop Meter A → Metered Stop Meter A
holding n m = on_stop (released n) m

-- a step's answer in the code, and the meter that it left, while n entries are live that go where it was stopped
abbrev pub held_through : {A : Type 0} → ℕ → Result A Stop → Meter → Run Stop Meter A
held_through n x m = mapped (λ t. t) (released n) (λ e. e) (answered x m)

-- m while n entries are live that go whichever way m ends: those of a value in hand that m uses last
abbrev pub dropping : {A : Type 0} → ℕ → Metered Stop Meter A → Metered Stop Meter A
dropping n m = finally (released n) m

-- ---- in a budget

abbrev pub meter_of : Budget → Meter
meter_of b = meter b.statistics.work b.limits.work b.statistics.entries b.limits.entries

abbrev pub with_meter : Meter → Budget → Budget
with_meter m b = with_statistics (with_count Work m.work (with_count ValueEntries m.entries b.statistics)) b

abbrev pub metered : {A : Type 0} → Metered Stop Meter A → Metered Stop Budget A
metered = zoom meter_of with_meter
