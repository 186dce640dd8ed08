-- What the code lends, as the definitions have it.
use Rattle.std.specs.Prelude.{ℕ, List}
use Rattle.limits.specs.declared.Stop.{Stop}
use Rattle.limits.specs.declared.Budget.{Budget}
use Rattle.limits.specs.Metered.{Metered, zoom}
use Rattle.limits.specs.Meter.{meter_of, with_meter}
use Rattle.slots.specs.Slots.{Slots, slots}

-- m with the counts of a budget
abbrev pub in_budget : {A : Type 0} → Metered Stop Slots A → Metered Stop (Budget × List ℕ) A
in_budget = zoom (λ s. slots (meter_of s.0) s.1) (λ t s. (with_meter t.meter s.0, t.rows))
