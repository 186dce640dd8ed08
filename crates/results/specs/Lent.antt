-- What the code does with a rule's slots, as the definitions have it.
use Rattle.std.specs.Prelude.{ℕ}
use Rattle.limits.specs.declared.Stop.{Stop}
use Rattle.limits.specs.Metered.{Metered}
use Rattle.rules.specs.Read.{slots_at}
use Rattle.slots.specs.Slots.{Slots}
use Rattle.rounds.specs.Locals.{Locals}
use Rattle.rounds.specs.Round.{Given}
use Rattle.results.specs.declared.Bounding.{Bounding}
use Rattle.results.specs.Result.{keep_both}

abbrev pub bounding : Bounding → Given → ℕ → Locals → Metered Stop Slots (Unit {0})
bounding t g id l = keep_both l.domains l.produced (slots_at g.rules id) id
