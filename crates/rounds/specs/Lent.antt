-- What the code lends itself, as the definitions have it.
use Rattle.std.specs.Prelude.{ℕ}
use Rattle.limits.specs.declared.Stop.{Stop}
use Rattle.limits.specs.Metered.{Metered}
use Rattle.rules.specs.Read.{heads_at}
use Rattle.slots.specs.Slots.{Slots, each}
use Rattle.refinements.specs.Refinement.{refinements_of}
use Rattle.evaluation.specs.Operands.{input_in}
use Rattle.rounds.specs.declared.Given as code
use Rattle.rounds.specs.declared.Locals as code_locals
use Rattle.rounds.specs.declared.Joining.{Joining}
use Rattle.rounds.specs.Locals.{Locals, locals}
use Rattle.rounds.specs.Round.{Given, given, join_head}

abbrev pub given_in : code.Given → Given
given_in g = given (input_in g.input) g.rules.now g.count g.seeds.now g.positions

abbrev pub locals_in : code_locals.Locals → Locals
locals_in l = locals l.domains.now l.produced.now (refinements_of l.refinements.now l.recorded)

-- what a round does with a rule's slots
abbrev pub joining : Joining → Given → ℕ → Locals → Metered Stop Slots (Unit {0})
joining t g id l = each (join_head g.input l.produced l.known) (heads_at g.rules id)
