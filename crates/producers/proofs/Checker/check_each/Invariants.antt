-- `producers::Checker::check_each` meets its contract.
use mathlib.Core.Path.{◌≡◌}
use lib.ListN.{drop}
use Rattle.producers.specs.Producer.{each}
use Rattle.producers.specs.Scopes.{scope_in}
use Rattle.producers.proofs.Checker.check_each.Given as goal

abbrev pub invariant-loop-part : goal.invariant-loop-part
invariant-loop-part g l =
    each (g.P.Part.checks l.fn.self.arguments (scope_in l.fn.self)) l.initial.parts l.initial.meter ≡
    each (g.P.Part.checks l.fn.self.arguments (scope_in l.fn.self)) (drop l.part-index l.initial.parts) l.meter
