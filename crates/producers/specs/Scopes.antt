-- What the code checks against, as the scope of the definitions.
use Rattle.producers.specs.declared.Checker.{Checker}
use Rattle.producers.specs.Producer.{Scope, scope}

abbrev pub scope_in : Checker → Scope
scope_in c = scope c.nodes.now c.expressions c.slots
