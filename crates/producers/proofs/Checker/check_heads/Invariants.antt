-- `producers::Checker::check_heads` meets its contract.
use Rattle.producers.specs.Scopes.{scope_in}
use Rattle.producers.proofs.CodeLaws.{Heading}
use Rattle.producers.proofs.Checker.check_heads.Given as goal

abbrev pub invariant-loop-head : goal.invariant-loop-head
invariant-loop-head l = Heading (scope_in l.fn.self) l.initial.store l.initial.table l.initial.heads l.head-index l.store l.table
