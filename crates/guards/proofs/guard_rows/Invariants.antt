-- `guards::guard_rows` meets its contract.
use Rattle.rules.specs.Read.{guard_at}
use Rattle.evaluation.specs.Operands.{input_in}
use Rattle.guards.specs.Guards.{local, guard_step}
use Rattle.limits.proofs.Onward.{Folding}
use Rattle.guards.proofs.guard_rows.Given as goal

abbrev pub invariant-loop-j : goal.invariant-loop-j
invariant-loop-j l =
    Folding (guard_step (input_in l.input)) (guard_at l.rules l.id) l.j-end 0 (local l.fn.meter l.fn.produced l.fn.refinements) l.j l.count (local l.meter l.produced l.refinements)
