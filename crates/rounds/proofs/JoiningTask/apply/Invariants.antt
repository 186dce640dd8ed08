-- `rounds::Joining::apply` meets its contract.
use Rattle.rules.specs.Read.{head_at}
use Rattle.slots.specs.Slots.{slots}
use Rattle.slots.proofs.CodeLaws.{Going}
use Rattle.refinements.specs.Refinement.{refinements_of}
use Rattle.evaluation.specs.Operands.{input_in}
use Rattle.rounds.specs.Round.{join_head}
use Rattle.rounds.proofs.JoiningTask.apply.Given as goal

abbrev pub invariant-loop-j : goal.invariant-loop-j
invariant-loop-j l =
    Going (join_head (input_in l.given.input) l.locals.produced.now (refinements_of l.locals.refinements.now l.locals.recorded)) (head_at l.given.rules.now l.id) l.j-end (slots l.fn.meter l.fn.table) l.j (slots l.meter l.table)
