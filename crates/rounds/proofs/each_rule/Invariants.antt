-- `rounds::each_rule` meets its contract.
use Rattle.evaluation.specs.Operands.{input_in}
use Rattle.rounds.specs.Locals.{with_locals}
use Rattle.rounds.specs.Lent.{given_in}
use Rattle.rounds.specs.Round.{standing}
use Rattle.rounds.proofs.CodeLaws.{Ruling}
use Rattle.rounds.proofs.each_rule.Given as goal

abbrev pub invariant-loop-id : goal.invariant-loop-id
invariant-loop-id g l =
    Ruling l.fn.given.rules.now (λ id. with_locals (input_in l.fn.given.input) l.fn.given.rules.now id l.fn.arguments (g.T.Task.does l.fn.task (given_in l.fn.given) id)) l.fn.given.count (standing l.fn.course.budget l.fn.course.context l.fn.table) l.id (standing l.course.budget l.course.context l.table)
