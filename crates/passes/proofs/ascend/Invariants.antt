-- `passes::ascend` meets its contract.
use Rattle.rounds.specs.Lent.{given_in}
use Rattle.passes.specs.Pass.{ascent}
use Rattle.passes.proofs.Rounds.{left}
use Rattle.passes.proofs.PassLaws.{Ascending}
use Rattle.passes.proofs.ascend.Given as goal

abbrev pub invariant-loop : goal.invariant-loop
invariant-loop l =
    Ascending (given_in l.given) l.thresholds (ascent l.fn.course.budget l.fn.course.context l.fn.current l.fn.growth) (ascent l.course.budget l.course.context l.current l.growth)

abbrev pub decreases-loop : goal.decreases-loop
decreases-loop l = left l.course.budget
