-- `passes::advance` meets its contract.
use Rattle.passes.specs.Step.{steps}
use Rattle.passes.proofs.StepLaws.{Advancing}
use Rattle.passes.proofs.advance.Given as goal

abbrev pub invariant-loop-i : goal.invariant-loop-i
invariant-loop-i l = Advancing l.thresholds l.current l.candidates l.count (steps l.fn.budget l.fn.next l.fn.growth) l.i l.changed (steps l.budget l.next l.growth)
