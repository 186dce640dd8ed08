-- `refinements::position` meets its contract.
use Rattle.refinements.specs.Refinement.{refinement_at}
use Rattle.refinements.proofs.CodeLaws.{Seeking}
use Rattle.refinements.proofs.position.Given as goal

abbrev pub invariant-loop-k : goal.invariant-loop-k
invariant-loop-k l = Seeking (refinement_at l.refinements) l.id l.count l.fn.meter l.k l.meter
