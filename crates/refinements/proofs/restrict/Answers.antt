-- `refinements::restrict` meets its contract.
use Rattle.lattice.specs.Value.{value_of}
use Rattle.refinements.specs.Refinement.{refinement_at}
use Rattle.refinements.proofs.CodeLaws.{restrict_stopped, restrict_one, restrict_none}
use Rattle.refinements.proofs.restrict.Goals as goal

pub returns-in-Ok-Some : goal.returns-in-Ok-Some
returns-in-Ok-Some c = restrict_one c.args.constants.now (refinement_at c.args.refinements.now) c.args.id (value_of c.args.value) c.args.count _ (rw c.in-Ok-Some.field-0-is at c.in-Ok-Some.ensures.place) (rw c.in-Ok-Some.field-0-is at c.in-Ok-Some.ensures.within) c.restriction_at.ensures c.narrow.ensures

pub returns-in-Ok-None : goal.returns-in-Ok-None
returns-in-Ok-None c = restrict_none c.args.constants.now (refinement_at c.args.refinements.now) c.args.id (value_of c.args.value) c.args.count _ (rw c.in-Ok-None.field-0-is at c.in-Ok-None.ensures.place)

pub returns-in-Err : goal.returns-in-Err
returns-in-Err c = restrict_stopped c.args.constants.now (refinement_at c.args.refinements.now) c.args.id (value_of c.args.value) c.args.count _ c.in-Err.ensures.place c.entries_of.ensures c.release.ensures
