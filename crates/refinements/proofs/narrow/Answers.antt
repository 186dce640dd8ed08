-- `refinements::narrow` meets its contract.
use mathlib.Core.Path.{refl}
use Rattle.lattice.specs.Value.{value_of}
use Rattle.refinements.proofs.CodeLaws.{narrow_yes, narrow_no}
use Rattle.refinements.proofs.narrow.Goals as goal

pub returns-then-not-is_integer : goal.returns-then-not-is_integer
returns-then-not-is_integer c = narrow_no c.args.constants.now c.args.restriction (value_of c.args.value) _ c.if-not-is_integer.ensures refl

pub returns : goal.returns
returns c = narrow_yes c.args.constants.now c.args.restriction (value_of c.args.value) _ c.if-not-is_integer.ensures c.refine-narrowed.result _ refl c.refine-narrowed.ensures c.entries_of.ensures c.release.ensures
