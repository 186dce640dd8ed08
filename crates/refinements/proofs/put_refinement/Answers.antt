-- `refinements::put_refinement` meets its contract.
use mathlib.Core.Path.{refl}
use Rattle.refinements.proofs.CodeLaws.{refinement_put}
use Rattle.refinements.proofs.put_refinement.Goals as goal

pub returns : goal.returns
returns c =
    let a = c.args in
    refinement_put a.cells.now a.k c.start-at.result c.start-at.ensures a.id a.restriction refl c.case_cell.ensures c.low_cell.ensures c.high_cell.ensures c.put_cell.ensures c.put_cell-2.ensures c.put_cell-3.ensures c.put_cell-4.ensures
