-- `refinements::restriction_at` meets its contract.
use Rattle.refinements.proofs.CodeLaws.{restriction_read}
use Rattle.refinements.proofs.restriction_at.Goals as goal

pub returns : goal.returns
returns c =
    let a = c.args in
    restriction_read a.cells.now a.k c.start-at.result c.start-at.ensures c.cell_at.ensures c.cell_at-2.ensures c.cell_at-3.ensures c.interval_of.ensures
