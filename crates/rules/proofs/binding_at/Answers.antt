-- `rules::binding_at` meets its contract.
use Rattle.rules.proofs.CodeLaws.{binding_read}
use Rattle.rules.proofs.binding_at.Goals as goal

pub returns : goal.returns
returns c =
    let a = c.args in
    binding_read a.cells.now a.id c.reach.result c.reach.ensures a.j c.reach-2.result c.reach-2.ensures
    c.cell_at.ensures c.cell_at-2.ensures c.cell_at-3.ensures c.cell_at-4.ensures c.binding_of.ensures
