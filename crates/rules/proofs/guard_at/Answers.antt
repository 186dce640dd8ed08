-- `rules::guard_at` meets its contract.
use Rattle.rules.proofs.CodeLaws.{guard_read}
use Rattle.rules.proofs.guard_at.Goals as goal

pub returns : goal.returns
returns c =
    let a = c.args in
    guard_read a.cells.now a.id c.reach.result c.reach.ensures a.j c.reach-2.result c.reach-2.ensures
    c.cell_at.ensures c.cell_at-2.ensures c.cell_at-3.ensures c.cell_at-4.ensures c.guard_of.ensures
