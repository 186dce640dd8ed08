-- `rules::head_at` meets its contract.
use Rattle.rules.proofs.CodeLaws.{head_read}
use Rattle.rules.proofs.head_at.Goals as goal

pub returns : goal.returns
returns c =
    let a = c.args in
    head_read a.cells.now a.id c.reach.result c.reach.ensures a.j c.reach-2.result c.reach-2.ensures c.cell_at.ensures c.cell_at-2.ensures c.from.ensures c.from-2.ensures
