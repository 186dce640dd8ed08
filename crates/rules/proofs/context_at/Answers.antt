-- `rules::context_at` meets its contract.
use Rattle.rules.proofs.CodeLaws.{context_read_lem}
use Rattle.rules.proofs.context_at.Goals as goal

pub returns : goal.returns
returns c =
    let a = c.args in
    context_read_lem a.cells.now a.id c.reach-at.result c.reach-at.ensures c.cell_at-marked.ensures c.cell_at.ensures c.then_some.ensures
