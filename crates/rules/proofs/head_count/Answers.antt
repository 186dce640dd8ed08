-- `rules::head_count` meets its contract.
use Rattle.rules.proofs.CodeLaws.{head_count_read}
use Rattle.rules.proofs.head_count.Goals as goal

pub returns : goal.returns
returns c =
    let a = c.args in
    head_count_read a.cells.now a.id c.reach-at.result c.reach-at.ensures c.cell_at.ensures c.at_most.ensures
