-- `rules::guard_count` meets its contract.
use Rattle.rules.proofs.CodeLaws.{guard_count_read}
use Rattle.rules.proofs.guard_count.Goals as goal

pub returns : goal.returns
returns c =
    let a = c.args in
    guard_count_read a.cells.now a.id c.reach-at.result c.reach-at.ensures c.cell_at.ensures c.at_most.ensures
