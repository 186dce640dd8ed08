-- `rules::slots_at` meets its contract.
use Rattle.rules.proofs.CodeLaws.{slots_read}
use Rattle.rules.proofs.slots_at.Goals as goal

pub returns : goal.returns
returns c =
    let a = c.args in
    slots_read a.cells.now a.id c.reach-at.result c.reach-at.ensures c.cell_at.ensures c.at_most.ensures
