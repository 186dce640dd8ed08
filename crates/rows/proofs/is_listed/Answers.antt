-- `rows::is_listed` meets its contract.
use Rattle.rows.proofs.CodeLaws.{listed_read}
use Rattle.rows.proofs.is_listed.Goals as goal

pub returns : goal.returns
returns c =
    listed_read c.args.cells.now c.args.row c.start-at.result c.start-at.ensures c.cell_at.ensures
