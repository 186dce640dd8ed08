-- `rows::put_row` meets its contract.
use Rattle.rows.proofs.CodeLaws.{row_put, kept_is}
use Rattle.rows.proofs.put_row.Goals as goal

pub returns : goal.returns
returns c = row_put c.args.cells.now c.args.at c.args.value (kept_is c.args.value c.from.ensures) c.listed_ids-ids.ensures.list c.reason_number-reason.ensures c.put_bound.ensures c.put_cell.ensures c.put_cell-2.ensures c.put_cell-3.ensures c.put_ids.ensures
