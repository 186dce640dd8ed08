-- `provenance::put_record` meets its contract.
use Rattle.provenance.proofs.CodeLaws.{two_cells}
use Rattle.provenance.proofs.put_record.Goals as goal

pub returns : goal.returns
returns c = two_cells c.args.table.now c.args.number c.args.argument c.args.context c.put_cell.ensures c.put_cell-2.ensures
