-- `rows::bound_at` meets its contract.
use Rattle.rows.proofs.CodeLaws.{bound_read}
use Rattle.rows.proofs.bound_at.Goals as goal

pub returns : goal.returns
returns c = bound_read c.args.cells.now c.args.row _ c.start.ensures c.read_bound.ensures
