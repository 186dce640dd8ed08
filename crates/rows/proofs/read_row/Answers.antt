-- `rows::read_row` meets its contract.
use borrow.Author.Tests.{eq-eqb}
use mathlib.Core.Path.{ap}
use mathlib.Core.Bool.{not}
use Rattle.rows.proofs.CodeLaws.{row_read, row_bare}
use Rattle.rows.proofs.read_row.Goals as goal

pub returns-then-not-kept : goal.returns-then-not-kept
returns-then-not-kept c = row_bare c.args.cells.now c.args.at _ c.read_bound-bound.ensures c.cell_at-kept.ensures c.cell_at-len.ensures c.cell_at.ensures c.reason_of-reason.ensures (ap not (eq-eqb _ 0 c.if-not-kept.true))

pub returns : goal.returns
returns c = row_read c.args.cells.now c.args.at c.read_bound-bound.ensures c.cell_at-kept.ensures c.cell_at-len.ensures c.cell_at.ensures c.reason_of-reason.ensures c.ids_at-ids.ensures
