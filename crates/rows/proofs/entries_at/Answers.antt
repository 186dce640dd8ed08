-- `rows::entries_at` meets its contract.
use mathlib.Core.Path.{◌∙◌}
use Rattle.rows.proofs.CodeLaws.{entries_none, entries_some}
use Rattle.rows.proofs.entries_at.Goals as goal

pub returns-then-cell_at-eq0 : goal.returns-then-cell_at-eq0
returns-then-cell_at-eq0 c = entries_none c.args.cells.now c.args.row c.start-at.result c.start-at.ensures c.cell_at.ensures c.if-cell_at-eq0.true

pub returns : goal.returns
returns c = entries_some c.args.cells.now c.args.row c.start-at.result c.start-at.ensures c.cell_at.ensures c.cell_at-2.ensures c.if-cell_at-eq0.false (c.from.ensures ∙ c.min.ensures)
