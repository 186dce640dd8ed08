-- `rows::abstract_at` meets its contract.
use native.Mathlib.Omega.{arith}
use mathlib.Core.Path.{◌∙◌}
use Rattle.rows.proofs.CodeLaws.{row_at, row_whole}
use Rattle.rows.proofs.abstract_at.Goals as goal

pub returns-then-cells-at-ge-VALUE_ROW : goal.returns-then-cells-at-ge-VALUE_ROW
returns-then-cells-at-ge-VALUE_ROW c = c.read_row.ensures ∙ row_whole c.args.cells.now c.args.row c.start-at.result c.start-at.ensures (omega arith)

pub returns : goal.returns
returns c = c.read_row-2.ensures ∙ row_at c.args.cells.now c.args.row c.start-at.result c.start-at.ensures
