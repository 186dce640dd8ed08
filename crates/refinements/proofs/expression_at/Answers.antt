-- `refinements::expression_at` meets its contract.
use mathlib.Core.Path.{◌∙◌}
use Rattle.refinements.proofs.CodeLaws.{expression_read}
use Rattle.refinements.proofs.expression_at.Goals as goal

pub returns : goal.returns
returns c = expression_read c.args.cells.now c.args.k c.start-at.result c.start-at.ensures (c.from.ensures ∙ c.cell_at.ensures)
