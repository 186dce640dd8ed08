-- `nodes::nesting_at` meets its contract.
use Rattle.nodes.proofs.CodeLaws.{nesting_read}
use Rattle.nodes.proofs.nesting_at.Goals as goal

pub returns : goal.returns
returns c = nesting_read c.args.cells.now c.args.id c.start.result c.start.ensures c.word_at.ensures
