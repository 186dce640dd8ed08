-- `nodes::node_at` meets its contract.
use mathlib.Core.Path.{refl}
use Rattle.nodes.proofs.CodeLaws.{node_read, node_inside}
use Rattle.nodes.proofs.node_at.Goals as goal

pub returns-in-len4-up : goal.returns-in-len4-up
returns-in-len4-up c = node_inside c.args.cells.now c.args.id c.start-at.result c.start-at.ensures

pub returns : goal.returns
returns c =
    node_read c.args.cells.now c.args.id c.start-at.result c.start-at.ensures c.word_at.ensures c.word_at-2.ensures c.word_at-3.ensures c.word_at-4.ensures refl
