-- `nodes::put_node` meets its contract.
use Rattle.nodes.proofs.CodeLaws.{node_put}
use Rattle.nodes.proofs.put_node.Goals as goal

pub returns : goal.returns
returns c =
    let a = c.args in
    node_put a.cells.now a.id c.start-at.result c.start-at.ensures a.node a.nesting c.put_word.ensures c.put_word-2.ensures c.put_word-3.ensures c.put_word-4.ensures c.put_word-5.ensures
