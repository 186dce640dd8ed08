-- `nodes::expression_at` meets its contract.
use Rattle.nodes.proofs.CodeLaws.{expression_read}
use Rattle.nodes.proofs.expression_at.Goals as goal

pub returns : goal.returns
returns c =
    let a = c.args in
    expression_read a.cells.now a.id c.node_at.ensures c.expression_of.ensures
