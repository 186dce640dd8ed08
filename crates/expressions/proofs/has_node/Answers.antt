-- `expressions::has_node` meets its contract.
use Rattle.expressions.proofs.CodeLaws.{other_left}
use Rattle.expressions.proofs.has_node.Goals as goal

pub returns-else-nodes-i : goal.returns-else-nodes-i
returns-else-nodes-i c = other_left _ _ _ c.if-nodes-i.false
