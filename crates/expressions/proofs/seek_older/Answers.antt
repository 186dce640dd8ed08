-- `expressions::seek_older` meets its contract.
use Rattle.expressions.proofs.CodeLaws.{older_sought, older_none}
use Rattle.expressions.proofs.seek_older.Goals as goal

pub returns-then-is_shared : goal.returns-then-is_shared
returns-then-is_shared c = older_sought _ _ _ c.is_shared.ensures _ c.if-is_shared.true c.from.ensures c.seek_node.ensures

pub returns-else-is_shared : goal.returns-else-is_shared
returns-else-is_shared c = older_none _ _ _ c.is_shared.ensures _ c.if-is_shared.false
