-- `evaluation::Scene::restrict` meets its contract.
use Rattle.evaluation.proofs.Operands.{free}
use Rattle.evaluation.proofs.Scene.restrict.Goals as goal

pub returns-then-self-eq0 : goal.returns-then-self-eq0
returns-then-self-eq0 c = free _ _ _ _ _ c.if-self-eq0.true
