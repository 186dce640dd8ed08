-- `evaluation::Scene::as_operand` meets its contract.
use Rattle.evaluation.proofs.Scene.+as_operand.Given as goal

abbrev pub decreases-as_operand : goal.decreases-as_operand
decreases-as_operand l = l.id
