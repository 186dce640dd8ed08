-- `evaluation::Scene::restrict_interval` meets its contract.
use Rattle.evaluation.proofs.Operands.{free, sees_numeral}
use Rattle.evaluation.proofs.Scene.restrict_interval.Goals as goal

pub returns-then-self-eq0 : goal.returns-then-self-eq0
returns-then-self-eq0 c constants = sees_numeral c.args.interval c.numeral.ensures (free constants _ _ _ _ c.if-self-eq0.true)
