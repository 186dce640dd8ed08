-- `evaluation::Scene::narrow_slot` meets its contract.
use Rattle.evaluation.proofs.Operands.{unlisted_narrowed}
use Rattle.evaluation.proofs.Scene.narrow_slot.Goals as goal

pub returns : goal.returns
returns c = unlisted_narrowed _ _ _ _ c.is_listed.ensures c.if-is_listed.false c.bound_at.ensures c.narrow_bound.ensures
