-- `evaluation::Scene::constant` meets its contract.
use mathlib.Core.Path.{ap, ◌∙◌}
use Rattle.limits.proofs.Answering.{exits}
use Rattle.lattice.specs.Value.{value_of}
use Rattle.limits.proofs.Seen.{seen_went, seen_broke}
use Rattle.evaluation.specs.Operands.{sees}
use Rattle.evaluation.proofs.Operands.{sees_going, after_stop, after_on}
use Rattle.evaluation.proofs.Scene.constant.Goals as goal

pub returns-in_err-value : goal.returns-in_err-value
returns-in_err-value c = exits _ c.from_residual.ensures.1 (ap sees (after_stop _ (seen_broke value_of c.constant.ensures c.in_err-value.was)))

pub returns-in_err-restrict : goal.returns-in_err-restrict
returns-in_err-restrict c =
    exits _ c.from_residual-in_err-restrict.ensures.1 (ap sees (seen_broke value_of c.restrict.ensures c.in_err-restrict.was ∙ after_on _ (seen_went value_of c.constant.ensures c.in_ok-value.was)))

pub returns : goal.returns
returns c =
    sees_going (value_of c.in_ok-restrict.field-0) c.from.ensures (seen_went value_of c.restrict.ensures c.in_ok-restrict.was ∙ after_on _ (seen_went value_of c.constant.ensures c.in_ok-value.was))
