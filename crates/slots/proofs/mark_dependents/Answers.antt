-- `slots::mark_dependents` meets its contract.
use native.Mathlib.Omega.{arith}
use mathlib.Core.Path.{refl, ◌∙◌}
use Rattle.limits.proofs.Answering.{exits}
use Rattle.rules.specs.Read.{binding_at}
use Rattle.slots.specs.Slots.{mark_dependent}
use Rattle.slots.proofs.CodeLaws.{goes, gone, one_stopped, one_more}
use Rattle.slots.proofs.mark_dependents.Goals as goal

pub loop-j-init : goal.loop-j-init
loop-j-init c = (refl, goes mark_dependent (binding_at c.args.rules.now c.args.id) _ _)

pub returns-in_err-mark_dependent : goal.returns-in_err-mark_dependent
returns-in_err-mark_dependent c =
    rw (← c.binding_count-j-end.ensures)
    (exits c.from_residual.result c.from_residual.ensures.1
    (one_stopped mark_dependent (binding_at c.args.rules.now c.args.id) _ _ c.loop-j.invariant.1 c.loop-j-test.true c.binding_at.ensures c.in_err-mark_dependent.ensures))

pub loop-j-preserved : goal.loop-j-preserved
loop-j-preserved c =
    (c.mark_dependent.auto.cells ∙ c.loop-j.invariant.0, one_more mark_dependent (binding_at c.args.rules.now c.args.id) _ _ c.loop-j.invariant.1 c.loop-j-test.true c.binding_at.ensures c.in_ok-mark_dependent.ensures)

pub returns : goal.returns
returns c = rw (← c.binding_count-j-end.ensures) (gone mark_dependent (binding_at c.args.rules.now c.args.id) _ _ c.loop-j.invariant.1 (omega arith))
