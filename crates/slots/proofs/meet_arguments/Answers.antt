-- `slots::meet_arguments` meets its contract.
use native.Mathlib.Omega.{arith}
use mathlib.Core.Path.{refl, ◌∙◌}
use Rattle.limits.proofs.Answering.{exits}
use Rattle.rules.specs.Read.{binding_at}
use Rattle.slots.specs.Slots.{meet_argument}
use Rattle.slots.proofs.CodeLaws.{goes, gone, one_stopped, one_more}
use Rattle.slots.proofs.meet_arguments.Goals as goal

pub loop-j-init : goal.loop-j-init
loop-j-init c = (refl, goes (meet_argument c.args.constants.now c.args.arguments.now) (binding_at c.args.rules.now c.args.id) _ _)

pub returns-in_err-meet_argument : goal.returns-in_err-meet_argument
returns-in_err-meet_argument c =
    rw (← c.binding_count-j-end.ensures)
    (exits c.from_residual.result c.from_residual.ensures.1
    (one_stopped (meet_argument c.args.constants.now c.args.arguments.now) (binding_at c.args.rules.now c.args.id) _ _ c.loop-j.invariant.1 c.loop-j-test.true c.binding_at-binding.ensures c.in_err-meet_argument.ensures))

pub loop-j-preserved : goal.loop-j-preserved
loop-j-preserved c =
    (c.meet_argument.auto.cells ∙ c.loop-j.invariant.0, one_more (meet_argument c.args.constants.now c.args.arguments.now) (binding_at c.args.rules.now c.args.id) _ _ c.loop-j.invariant.1 c.loop-j-test.true c.binding_at-binding.ensures c.in_ok-meet_argument.ensures)

pub returns : goal.returns
returns c = rw (← c.binding_count-j-end.ensures) (gone (meet_argument c.args.constants.now c.args.arguments.now) (binding_at c.args.rules.now c.args.id) _ _ c.loop-j.invariant.1 (omega arith))
