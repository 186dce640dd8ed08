-- `bindings::meet_bindings` meets its contract.
use native.Mathlib.Omega.{arith}
use mathlib.Core.Path.{refl}
use Rattle.limits.proofs.Answering.{went, broke, exits}
use Rattle.rules.specs.Read.{binding_at}
use Rattle.slots.proofs.CodeLaws.{step_stop, step_goes, gone, one_stopped, one_more}
use Rattle.evaluation.specs.Operands.{input_in}
use Rattle.bindings.specs.Bindings.{meet_binding}
use Rattle.bindings.proofs.meet_bindings.Goals as goal

pub returns-in_err-work : goal.returns-in_err-work
returns-in_err-work c =
    rw (← c.binding_count-j-end.ensures)
    (exits _ c.from_residual.ensures.1 (one_stopped (meet_binding (input_in c.args.input.now)) (binding_at c.args.rules.now c.args.id) _ _ c.loop-j.invariant c.loop-j-test.true refl (step_stop _ _ _ (broke c.work.ensures c.in_err-work.was))))

pub returns-in_err-meet_binding : goal.returns-in_err-meet_binding
returns-in_err-meet_binding c =
    rw (← c.binding_count-j-end.ensures)
    (exits _ c.from_residual-in_err-meet_binding.ensures.1
    (one_stopped (meet_binding (input_in c.args.input.now)) (binding_at c.args.rules.now c.args.id) _ _ c.loop-j.invariant c.loop-j-test.true c.binding_at.ensures
    (step_goes _ _ _ (went c.work.ensures c.in_ok-work.was) (broke c.meet_binding.ensures c.in_err-meet_binding.was))))

pub loop-j-preserved : goal.loop-j-preserved
loop-j-preserved c =
    one_more (meet_binding (input_in c.args.input.now)) (binding_at c.args.rules.now c.args.id) _ _ c.loop-j.invariant c.loop-j-test.true c.binding_at.ensures
    (step_goes _ _ _ (went c.work.ensures c.in_ok-work.was) (went c.meet_binding.ensures c.in_ok-meet_binding.was))

pub returns : goal.returns
returns c = rw (← c.binding_count-j-end.ensures) (gone (meet_binding (input_in c.args.input.now)) (binding_at c.args.rules.now c.args.id) _ _ c.loop-j.invariant (omega arith))
