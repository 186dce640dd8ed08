-- `bindings::bind_rows` meets its contract.
use Rattle.limits.proofs.Answering.{exits}
use Rattle.limits.proofs.Monad.{then_stop, then_on}
use Rattle.bindings.specs.Bindings.{three_passes}
use Rattle.bindings.proofs.bind_rows.Goals as goal

pub returns-in_err-meet_arguments : goal.returns-in_err-meet_arguments
unfolding three_passes
returns-in_err-meet_arguments c = exits _ c.from_residual.ensures.1 (then_stop _ _ _ c.in_err-meet_arguments.ensures)

pub returns-in_err-mark_dependents : goal.returns-in_err-mark_dependents
unfolding three_passes
returns-in_err-mark_dependents c = exits _ c.from_residual-in_err-mark_dependents.ensures.1 (then_on _ _ _ c.in_ok-meet_arguments.ensures (then_stop _ _ _ c.in_err-mark_dependents.ensures))

pub returns : goal.returns
unfolding three_passes
returns c = then_on _ _ _ c.in_ok-meet_arguments.ensures (then_on _ _ _ c.in_ok-mark_dependents.ensures c.meet_bindings.ensures)
