-- `engine::begin` meets its contract.
use Rattle.limits.proofs.Answering.{exits, answered_through}
use Rattle.limits.proofs.Monad.{then_stop, then_on, through_stop, through_on}
use Rattle.engine.specs.Run.{begin}
use Rattle.engine.proofs.begin.Goals as goal

pub returns-in_err-enter_ends : goal.returns-in_err-enter_ends
unfolding begin
returns-in_err-enter_ends c = exits _ c.from_residual.ensures.1 (then_stop _ _ _ (through_stop _ _ _ _ _ _ c.in_err-enter_ends.ensures))

pub returns : goal.returns
unfolding begin
returns c = then_on _ _ _ (through_on _ _ _ _ _ _ c.in_ok-enter_ends.ensures) (answered_through _ _ _ _ _ _ c.seed.ensures)
