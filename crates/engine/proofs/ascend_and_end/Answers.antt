-- `engine::ascend_and_end` meets its contract.
use Rattle.limits.proofs.Answering.{exits, answered_through}
use Rattle.limits.proofs.Monad.{then_stop, then_on, through_stop, through_on}
use Rattle.engine.specs.Run.{ascend_and_end}
use Rattle.engine.proofs.ascend_and_end.Goals as goal

pub returns-in_err-ascend : goal.returns-in_err-ascend
unfolding ascend_and_end
returns-in_err-ascend c = exits _ c.from_residual.ensures.1 (then_stop _ _ _ (through_stop _ _ _ _ _ _ c.in_err-ascend.ensures))

pub returns : goal.returns
unfolding ascend_and_end
returns c = then_on _ _ _ (through_on _ _ _ _ _ _ c.in_ok-ascend.ensures) (answered_through _ _ _ _ _ _ c.last.ensures)
