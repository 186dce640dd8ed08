-- `guards::refine_both` meets its contract.
use Rattle.limits.proofs.Answering.{exits}
use Rattle.limits.proofs.Monad.{bind_stop, bind_on}
use Rattle.guards.specs.Guards.{refine_both}
use Rattle.guards.proofs.refine_both.Goals as goal

pub returns-in_err-recorded : goal.returns-in_err-recorded
unfolding refine_both
returns-in_err-recorded c = exits _ c.from_residual.ensures.1 (bind_stop _ _ _ c.in_err-recorded.ensures)

pub returns : goal.returns
unfolding refine_both
returns c = bind_on _ _ _ c.in_ok-recorded.ensures c.refine_operand-2.ensures
