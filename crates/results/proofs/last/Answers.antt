-- `results::last` meets its contract.
use Rattle.limits.proofs.Answering.{exits, answered_through}
use Rattle.limits.proofs.Monad.{then_stop, then_on, through_stop, through_on}
use Rattle.results.specs.Result.{closing, last}
use Rattle.results.proofs.last.Goals as goal

pub returns-in_err-last_round : goal.returns-in_err-last_round
unfolding last
returns-in_err-last_round c = exits c.from_residual.result c.from_residual.ensures.1 (then_stop _ _ _ (through_stop _ _ _ _ _ _ c.in_err-last_round.ensures))

pub returns : goal.returns
unfolding last closing
returns c = then_on _ _ _ (through_on _ _ _ _ _ _ c.in_ok-last_round.ensures) (answered_through _ _ _ _ _ _ c.close.ensures)
