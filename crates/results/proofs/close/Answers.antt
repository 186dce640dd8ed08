-- `results::close` meets its contract.
use Rattle.limits.proofs.Answering.{exits, answered_through}
use Rattle.limits.proofs.Monad.{then_stop, then_on}
use Rattle.results.specs.Result.{bound, close}
use Rattle.results.proofs.close.Goals as goal

pub returns-in_err-each_rule : goal.returns-in_err-each_rule
unfolding close bound
returns-in_err-each_rule c = exits c.from_residual.result c.from_residual.ensures.1 (then_stop _ _ _ c.in_err-each_rule.ensures)

pub returns : goal.returns
unfolding close bound
returns c = then_on _ _ _ c.in_ok-each_rule.ensures (answered_through _ _ _ _ _ _ c.pay.ensures)
