-- `rounds::fill` meets its contract.
use Rattle.limits.proofs.Answering.{exits}
use Rattle.limits.proofs.Monad.{then_stop, then_on, through_stop, through_on}
use Rattle.rounds.specs.Locals.{fill}
use Rattle.rounds.proofs.fill.Goals as goal

pub returns-in_err-work : goal.returns-in_err-work
unfolding fill
returns-in_err-work c = exits c.from_residual.result c.from_residual.ensures.1 (then_stop _ _ _ (through_stop _ _ _ _ _ _ c.in_err-work.ensures))

pub returns : goal.returns
unfolding fill
returns c = then_on _ _ _ (through_on _ _ _ _ _ _ c.in_ok-work.ensures) c.rule.ensures
