-- `passes::grow` meets its contract.
use Rattle.limits.proofs.Monad.{bind_stop, bind_on, then_stop, then_on}
use Rattle.limits.proofs.Seen.{seen_exits}
use Rattle.passes.specs.Step.{grow}
use Rattle.passes.specs.Lent.{grown_in}
use Rattle.passes.proofs.grow.Goals as goal

pub returns-in_err-work : goal.returns-in_err-work
unfolding grow
returns-in_err-work c = seen_exits grown_in _ c.from_residual.ensures.1 (then_stop _ _ _ c.in_err-work.ensures)

pub returns-in_err-value : goal.returns-in_err-value
unfolding grow
returns-in_err-value c = seen_exits grown_in _ c.from_residual-in_err-value.ensures.1 (then_on _ _ _ c.in_ok-work.ensures (bind_stop _ _ _ c.in_err-value.ensures))

pub returns : goal.returns
unfolding grow
returns c = then_on _ _ _ c.in_ok-work.ensures (bind_on _ _ _ c.in_ok-value.ensures c.widen_value.ensures)
