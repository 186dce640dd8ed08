-- `engine::enter_ends` meets its contract.
use native.Mathlib.Omega.{arith}
use Rattle.integers.specs.Order.{least32}
use Rattle.limits.proofs.Answering.{exits}
use Rattle.limits.proofs.Monad.{then_stop, then_on}
use Rattle.thresholds.specs.Thresholds.{entry}
use Rattle.thresholds.proofs.Outcomes.{enter_grown}
use Rattle.engine.specs.Run.{enter_ends}
use Rattle.engine.proofs.enter_ends.Goals as goal

pub returns-in_err-enter : goal.returns-in_err-enter
unfolding enter_ends
returns-in_err-enter c = exits _ c.from_residual.ensures.1 (then_stop _ _ _ c.in_err-enter.ensures)

-- room for the second
pub enter-requires-2 : goal.enter-requires-2
enter-requires-2 c = omega (arith, enter_grown least32 (entry c.args.budget.now c.args.count.now c.args.table.now) c.in_ok-enter.ensures, c.requires, c.enter.auto.table)

pub returns : goal.returns
unfolding enter_ends
returns c = then_on _ _ _ c.in_ok-enter.ensures c.enter-2.ensures
