-- `results::keep_both` meets its contract.
use Rattle.limits.proofs.Answering.{exits}
use Rattle.limits.proofs.Monad.{then_stop, then_on}
use Rattle.results.specs.Result.{keep_both}
use Rattle.results.proofs.keep_both.Goals as goal

pub returns-in_err-keep_bounds : goal.returns-in_err-keep_bounds
unfolding keep_both
returns-in_err-keep_bounds c = exits c.from_residual.result c.from_residual.ensures.1 (then_stop _ _ _ c.in_err-keep_bounds.ensures)

pub returns : goal.returns
unfolding keep_both
returns c = then_on _ _ _ c.in_ok-keep_bounds.ensures c.keep_bounds-2.ensures
