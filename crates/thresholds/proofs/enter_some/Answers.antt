-- `thresholds::enter_some` meets its contract.
use Rattle.limits.proofs.Monad.{pure_is}
use Rattle.thresholds.proofs.enter_some.Goals as goal

pub returns-in-None : goal.returns-in-None
returns-in-None c = rw c.in-None.is (pure_is _ _)
