-- `guards::narrow_slot` meets its contract.
use Rattle.limits.proofs.Monad.{pure_is}
use Rattle.guards.proofs.narrow_slot.Goals as goal

pub returns-in_default : goal.returns-in_default
returns-in_default c = rw c.in_default.is (pure_is tt _)
