-- `rounds::copy_in` meets its contract.
use Rattle.limits.proofs.Answering.{answered_through}
use Rattle.slots.proofs.copy_in.Goals as goal

pub returns : goal.returns
returns c = rw c.settle.ensures (answered_through _ _ _ _ _ _ (rw c.meter-meter.ensures at c.copy_rows-copied.ensures))
