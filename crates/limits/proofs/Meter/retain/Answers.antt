-- `limits::Meter::retain` meets its contract.
use Rattle.limits.proofs.CodeLaws.{retain_done}
use Rattle.limits.proofs.Meter.retain.Goals as goal

pub returns : goal.returns
returns c = retain_done _ _ _ _ c.charge_count.ensures
