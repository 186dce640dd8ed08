-- `limits::Meter::work` meets its contract.
use Rattle.limits.proofs.CodeLaws.{work_done}
use Rattle.limits.proofs.Meter.work.Goals as goal

pub returns : goal.returns
returns c = work_done _ _ _ _ c.charge_count.ensures
