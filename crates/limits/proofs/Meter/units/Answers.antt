-- `limits::Meter::units` meets its contract.
use Rattle.limits.proofs.CodeLaws.{units_done}
use Rattle.limits.proofs.Meter.units.Goals as goal

pub returns : goal.returns
returns c = units_done _ _ _ _ c.charge_units.ensures
