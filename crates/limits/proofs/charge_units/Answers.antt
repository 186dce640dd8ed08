-- `limits::charge_units` meets its contract.
use native.Mathlib.Omega.{arith}
use Rattle.limits.proofs.Units.{units_whole, units_ended}
use Rattle.limits.proofs.charge_units.Goals as goal

pub returns-then-room-times : goal.returns-then-room-times
returns-then-room-times c =
    units_ended c.args.resource c.args.limit c.args.times c.args.count.now (omega (arith, c.saturating_sub-room.ensures)) (rw (← c.saturating_sub-room.ensures) c.charge_count.ensures)

pub returns : goal.returns
returns c = units_whole c.args.resource c.args.limit c.args.times c.args.count.now (omega (arith, c.saturating_sub-room.ensures))
