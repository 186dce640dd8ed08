-- `thresholds::enter` meets its contract.
use mir.Facts.{to_z-of_z}
use Rattle.limits.proofs.Answering.{exits}
use Rattle.thresholds.proofs.CodeLaws.{place_within, enter_found, enter_halted, enter_unpaid, enter_new}
use Rattle.thresholds.proofs.enter.Goals as goal

pub returns-in_err-place : goal.returns-in_err-place
returns-in_err-place c = exits _ c.from_residual.ensures.1 (enter_halted _ _ _ _ _ (rw (to_z-of_z c.ranges.value, c.meter-meter.ensures) at c.seek_number-sought.ensures) c.settle.ensures c.in_err-place.was)

pub overflow_sub-count : goal.overflow_sub-count
overflow_sub-count c = place_within _ _ _ _ _ (rw (to_z-of_z c.ranges.value, c.meter-meter.ensures) at c.seek_number-sought.ensures) c.settle.ensures c.in_ok-place.was c.in-Err.is

pub returns-in_err-pay : goal.returns-in_err-pay
returns-in_err-pay c =
    exits _ c.from_residual-in_err-pay.ensures.1 (enter_unpaid _ _ _ _ _ (rw (to_z-of_z c.ranges.value, c.meter-meter.ensures) at c.seek_number-sought.ensures) c.settle.ensures c.in_ok-place.was c.in-Err.is c.in_err-pay.ensures)

pub returns-in_ok-pay : goal.returns-in_ok-pay
returns-in_ok-pay c =
    enter_new _ _ _ _ _ (rw (to_z-of_z c.ranges.value, c.meter-meter.ensures) at c.seek_number-sought.ensures) c.settle.ensures c.in_ok-place.was c.in-Err.is c.in_ok-pay.ensures (rw (to_z-of_z c.ranges.value) at c.insert.ensures)

pub returns-in_default : goal.returns-in_default
returns-in_default c = enter_found _ _ _ _ _ (rw (to_z-of_z c.ranges.value, c.meter-meter.ensures) at c.seek_number-sought.ensures) c.settle.ensures c.in_ok-place.was c.in_default.is
