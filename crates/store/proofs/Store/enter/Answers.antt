-- `store::Store::enter` meets its contract.
use mir.Facts.{to_z-of_z}
use Rattle.limits.proofs.Answering.{limits}
use Rattle.thresholds.specs.Thresholds.{around}
use Rattle.store.proofs.CodeLaws.{entered_on, entered_off}
use Rattle.store.proofs.Store.enter.Goals as goal

pub returns-in_err-enter_around : goal.returns-in_err-enter_around
returns-in_err-enter_around c =
    limits _ _ c.from_residual.ensures.1 (entered_off (around c.args.value) c.args.self.now c.args.table.now (rw (to_z-of_z c.ranges.value) at c.in_err-enter_around.ensures))

pub returns : goal.returns
returns c = entered_on (around c.args.value) c.args.self.now c.args.table.now (rw (to_z-of_z c.ranges.value) at c.in_ok-enter_around.ensures)
