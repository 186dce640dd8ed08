-- `report::slot_line` meets its contract.
use Rattle.report.specs.Line.{slot_line}
use Rattle.report.proofs.LineLaws.{lined_shape, lined_refused, lined_given, slot_lined, not_written}
use Rattle.report.proofs.slot_line.Goals as goal

pub returns-then-line-ne-LINE : goal.returns-then-line-ne-LINE
returns-then-line-ne-LINE c = lined_shape c.args.line.now (slot_line c.args.store.now c.args.rules.now c.args.slots.now c.args.rule c.args.slot c.args.after) c.if-line-ne-LINE.true

pub returns-in_err-bound : goal.returns-in_err-bound
returns-in_err-bound c =
    not_written _ _ c.from_residual.ensures.1
    (lined_refused c.args.line.now _ c.in_err-bound.field-0.0 c.if-line-ne-LINE.false (slot_lined c.args.store.now c.args.rules.now c.args.slots.now c.args.rule c.args.slot c.args.after c.slot.ensures c.in_err-bound.was))

pub returns : goal.returns
returns c = lined_given c.args.line.now _ c.if-line-ne-LINE.false (slot_lined c.args.store.now c.args.rules.now c.args.slots.now c.args.rule c.args.slot c.args.after c.slot.ensures c.in_ok-bound.was) c.put_slot.ensures
