-- `report::line_count` meets its contract.
use mathlib.Core.Path.{refl, sym, ◌∙◌}
use Rattle.report.proofs.ReportLaws.{report_shape, report_phase, not_ended, counted, completed_length}
use Rattle.report.proofs.line_count.Goals as goal

pub returns-then-not-is_report_sized : goal.returns-then-not-is_report_sized
returns-then-not-is_report_sized c =
    rw (report_shape c.args.store.now c.args.arguments.now c.args.rules.now c.args.slots.now (sym c.is_report_sized.ensures ∙ c.if-not-is_report_sized.true))

pub returns-in-Absent : goal.returns-in-Absent
returns-in-Absent c =
    rw (not_ended c.args.store.now c.args.arguments.now c.args.rules.now c.args.slots.now (sym c.is_report_sized.ensures ∙ c.if-not-is_report_sized.false) c.in-Absent.is)

pub returns-in-Completed : goal.returns-in-Completed
returns-in-Completed c =
    let s = c.args.store.now in
    counted s c.args.arguments.now c.args.rules.now c.args.slots.now
    (report_phase s c.args.arguments.now c.args.rules.now c.args.slots.now (sym c.is_report_sized.ensures ∙ c.if-not-is_report_sized.false) c.in-Completed.is)
    (rw (completed_length s c.args.arguments.now c.args.rules.now c.args.slots.now, c.lines_before.ensures.lines, c.min.ensures, c.min-positions.ensures))

pub returns-in-Stopped : goal.returns-in-Stopped
returns-in-Stopped c =
    counted c.args.store.now c.args.arguments.now c.args.rules.now c.args.slots.now
    (report_phase c.args.store.now c.args.arguments.now c.args.rules.now c.args.slots.now (sym c.is_report_sized.ensures ∙ c.if-not-is_report_sized.false) c.in-Stopped.is) refl
