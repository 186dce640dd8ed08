-- `report::line_from` meets its contract.
use mathlib.Core.Path.{ap, sym, ◌∙◌}
use Rattle.limits.specs.declared.Refusal.TheVariants.{Closed, Shape}
use Rattle.report.specs.Report.{nth_line}
use Rattle.report.proofs.LineLaws.{lined_shape, lined_refused}
use Rattle.report.proofs.ReportLaws.{report_shape, report_phase, not_ended}
use Rattle.report.proofs.line_from.Goals.{then-line-ne-LINE-via-then-line-ne-LINE, then-line-ne-LINE-via-else-line-ne-LINE+then-not-is_report_sized}
use Rattle.report.proofs.line_from.Goals as goal

pub returns-then-line-ne-LINE-clause-line : goal.returns-then-line-ne-LINE-clause-line
returns-then-line-ne-LINE-clause-line c = elim c.then-line-ne-LINE.branch [
  | then-line-ne-LINE-via-then-line-ne-LINE w ↦ lined_shape c.args.line.now _ w.if-line-ne-LINE.true
  | then-line-ne-LINE-via-else-line-ne-LINE+then-not-is_report_sized w ↦
      lined_refused c.args.line.now _ Shape w.if-line-ne-LINE.false
      (ap (λ r. nth_line r c.args.k) (report_shape c.args.store.now c.args.arguments.now c.args.rules.now c.args.slots.now (sym w.is_report_sized.ensures ∙ w.if-not-is_report_sized.true)))
]

pub returns-in-Absent-clause-line : goal.returns-in-Absent-clause-line
returns-in-Absent-clause-line c =
    lined_refused c.args.line.now _ Closed c.if-line-ne-LINE.false
    (ap (λ r. nth_line r c.args.k) (not_ended c.args.store.now c.args.arguments.now c.args.rules.now c.args.slots.now (sym c.is_report_sized.ensures ∙ c.if-not-is_report_sized.false) c.in-Absent.is))

pub returns-in-Completed-clause-line : goal.returns-in-Completed-clause-line
returns-in-Completed-clause-line c =
    rw (report_phase c.args.store.now c.args.arguments.now c.args.rules.now c.args.slots.now (sym c.is_report_sized.ensures ∙ c.if-not-is_report_sized.false) c.in-Completed.is) c.completed_line.ensures.line

pub returns-in-Stopped-clause-line : goal.returns-in-Stopped-clause-line
returns-in-Stopped-clause-line c =
    rw (report_phase c.args.store.now c.args.arguments.now c.args.rules.now c.args.slots.now (sym c.is_report_sized.ensures ∙ c.if-not-is_report_sized.false) c.in-Stopped.is) c.stopped_line.ensures
