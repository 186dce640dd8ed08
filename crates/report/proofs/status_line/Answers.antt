-- `report::status_line` meets its contract.
use mathlib.Core.Path.{ap, ◌∙◌}
use Rattle.std.proofs.Common.{Ok}
use Rattle.report.specs.Line.{status_line}
use Rattle.report.proofs.LineLaws.{lined_shape, lined_refused, lined_given, status_lined, not_written}
use Rattle.report.proofs.status_line.Goals as goal

pub returns-then-line-ne-LINE : goal.returns-then-line-ne-LINE
returns-then-line-ne-LINE c = lined_shape c.args.line.now (status_line c.args.store.now) c.if-line-ne-LINE.true

pub returns-in_err-status : goal.returns-in_err-status
returns-in_err-status c = not_written _ _ c.from_residual.ensures.1 (lined_refused c.args.line.now _ c.in_err-status.field-0.0 c.if-line-ne-LINE.false (status_lined c.args.store.now c.status.ensures c.in_err-status.was))

pub returns-in-Completed : goal.returns-in-Completed
returns-in-Completed c = lined_given c.args.line.now _ c.if-line-ne-LINE.false (status_lined c.args.store.now c.status.ensures (c.in_ok-status.was ∙ ap Ok c.in-Completed.is)) c.put_done.ensures

pub returns-in-Stopped : goal.returns-in-Stopped
returns-in-Stopped c = lined_given c.args.line.now _ c.if-line-ne-LINE.false (status_lined c.args.store.now c.status.ensures (c.in_ok-status.was ∙ ap Ok c.in-Stopped.is)) c.put_refused.ensures
