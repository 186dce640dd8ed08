-- `report::refusal_line` meets its contract.
use Rattle.report.specs.Line.{refusal_line}
use Rattle.report.proofs.LineLaws.{lined_shape, lined_given, refusal_lined}
use Rattle.report.proofs.refusal_line.Goals as goal

pub returns-then-line-ne-LINE : goal.returns-then-line-ne-LINE
returns-then-line-ne-LINE c = lined_shape c.args.line.now (refusal_line c.args.refusal) c.if-line-ne-LINE.true

pub returns : goal.returns
returns c = lined_given c.args.line.now _ c.if-line-ne-LINE.false (refusal_lined c.args.refusal) c.put_refused.ensures
