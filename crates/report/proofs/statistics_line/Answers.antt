-- `report::statistics_line` meets its contract.
use Rattle.report.specs.Line.{statistics_line}
use Rattle.report.proofs.LineLaws.{lined_shape, lined_given, statistics_lined}
use Rattle.report.proofs.statistics_line.Goals as goal

pub returns-then-line-ne-LINE : goal.returns-then-line-ne-LINE
returns-then-line-ne-LINE c = lined_shape c.args.line.now (statistics_line c.args.store.now) c.if-line-ne-LINE.true

pub returns : goal.returns
returns c = lined_given c.args.line.now _ c.if-line-ne-LINE.false (statistics_lined c.args.store.now) c.put_statistics.ensures
