-- `report::argument_line` meets its contract.
use Rattle.report.specs.Line.{argument_line}
use Rattle.report.proofs.LineLaws.{lined_shape, lined_refused, lined_given, argument_lined, not_written}
use Rattle.report.proofs.argument_line.Goals as goal

pub returns-then-line-ne-LINE : goal.returns-then-line-ne-LINE
returns-then-line-ne-LINE c = lined_shape c.args.line.now (argument_line c.args.store.now c.args.arguments.now c.args.argument) c.if-line-ne-LINE.true

pub returns-in_err-value : goal.returns-in_err-value
returns-in_err-value c =
    not_written _ _ c.from_residual.ensures.1
    (lined_refused c.args.line.now _ c.in_err-value.field-0.0 c.if-line-ne-LINE.false (argument_lined c.args.store.now c.args.arguments.now c.args.argument c.argument.ensures c.in_err-value.was))

pub returns : goal.returns
returns c = lined_given c.args.line.now _ c.if-line-ne-LINE.false (argument_lined c.args.store.now c.args.arguments.now c.args.argument c.argument.ensures c.in_ok-value.was) c.put_argument.ensures
