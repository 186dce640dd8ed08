-- `report::report_line` meets its contract.
use native.Mathlib.Omega.{arith}
use Rattle.report.proofs.ReportLaws.{none_before}
use Rattle.report.proofs.report_line.Goals as goal

pub line_from-requires : goal.line_from-requires
line_from-requires c = (omega arith, none_before c.args.rules.now, omega arith)
