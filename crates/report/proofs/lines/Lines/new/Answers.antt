-- `report::lines::Lines::new` meets its contract.
use native.Mathlib.Omega.{arith}
use Rattle.report.proofs.ReportLaws.{none_before}
use Rattle.report.proofs.lines.Lines.new.Goals as goal

pub invariant_of-result : goal.invariant_of-result
invariant_of-result c = record { begins = (omega arith, none_before c.args.rules.now, omega arith) }
