-- `report::place_from` meets its contract.
use native.Mathlib.Omega.{arith}
use Rattle.report.proofs.ReportLaws.{none_before, more_before}
use Rattle.report.proofs.place_from.Goals as goal

pub loop-rule-init : goal.loop-rule-init
loop-rule-init c = omega (arith, none_before c.args.rules.now)

pub loop-rule-preserved : goal.loop-rule-preserved
loop-rule-preserved c = omega (arith, c.loop-rule.invariant, more_before c.args.rules.now c.loop-rule.rule, c.lines_of-lines.ensures.lines)
