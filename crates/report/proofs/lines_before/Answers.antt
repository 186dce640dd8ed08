-- `report::lines_before` meets its contract.
use native.Mathlib.Omega.{arith}
use mathlib.Core.Path.{sym}
use Rattle.report.proofs.ReportLaws.{none_before, more_before}
use Rattle.report.proofs.lines_before.Goals as goal

pub loop-rule-init : goal.loop-rule-init
loop-rule-init c = (sym (none_before c.args.rules.now), omega arith)

pub loop-rule-preserved : goal.loop-rule-preserved
loop-rule-preserved c =
    let e = more_before c.args.rules.now c.loop-rule.rule in
    (omega (arith, e, c.loop-rule.invariant.0, c.lines_of-lines.ensures.lines), omega (arith, c.loop-rule.invariant.1, c.lines_of-lines.ensures.few))
