-- `rounds::each_rule` meets its contract.
use native.Mathlib.Omega.{arith}
use Rattle.limits.proofs.Answering.{exits}
use Rattle.rounds.proofs.CodeLaws.{ruling, ruled, rule_stopped, rule_done}
use Rattle.rounds.proofs.each_rule.Goals as goal

pub loop-id-init : goal.loop-id-init
loop-id-init g c = ruling _ _ _ _

pub returns-in_err-done : goal.returns-in_err-done
returns-in_err-done g c =
    exits c.from_residual.result c.from_residual.ensures.1
    (rule_stopped _ _ _ _ c.loop-id.invariant c.loop-id-test.true c.context_at-course.ensures _ _ _ c.meter-meter.ensures c.with_locals-done.ensures c.settle.ensures c.in_err-done.was)

pub loop-id-preserved : goal.loop-id-preserved
loop-id-preserved g c =
    rule_done _ _ _ _ c.loop-id.invariant c.loop-id-test.true c.context_at-course.ensures _ _ _ c.meter-meter.ensures c.with_locals-done.ensures c.settle.ensures c.in_ok-done.was

pub returns : goal.returns
returns g c = ruled _ _ _ _ c.loop-id.invariant (omega arith)
