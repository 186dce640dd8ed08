-- `passes::advance_one` meets its contract.
use Rattle.limits.proofs.Answering.{exits}
use Rattle.passes.proofs.StepLaws.{lost_counted, kept_counted, step_stopped, step_done}
use Rattle.passes.proofs.advance_one.Goals as goal

pub returns-in_err-grown : goal.returns-in_err-grown
returns-in_err-grown c =
    let a = c.args in
    exits c.from_residual.result c.from_residual.ensures.1
    (step_stopped a.thresholds.now a.current.now a.candidates.now a.argument a.budget.now a.next.now a.growth.now c.abstract_at-old.ensures c.abstract_at-candidate.ensures c.growth_at-before.ensures c.meter-meter.ensures _
    c.grow-grown.ensures c.settle.ensures c.in_err-grown.was)

pub returns-then-is_lost : goal.returns-then-is_lost
returns-then-is_lost c =
    let a = c.args in
    step_done a.thresholds.now a.current.now a.candidates.now a.argument a.budget.now a.next.now a.growth.now c.abstract_at-old.ensures c.abstract_at-candidate.ensures c.growth_at-before.ensures c.meter-meter.ensures _
    c.grow-grown.ensures c.settle.ensures c.in_ok-grown.was c.put_abstract.ensures c.put_growth.ensures (lost_counted _ c.is_lost.ensures c.if-is_lost.true c.count_widened.ensures)

pub returns-else-is_lost : goal.returns-else-is_lost
returns-else-is_lost c =
    let a = c.args in
    step_done a.thresholds.now a.current.now a.candidates.now a.argument a.budget.now a.next.now a.growth.now c.abstract_at-old.ensures c.abstract_at-candidate.ensures c.growth_at-before.ensures c.meter-meter.ensures _
    c.grow-grown.ensures c.settle.ensures c.in_ok-grown.was c.put_abstract.ensures c.put_growth.ensures (kept_counted _ c.is_lost.ensures c.if-is_lost.false)
