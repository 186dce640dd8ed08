-- `passes::renew` meets its contract.
use Rattle.limits.proofs.Answering.{exits}
use Rattle.passes.proofs.PassLaws.{renew_stopped, renew_on}
use Rattle.passes.proofs.renew.Goals as goal

pub returns-in_err-changed : goal.returns-in_err-changed
returns-in_err-changed c =
    let a = c.args in
    exits c.from_residual.result c.from_residual.ensures.1
    (renew_stopped a.positions a.thresholds.now a.candidates.now a.current.now a.growth.now a.course.now.budget a.course.now.context _ _ _ a.next.now c.requires c.advance-advanced.ensures c.without_rows.ensures c.in_err-changed.was)

pub returns : goal.returns
returns c =
    let a = c.args in
    renew_on a.positions a.thresholds.now a.candidates.now a.current.now a.growth.now a.course.now.budget a.course.now.context _ _ _ a.next.now c.requires c.advance-advanced.ensures c.without_rows.ensures c.in_ok-changed.was
    c.without_rows-2.ensures c.move_rows.ensures
