-- `passes::pass` meets its contract.
use Rattle.limits.proofs.Answering.{exits}
use Rattle.rounds.specs.Lent.{given_in}
use Rattle.passes.proofs.PassLaws.{pass_stopped, pass_on}
use Rattle.passes.proofs.pass.Goals as goal

pub returns-in_err-image : goal.returns-in_err-image
returns-in_err-image c =
    let a = c.args in
    exits c.from_residual.result c.from_residual.ensures.1
    (pass_stopped (given_in a.given.now) a.thresholds.now a.course.now.budget a.course.now.context a.current.now a.growth.now _ _ _ c.image.ensures.made c.in_err-image.was)

pub returns : goal.returns
returns c =
    let a = c.args in
    pass_on (given_in a.given.now) a.thresholds.now a.course.now.budget a.course.now.context a.current.now a.growth.now _ _ _ c.image.ensures.made c.in_ok-image.was c.renew.ensures
