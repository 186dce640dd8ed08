-- `rounds::image` meets its contract.
use Rattle.limits.proofs.Answering.{exits}
use Rattle.limits.proofs.Monad.{then_stop, then_on, through_stop, through_on}
use Rattle.rounds.specs.Lent.{given_in}
use Rattle.rounds.specs.Round.{image}
use Rattle.rounds.proofs.Anew.{candidates_anew}
use Rattle.rounds.proofs.image.Goals as goal

pub returns-in_err-pay-clause-left : goal.returns-in_err-pay-clause-left
unfolding image
returns-in_err-pay-clause-left c = exits c.from_residual.result c.from_residual.ensures.1 (then_stop _ _ _ (through_stop _ _ _ _ _ _ c.in_err-pay.ensures))

pub returns-in_err-pay-clause-made : goal.returns-in_err-pay-clause-made
returns-in_err-pay-clause-made c =
    let a = c.args in
    candidates_anew (given_in a.given.now) a.previous.now a.course.now.budget a.course.now.context a.res.now c.requires.0 (returns-in_err-pay-clause-left c)

pub returns-clause-left : goal.returns-clause-left
unfolding image
returns-clause-left c = then_on _ _ _ (through_on _ _ _ _ _ _ c.in_ok-pay.ensures) c.produce.ensures

pub returns-clause-made : goal.returns-clause-made
returns-clause-made c =
    let a = c.args in
    candidates_anew (given_in a.given.now) a.previous.now a.course.now.budget a.course.now.context a.res.now c.requires.0 (returns-clause-left c)
