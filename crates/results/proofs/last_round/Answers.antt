-- `results::last_round` meets its contract.
use Rattle.limits.proofs.Answering.{exits}
use Rattle.limits.proofs.Monad.{bind_stop, bind_on, through_stop, through_on}
use Rattle.rounds.proofs.CodeLaws.{made_stopped, made_on}
use Rattle.results.specs.Result.{last_round}
use Rattle.results.proofs.last_round.Goals as goal

pub returns-in_err-image : goal.returns-in_err-image
unfolding last_round
returns-in_err-image c = exits c.from_residual.result c.from_residual.ensures.1 (bind_stop _ _ _ (through_stop _ _ _ _ _ _ (made_stopped _ c.image.ensures.made c.in_err-image.was)))

pub returns : goal.returns
unfolding last_round
returns c = bind_on _ _ _ (through_on _ _ _ _ _ _ (made_on _ c.image.ensures.made c.in_ok-image.was)) (rw (c.without_rows.ensures, c.move_rows.ensures))
