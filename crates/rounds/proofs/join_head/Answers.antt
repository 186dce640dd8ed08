-- `rounds::join_head` meets its contract.
use Rattle.limits.proofs.Answering.{exits}
use Rattle.limits.proofs.Monad.{bind_stop, bind_on, through_stop, through_on}
use Rattle.slots.proofs.CodeLaws.{step_stop, step_goes}
use Rattle.rounds.specs.Round.{join_head}
use Rattle.rounds.proofs.join_head.Goals as goal

pub returns-in_err-work : goal.returns-in_err-work
returns-in_err-work c = exits c.from_residual.result c.from_residual.ensures.1 (step_stop _ _ _ c.in_err-work.ensures)

pub returns-in_err-value : goal.returns-in_err-value
unfolding join_head
returns-in_err-value c =
    exits c.from_residual-in_err-value.result c.from_residual-in_err-value.ensures.1 (step_goes _ _ _ c.in_ok-work.ensures (bind_stop _ _ _ (through_stop _ _ _ _ _ _ c.in_err-value.ensures)))

pub returns : goal.returns
unfolding join_head
returns c = step_goes _ _ _ c.in_ok-work.ensures (bind_on _ _ _ (through_on _ _ _ _ _ _ c.in_ok-value.ensures) c.join_owned.ensures)
