-- `guards::refine_operand` meets its contract.
use Rattle.limits.proofs.Answering.{exits}
use Rattle.limits.proofs.Monad.{bind_stop, bind_on, through_stop, through_on, yes_on, no_on, pure_is}
use Rattle.evaluation.specs.Evaluation.{known_identity}
use Rattle.guards.specs.Guards.{refine_operand}
use Rattle.guards.proofs.refine_operand.Goals as goal

pub returns-in_err-known_identity : goal.returns-in_err-known_identity
unfolding refine_operand
returns-in_err-known_identity c =
    exits _ c.from_residual.ensures.1 (bind_stop _ _ _ (through_stop _ _ _ _ (known_identity _ _) _ c.in_err-known_identity.ensures))

pub returns-then-not-branch : goal.returns-then-not-branch
unfolding refine_operand
returns-then-not-branch c =
    bind_on _ _ _ (through_on _ _ _ _ (known_identity _ _) _ c.in_ok-known_identity.ensures)
    (no_on _ _ _ c.if-not-branch.true (pure_is _ _))

pub returns : goal.returns
unfolding refine_operand
returns c =
    bind_on _ _ _ (through_on _ _ _ _ (known_identity _ _) _ c.in_ok-known_identity.ensures)
    (yes_on _ _ _ c.if-not-branch.false c.narrow_known.ensures)
