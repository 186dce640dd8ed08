-- `guards::narrow_known` meets its contract.
use Rattle.limits.proofs.Answering.{exits}
use Rattle.limits.proofs.Monad.{bind_stop, bind_on, then_stop, then_on, through_stop, through_on, pure_is}
use Rattle.refinements.specs.Refinement.{note}
use Rattle.guards.specs.Guards.{narrow_slot, narrow_known}
use Rattle.guards.proofs.narrow_known.Goals as goal

pub returns-in_err-recorded : goal.returns-in_err-recorded
unfolding narrow_known
returns-in_err-recorded c =
    exits _ c.from_residual.ensures.1 (bind_stop _ _ _ (through_stop _ _ _ _ (note _ _ _) _ c.in_err-recorded.ensures))

pub returns-in_err-narrow_slot : goal.returns-in_err-narrow_slot
unfolding narrow_known
returns-in_err-narrow_slot c =
    exits _ c.from_residual-in_err-narrow_slot.ensures.1
    (bind_on _ _ _ (through_on _ _ _ _ (note _ _ _) _ c.in_ok-recorded.ensures)
    (then_stop _ _ _ (through_stop _ _ _ _ (narrow_slot _ _ _) _ (rw c.affine_of-affine.ensures at c.in_err-narrow_slot.ensures))))

pub returns : goal.returns
unfolding narrow_known
returns c =
    bind_on _ _ _ (through_on _ _ _ _ (note _ _ _) _ c.in_ok-recorded.ensures)
    (then_on _ _ _ (through_on _ _ _ _ (narrow_slot _ _ _) _ (rw c.affine_of-affine.ensures at c.in_ok-narrow_slot.ensures)) (pure_is _ _))
