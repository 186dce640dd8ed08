-- `guards::member` meets its contract.
use Rattle.limits.proofs.Answering.{exits}
use Rattle.limits.proofs.Monad.{then_stop, then_on, through_stop, through_on, pure_is}
use Rattle.slots.specs.Slots.{refine_into}
use Rattle.guards.specs.Guards.{member}
use Rattle.guards.proofs.member.Goals as goal

pub returns-in_err-refine_into : goal.returns-in_err-refine_into
unfolding member
returns-in_err-refine_into c r =
    exits _ c.from_residual.ensures.1
    (rw (← rw c.bound_at-own.ensures at c.if-is_spanning.ensures)
    (then_stop _ _ _ (through_stop _ _ _ _ (refine_into _ _ _) _ (rw c.span-span.ensures at c.in_err-refine_into.ensures))))

pub returns-in_ok-refine_into : goal.returns-in_ok-refine_into
unfolding member
returns-in_ok-refine_into c r =
    rw (← rw c.bound_at-own.ensures at c.if-is_spanning.ensures)
    (then_on _ _ _ (through_on _ _ _ _ (refine_into _ _ _) _ (rw c.span-span.ensures at c.in_ok-refine_into.ensures)) (pure_is _ _))

pub returns-else-is_spanning : goal.returns-else-is_spanning
unfolding member
returns-else-is_spanning c r = rw (← rw c.bound_at-own.ensures at c.if-is_spanning.ensures) (pure_is _ _)
