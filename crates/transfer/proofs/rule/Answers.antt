-- `transfer::rule` meets its contract.
use mathlib.Core.Path.{sym}
use Rattle.limits.proofs.Answering.{exits, answered_through, answered_lost, answered_kept}
use Rattle.limits.proofs.Monad.{then_stop, then_on, through_stop, through_on}
use Rattle.bindings.specs.Bindings.{bind}
use Rattle.guards.specs.Guards.{guard}
use Rattle.transfer.specs.Transfer.{rule, guarding}
use Rattle.transfer.proofs.rule.Goals as goal

pub returns-in_err-bind : goal.returns-in_err-bind
unfolding rule
returns-in_err-bind c = exits _ c.from_residual.ensures.1 (then_stop _ _ _ (through_stop _ _ _ _ (bind _ _ _ _) _ c.in_err-bind.ensures))

pub returns-then-is_err : goal.returns-then-is_err
unfolding rule guarding
returns-then-is_err c =
    rw (c.drop_rows.ensures, c.slots_at.ensures)
    (then_on _ _ _ (through_on _ _ _ _ (bind _ _ _ _) _ c.in_ok-bind.ensures)
    (answered_lost _ (guarding _ _ _) _ _ _ (answered_through _ _ (guard _ _ _ _) _ _ _ c.guard-guarded.ensures) (sym c.if-is_err.ensures.value)))

pub returns-else-is_err : goal.returns-else-is_err
unfolding rule guarding
returns-else-is_err c =
    then_on _ _ _ (through_on _ _ _ _ (bind _ _ _ _) _ c.in_ok-bind.ensures)
    (answered_kept _ (guarding _ _ _) _ _ _ (answered_through _ _ (guard _ _ _ _) _ _ _ c.guard-guarded.ensures) (sym c.if-is_err.ensures.value))
