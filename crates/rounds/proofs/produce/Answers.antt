-- `rounds::produce` meets its contract.
use mathlib.Core.Path.{sym}
use Rattle.limits.proofs.Answering.{exits, went, broke, answered_lost, answered_kept}
use Rattle.limits.proofs.Monad.{then_stop, then_on}
use Rattle.rounds.specs.Round.{apply, produce}
use Rattle.rounds.proofs.CodeLaws.{answered_table}
use Rattle.rounds.proofs.produce.Goals as goal

pub returns-in_err-copy_in : goal.returns-in_err-copy_in
unfolding produce
returns-in_err-copy_in c = exits c.from_residual.result c.from_residual.ensures.1 (then_stop _ _ _ (broke (answered_table _ _ _ _ _ c.copy_in.ensures) c.in_err-copy_in.was))

pub returns-then-is_err : goal.returns-then-is_err
unfolding produce apply
returns-then-is_err c =
    rw c.without_rows.ensures (then_on _ _ _ (went (answered_table _ _ _ _ _ c.copy_in.ensures) c.in_ok-copy_in.was) (answered_lost _ _ _ _ _ c.each_rule-joined.ensures (sym c.if-is_err.ensures.value)))

pub returns-else-is_err : goal.returns-else-is_err
unfolding produce apply
returns-else-is_err c = then_on _ _ _ (went (answered_table _ _ _ _ _ c.copy_in.ensures) c.in_ok-copy_in.was) (answered_kept _ _ _ _ _ c.each_rule-joined.ensures (sym c.if-is_err.ensures.value))
