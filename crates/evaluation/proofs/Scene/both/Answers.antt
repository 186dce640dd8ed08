-- `evaluation::Scene::both` meets its contract.
use Rattle.limits.proofs.Answering.{went, broke, exits}
use Rattle.evaluation.proofs.CodeLaws.{held_sees, first_stops, second_stops, both_go}
use Rattle.evaluation.proofs.Scene.both.Goals as goal

pub returns-in_err-a : goal.returns-in_err-a
returns-in_err-a c =
    exits _ c.from_residual.ensures.1 (first_stops _ _ _ _ _ _ (broke c.as_operand.ensures c.in_err-a.was))

pub returns-in_err-b : goal.returns-in_err-b
returns-in_err-b c =
    exits _ c.from_residual-in_err-b.ensures.1
    (second_stops _ _ _ _ _ _ (went c.as_operand.ensures c.in_ok-a.was) (broke (held_sees c.in_ok-a.a.entries _ _ c.as_operand-b.result _ _ _ c.as_operand-b.ensures c.holding.ensures) c.in_err-b.was))

pub returns : goal.returns
returns c =
    both_go _ _ _ _ _ _ (went c.as_operand.ensures c.in_ok-a.was) (went (held_sees c.in_ok-a.a.entries _ _ c.as_operand-b.result _ _ _ c.as_operand-b.ensures c.holding.ensures) c.in_ok-b.was)
