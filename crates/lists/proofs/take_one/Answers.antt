-- `lists::take_one` meets its contract.
use native.Mathlib.Omega.{arith}
use mathlib.Core.Path.{◌∙◌}
use Rattle.limits.specs.Meter.{work}
use Rattle.limits.proofs.Answering.{went, broke, exits, held_is}
use Rattle.lists.proofs.CodeLaws.{take_stopped, take_wide, push_stopped, pushed}
use Rattle.lists.proofs.take_one.Goals as goal

pub returns-in_err-holding : goal.returns-in_err-holding
returns-in_err-holding c = exits c.from_residual.result c.from_residual.ensures.1 (take_stopped _ _ _ (broke (c.holding.ensures ∙ held_is _ (work 1) _ _ _ c.work-step.ensures) c.in_err-holding.was))

pub returns-then-min-held : goal.returns-then-min-held
returns-then-min-held c = take_wide _ _ _ (went (c.holding.ensures ∙ held_is _ (work 1) _ _ _ c.work-step.ensures) c.in_ok-holding.was) (omega arith) c.release.ensures

pub returns-in_err-retain_one : goal.returns-in_err-retain_one
returns-in_err-retain_one c = exits c.from_residual-in_err-retain_one.result c.from_residual-in_err-retain_one.ensures.1 (push_stopped _ _ _ (went (c.holding.ensures ∙ held_is _ (work 1) _ _ _ c.work-step.ensures) c.in_ok-holding.was) (omega arith) (broke c.retain_one.ensures c.in_err-retain_one.was))

pub returns : goal.returns
returns c = pushed _ _ _ (went (c.holding.ensures ∙ held_is _ (work 1) _ _ _ c.work-step.ensures) c.in_ok-holding.was) (omega arith) (went c.retain_one.ensures c.in_ok-retain_one.was)
