-- `lattice::Meeting::reduce` meets its contract.
use mathlib.Core.Path.{◌∙◌, ap}
use native.Mathlib.Omega.{arith}
use Rattle.interval.specs.Bound.{constant_bound, hull_bound}
use Rattle.limits.specs.Meter.{work}
use Rattle.limits.proofs.Answering.{went, broke, exits, held_is}
use Rattle.lattice.proofs.Sifting.{hull_begun, hull_done, hull_stopped, hull_more}
use Rattle.lattice.proofs.Meeting.reduce.Goals as goal

pub loop-id-init : goal.loop-id-init
loop-id-init c = hull_begun _ _ _

pub returns-in_err-holding : goal.returns-in_err-holding
returns-in_err-holding c = exits c.from_residual.result c.from_residual.ensures.1 (hull_stopped _ _ _ _ _ _ _ c.loop-id.invariant (omega arith) (broke (c.holding.ensures ∙ held_is _ (work 1) _ _ _ c.work-step.ensures) c.in_err-holding.was))

pub loop-id-preserved : goal.loop-id-preserved
loop-id-preserved c = hull_more _ _ c.args.self.now.bound _ _ _ _ c.loop-id.invariant (omega arith) (went (c.holding.ensures ∙ held_is _ (work 1) _ _ _ c.work-step.ensures) c.in_ok-holding.was) (c.hull-held.ensures ∙ ap (hull_bound c.loop-id.held) (c.constant.ensures ∙ ap constant_bound c.constant_at.ensures))

pub returns : goal.returns
returns c = hull_done _ _ _ _ _ _ _ c.loop-id.invariant (omega arith) c.meet.ensures
