-- `lattice::Meeting::keep_one` meets its contract.
use mathlib.Core.Path.{◌∙◌}
use Rattle.limits.specs.Meter.{work}
use Rattle.limits.proofs.Answering.{went, broke, exits, held_is}
use Rattle.lattice.specs.Value.{value_of}
use Rattle.lattice.specs.Lattice.{permitted}
use Rattle.lattice.specs.Constants.{constant_at}
use Rattle.lattice.proofs.CodeLaws.{keep_stopped, asked_stopped, keep_left, keep_full, keep_taken, stays, outside, unasked}
use Rattle.lattice.proofs.Meeting.keep_one.Goals.{else-both-via-then-both+else-allows, else-both-via-else-both}
use Rattle.lattice.proofs.Meeting.keep_one.Goals as goal

pub returns-in_err-holding : goal.returns-in_err-holding
returns-in_err-holding c = exits c.from_residual.result c.from_residual.ensures.1 (keep_stopped _ _ _ _ _ _ _ (broke (c.holding.ensures ∙ held_is _ (work 1) _ _ _ c.work-step.ensures) c.in_err-holding.was))

pub returns-in_err-both : goal.returns-in_err-both
returns-in_err-both c =
    exits c.from_residual-in_err-both.result c.from_residual-in_err-both.ensures.1
    (asked_stopped _ _ _ _ _ _ _ (went (c.holding.ensures ∙ held_is _ (work 1) _ _ _ c.work-step.ensures) c.in_ok-holding.was)
    (broke (c.holding-2.ensures ∙ held_is _ (permitted (value_of c.args.self.now.left.now) (value_of c.args.self.now.right.now) c.args.id) _ _ _ c.permitted-both.ensures) c.in_err-both.was))

pub returns-in_err-retain_one : goal.returns-in_err-retain_one
returns-in_err-retain_one c =
    exits c.from_residual-in_err-retain_one.result c.from_residual-in_err-retain_one.ensures.1
    (keep_full _ _ _ _ _ _ _ (went (c.holding.ensures ∙ held_is _ (work 1) _ _ _ c.work-step.ensures) c.in_ok-holding.was)
    (went (c.holding-2.ensures ∙ held_is _ (permitted (value_of c.args.self.now.left.now) (value_of c.args.self.now.right.now) c.args.id) _ _ _ c.permitted-both.ensures) c.in_ok-both.was)
    (stays _ _ c.constant_at.ensures c.if-both.true c.if-allows.ensures)
    (broke c.retain_one.ensures c.in_err-retain_one.was))

pub returns-then-allows : goal.returns-then-allows
returns-then-allows c =
    keep_taken _ _ _ _ _ _ _ (went (c.holding.ensures ∙ held_is _ (work 1) _ _ _ c.work-step.ensures) c.in_ok-holding.was)
    (went (c.holding-2.ensures ∙ held_is _ (permitted (value_of c.args.self.now.left.now) (value_of c.args.self.now.right.now) c.args.id) _ _ _ c.permitted-both.ensures) c.in_ok-both.was)
    (stays _ _ c.constant_at.ensures c.if-both.true c.if-allows.ensures)
    (went c.retain_one.ensures c.in_ok-retain_one.was)

pub returns : goal.returns
returns c =
    keep_left _ _ c.args.self.now.bound c.args.self.now.constants.now _ c.args.id _ (went (c.holding.ensures ∙ held_is _ (work 1) _ _ _ c.work-step.ensures) c.in_ok-holding.was)
    (went (c.holding-2.ensures ∙ held_is _ (permitted (value_of c.args.self.now.left.now) (value_of c.args.self.now.right.now) c.args.id) _ _ _ c.permitted-both.ensures) c.in_ok-both.was)
    (elim c.else-both.branch [ else-both-via-then-both+else-allows w ↦ outside _ _ w.constant_at.ensures w.if-both.true w.if-allows.ensures | else-both-via-else-both w ↦ unasked c.args.self.now.bound (constant_at c.args.self.now.constants.now c.args.id) w.if-both.false ])
