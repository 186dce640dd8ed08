-- `evaluation::Scene::after_two` meets its contract.
use Rattle.limits.proofs.Answering.{went, broke, exits}
use Rattle.evaluation.proofs.CodeLaws.{two_stopped, two_made}
use Rattle.evaluation.proofs.Scene.after_two.Goals as goal

pub returns-in_err-interval : goal.returns-in_err-interval
returns-in_err-interval c =
    exits _ c.from_residual.ensures.1
    (two_stopped _ _ _ _ _ _ c.args.a c.args.b _
    c.release.ensures c.release-2.ensures (broke c.combine-interval.ensures c.in_err-interval.was))

pub returns : goal.returns
returns c =
    two_made _ _ _ _ _ _ c.args.a c.args.b _
    c.release.ensures c.release-2.ensures (went c.combine-interval.ensures c.in_ok-interval.was) (c.restrict_interval.ensures c.args.self.now.input.constants.now)
