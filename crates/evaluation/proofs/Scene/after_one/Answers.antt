-- `evaluation::Scene::after_one` meets its contract.
use Rattle.limits.proofs.Answering.{went, broke, exits}
use Rattle.evaluation.proofs.CodeLaws.{one_unpaid, one_paid}
use Rattle.evaluation.proofs.Scene.after_one.Goals as goal

pub returns-in_err-paid : goal.returns-in_err-paid
returns-in_err-paid c =
    exits _ c.from_residual.ensures.1
    (one_unpaid _ _ _ _ (broke c.work-paid.ensures c.in_err-paid.was) c.release.ensures)

pub returns : goal.returns
returns c =
    one_paid _ _ _ _ (went c.work-paid.ensures c.in_ok-paid.was) c.release.ensures
    (c.restrict_interval.ensures c.args.self.now.input.constants.now)
