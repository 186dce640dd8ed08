-- `producers::Checker::check_value` meets its contract.
use Rattle.limits.proofs.Answering.{went, broke, limits}
use Rattle.limits.proofs.Monad.{then_on, then_stop}
use Rattle.producers.specs.Producer.{check_value}
use Rattle.producers.proofs.CodeLaws.{step_on, step_off}
use Rattle.producers.proofs.Checker.check_value.Goals as goal

pub returns-in_err-work : goal.returns-in_err-work
unfolding check_value
returns-in_err-work c = limits _ _ c.from_residual.ensures.1 (then_stop _ _ _ (step_off _ (broke c.work.ensures c.in_err-work.was)))

pub returns : goal.returns
unfolding check_value
returns c = then_on _ _ _ (step_on _ (went c.work.ensures c.in_ok-work.was)) c.check_expression.ensures
