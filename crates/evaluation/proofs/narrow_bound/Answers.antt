-- `evaluation::narrow_bound` meets its contract.
use Rattle.limits.proofs.Answering.{went, broke, exits}
use Rattle.evaluation.proofs.Operands.{bound_mixed, bound_refused, bound_met}
use Rattle.evaluation.proofs.narrow_bound.Goals as goal

pub returns-in-Mixed : goal.returns-in-Mixed
returns-in-Mixed c = bound_mixed _ _ _ c.in-Mixed.is

pub returns-in_err-work : goal.returns-in_err-work
returns-in_err-work c constants reason =
    exits _ c.from_residual.ensures.1 (bound_refused _ _ _ c.in_default.not-Mixed (broke c.work.ensures c.in_err-work.was) constants reason)

pub returns : goal.returns
returns c = bound_met _ _ _ c.in_default.not-Mixed (went c.work.ensures c.in_ok-work.was) c.numeric.ensures c.meet.ensures
