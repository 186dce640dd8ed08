-- `lists::retain_all` meets its contract.
use native.Mathlib.Omega.{arith}
use Rattle.limits.proofs.Answering.{went, broke, exits}
use Rattle.lists.proofs.CodeLaws.{retaining, retained_all, retained_stopped, retained_more}
use Rattle.lists.proofs.retain_all.Goals as goal

pub loop-held-init : goal.loop-held-init
loop-held-init c = retaining _ _

pub returns-in_err-retain_one : goal.returns-in_err-retain_one
returns-in_err-retain_one c = exits c.from_residual.result c.from_residual.ensures.1 (retained_stopped _ _ _ c.loop-held.invariant (omega arith) (broke c.retain_one.ensures c.in_err-retain_one.was))

pub loop-held-preserved : goal.loop-held-preserved
loop-held-preserved c = retained_more _ _ _ c.loop-held.invariant (omega arith) (went c.retain_one.ensures c.in_ok-retain_one.was)

pub returns : goal.returns
returns c = retained_all _ _ _ c.loop-held.invariant (omega arith)
