-- `slots::fill_tops` meets its contract.
use native.Mathlib.Omega.{arith}
use mathlib.Core.Path.{refl, ◌∙◌}
use Rattle.limits.proofs.Answering.{exits}
use Rattle.slots.proofs.CodeLaws.{filling, filled, fill_stopped, fill_more}
use Rattle.slots.proofs.fill_tops.Goals as goal

pub loop-k-init : goal.loop-k-init
loop-k-init c = (refl, filling _ _ _)

pub returns-in_err-work : goal.returns-in_err-work
returns-in_err-work c = exits c.from_residual.result c.from_residual.ensures.1 (fill_stopped _ _ _ c.loop-k.invariant.1 c.loop-k-test.true c.in_err-work.ensures)

pub loop-k-preserved : goal.loop-k-preserved
loop-k-preserved c = (c.put_abstract.auto.cells ∙ c.loop-k.invariant.0, fill_more _ _ _ c.loop-k.invariant.1 c.loop-k-test.true c.in_ok-work.ensures c.top.ensures c.put_abstract.ensures)

pub returns : goal.returns
returns c = filled _ _ _ c.loop-k.invariant.1 (omega arith)
