-- `results::keep_bounds` meets its contract.
use native.Mathlib.Omega.{arith}
use Rattle.limits.proofs.Answering.{exits}
use Rattle.results.proofs.CodeLaws.{keep_begun, kept, keep_stopped, keep_more}
use Rattle.results.proofs.keep_bounds.Goals as goal

pub loop-slot-init : goal.loop-slot-init
loop-slot-init c = keep_begun _ _ _ _ _

pub returns-in_err-work : goal.returns-in_err-work
returns-in_err-work c = exits c.from_residual.result c.from_residual.ensures.1 (keep_stopped _ _ _ _ _ c.loop-slot.invariant c.loop-slot-test.true c.in_err-work.ensures)

pub loop-slot-preserved : goal.loop-slot-preserved
loop-slot-preserved c = keep_more _ _ _ _ _ c.loop-slot.invariant c.loop-slot-test.true c.in_ok-work.ensures c.bound_at.ensures c.put_bound.ensures

pub returns : goal.returns
returns c = kept _ _ _ _ _ c.loop-slot.invariant (omega arith)
