-- `passes::advance` meets its contract.
use native.Mathlib.Omega.{arith}
use Rattle.passes.proofs.StepLaws.{advancing, advanced, advance_stopped, advance_more}
use Rattle.passes.proofs.advance.Goals as goal

pub loop-i-init : goal.loop-i-init
loop-i-init c = advancing _ _ _ _ _

pub returns-in-Err : goal.returns-in-Err
returns-in-Err c = advance_stopped _ _ _ _ _ _ c.loop-i.invariant c.loop-i-test.true c.in-Err.ensures c.without_rows.ensures

pub loop-i-preserved : goal.loop-i-preserved
loop-i-preserved c = advance_more _ _ _ _ _ _ c.loop-i.invariant c.loop-i-test.true c.in-Ok.ensures

pub returns : goal.returns
returns c = advanced _ _ _ _ _ _ c.loop-i.invariant (omega arith)
