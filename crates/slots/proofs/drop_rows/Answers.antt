-- `slots::drop_rows` meets its contract.
use native.Mathlib.Omega.{arith}
use Rattle.slots.proofs.CodeLaws.{dropped_none, dropped_more, dropped_all}
use Rattle.slots.proofs.drop_rows.Goals as goal

pub loop-k-init : goal.loop-k-init
loop-k-init c = dropped_none _ _

pub loop-k-preserved : goal.loop-k-preserved
loop-k-preserved c = dropped_more _ _ c.loop-k.invariant c.entries_at.ensures c.release.ensures

pub returns : goal.returns
returns c = dropped_all _ _ c.loop-k.invariant (omega arith)
