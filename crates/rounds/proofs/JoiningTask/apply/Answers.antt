-- `rounds::Joining::apply` meets its contract.
use native.Mathlib.Omega.{arith}
use Rattle.limits.proofs.Answering.{exits}
use Rattle.slots.proofs.CodeLaws.{goes, gone, one_stopped, one_more}
use Rattle.rounds.proofs.JoiningTask.apply.Goals as goal

pub loop-j-init : goal.loop-j-init
loop-j-init c = goes _ _ _ _

pub returns-in_err-join_head : goal.returns-in_err-join_head
returns-in_err-join_head c =
    rw (← c.head_count-j-end.ensures)
    (exits c.from_residual.result c.from_residual.ensures.1 (one_stopped _ _ _ _ c.loop-j.invariant c.loop-j-test.true c.head_at-head.ensures c.in_err-join_head.ensures))

pub loop-j-preserved : goal.loop-j-preserved
loop-j-preserved c = one_more _ _ _ _ c.loop-j.invariant c.loop-j-test.true c.head_at-head.ensures c.in_ok-join_head.ensures

pub returns : goal.returns
returns c = rw (← c.head_count-j-end.ensures) (gone _ _ _ _ c.loop-j.invariant (omega arith))
