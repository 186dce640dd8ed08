-- `passes::ascend` meets its contract.
use Rattle.limits.proofs.Answering.{exits}
use Rattle.rounds.specs.Lent.{given_in}
use Rattle.passes.proofs.Rounds.{fewer_left, pass_pays}
use Rattle.passes.proofs.PassLaws.{ascending, ascend_stopped, ascend_settled, ascend_again}
use Rattle.passes.proofs.ascend.Goals as goal

pub loop-init : goal.loop-init
loop-init c = ascending _ _ _

pub returns-in_err-pass : goal.returns-in_err-pass
returns-in_err-pass c = exits c.from_residual.result c.from_residual.ensures.1 (ascend_stopped _ _ _ c.loop.invariant c.in_err-pass.ensures)

pub loop-smaller : goal.loop-smaller
loop-smaller c = fewer_left (pass_pays (given_in c.args.given.now) c.args.thresholds.now _ c.in_ok-pass.ensures)

pub loop-preserved : goal.loop-preserved
loop-preserved c = ascend_again _ _ _ c.loop.invariant (rw (← c.if-branch.true) c.in_ok-pass.ensures)

pub returns : goal.returns
returns c = ascend_settled _ _ _ c.loop.invariant (rw (← c.if-branch.false) c.in_ok-pass.ensures)
