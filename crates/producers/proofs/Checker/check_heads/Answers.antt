-- `producers::Checker::check_heads` meets its contract.
use mathlib.Core.Path.{refl}
use Rattle.limits.proofs.Answering.{replied_ok, replied_err, refuses}
use Rattle.producers.proofs.CodeLaws.{heading_stop, heading_more, heading_all}
use Rattle.producers.proofs.Checker.check_heads.Goals as goal

pub returns-in_err-check_head : goal.returns-in_err-check_head
returns-in_err-check_head c = refuses _ _ c.from_residual.ensures.1 (heading_stop c.args.heads.now c.loop-head.invariant _ _ refl c.loop-head-test.true (replied_err c.check_head.ensures c.in_err-check_head.was))

pub loop-head-preserved : goal.loop-head-preserved
loop-head-preserved c = heading_more c.args.heads.now c.loop-head.invariant _ _ refl c.loop-head-test.true (replied_ok c.check_head.ensures c.in_ok-check_head.was)

pub returns : goal.returns
returns c = heading_all c.args.heads.now c.loop-head.invariant c.loop-head-test.false
