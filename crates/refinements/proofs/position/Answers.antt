-- `refinements::position` meets its contract.
use native.Mathlib.Omega.{arith}
use Rattle.limits.proofs.Seen.{seen_exits}
use Rattle.refinements.specs.Refinement.{place_or_end}
use Rattle.refinements.proofs.CodeLaws.{seeking, seek_none, seek_stopped, seek_found, seek_more}
use Rattle.refinements.proofs.position.Goals as goal

pub loop-k-init : goal.loop-k-init
loop-k-init c = seeking _ _ _ _

pub returns-in_err-work-clause-place : goal.returns-in_err-work-clause-place
returns-in_err-work-clause-place c = seen_exits (place_or_end c.args.count) c.from_residual.result c.from_residual.ensures.1 (seek_stopped _ _ _ _ c.loop-k.invariant c.loop-k-test.true c.in_err-work.ensures)

pub returns-then-expression_at-id-clause-place : goal.returns-then-expression_at-id-clause-place
returns-then-expression_at-id-clause-place c = seek_found _ _ _ _ c.loop-k.invariant c.loop-k-test.true c.in_ok-work.ensures c.expression_at.ensures c.if-expression_at-id.true

pub loop-k-preserved : goal.loop-k-preserved
loop-k-preserved c = seek_more _ _ _ _ c.loop-k.invariant c.loop-k-test.true c.in_ok-work.ensures c.expression_at.ensures c.if-expression_at-id.false

pub returns-clause-place : goal.returns-clause-place
returns-clause-place c = seek_none _ _ _ _ c.loop-k.invariant (omega arith)
