-- `lists::merge` meets its contract.
use native.Mathlib.Omega.{arith}
use mathlib.Core.Path.{ap, ◌∙◌}
use Rattle.std.proofs.Common.{Ok}
use Rattle.limits.proofs.Answering.{went, broke}
use Rattle.lists.specs.Ids.{merged}
use Rattle.limits.proofs.Seen.{seen_exits}
use Rattle.lists.proofs.Merging.{merging, taken_fits, merge_all, merge_stopped, merge_none, merge_more, merge_falls}
use Rattle.lists.proofs.merge.Goals as goal

pub loop-id-init : goal.loop-id-init
loop-id-init c = merging _ _ _ _ c.new-list.ensures

pub returns-in_err-take_one : goal.returns-in_err-take_one
returns-in_err-take_one c = seen_exits merged c.from_residual.result c.from_residual.ensures.1 (merge_stopped _ _ _ _ _ _ _ _ c.loop-id.invariant c.in-Some.ensures c.len.ensures (broke c.take_one.ensures c.in_err-take_one.was))

pub returns-then-not-branch : goal.returns-then-not-branch
returns-then-not-branch c = merge_none _ _ _ _ _ _ _ _ c.loop-id.invariant c.in-Some.ensures c.len.ensures (went c.take_one.ensures (c.in_ok-take_one.was ∙ ap Ok c.if-not-branch.true))

pub push-requires : goal.push-requires
push-requires c = omega (arith, c.len.ensures, taken_fits _ _ _ (went c.take_one.ensures (c.in_ok-take_one.was ∙ ap Ok c.if-not-branch.false)))

pub loop-id-smaller : goal.loop-id-smaller
loop-id-smaller c = merge_falls _ _ _ _ _ _ _ _ c.loop-id.invariant c.in-Some.ensures c.len.ensures c.behind-left.ensures c.behind-right.ensures

pub loop-id-preserved : goal.loop-id-preserved
loop-id-preserved c = merge_more _ _ _ _ _ _ _ _ c.loop-id.invariant c.in-Some.ensures c.len.ensures (went c.take_one.ensures (c.in_ok-take_one.was ∙ ap Ok c.if-not-branch.false)) c.push.ensures c.behind-left.ensures c.behind-right.ensures

pub returns : goal.returns
returns c = merge_all _ _ _ _ _ _ _ _ c.loop-id.invariant c.in_default.ensures
