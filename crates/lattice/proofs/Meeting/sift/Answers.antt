-- `lattice::Meeting::sift` meets its contract.
use mathlib.Core.Path.{◌∙◌, refl, ap}
use native.Mathlib.Omega.{arith}
use Rattle.std.proofs.Common.{Ok}
use Rattle.limits.proofs.Answering.{went, broke}
use Rattle.lists.specs.Ids.{ids_of}
use Rattle.limits.proofs.Seen.{seen_exits}
use Rattle.lattice.proofs.Sifting.{sifting, sift_done, sift_stopped, sift_left, sift_taken}
use Rattle.lattice.proofs.Meeting.sift.Goals as goal
use Rattle.lattice.proofs.Meeting.sift.Goals.{then-branch, else-branch}

pub loop-id-init : goal.loop-id-init
loop-id-init c = sifting _ _ _ _ _ _ _ c.new-kept.ensures

pub returns-in_err-keep_one : goal.returns-in_err-keep_one
returns-in_err-keep_one c = seen_exits ids_of c.from_residual.result c.from_residual.ensures.1 (sift_stopped _ _ _ _ _ _ _ _ _ c.loop-id.invariant (omega arith) refl c.len.ensures (broke c.keep_one.ensures c.in_err-keep_one.was))

pub loop-id-preserved : goal.loop-id-preserved
loop-id-preserved c =
    elim c.if-branch.branch [
      | then-branch w ↦ sift_taken _ _ _ _ _ _ _ _ _ c.loop-id.invariant (omega arith) refl c.len.ensures (went c.keep_one.ensures (c.in_ok-keep_one.was ∙ ap Ok w.if-branch.true)) (ap ids_of w.kept-is ∙ w.push.ensures)
      | else-branch w ↦ rw w.kept-is (sift_left _ _ _ _ _ _ _ _ _ c.loop-id.invariant (omega arith) refl c.len.ensures (went c.keep_one.ensures (c.in_ok-keep_one.was ∙ ap Ok w.if-branch.false)))
    ]

pub returns : goal.returns
returns c = sift_done _ _ _ _ _ _ _ _ _ c.loop-id.invariant (omega arith)
