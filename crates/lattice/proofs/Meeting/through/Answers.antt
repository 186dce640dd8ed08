-- `lattice::Meeting::through` meets its contract.
use Rattle.limits.proofs.Answering.{went, broke}
use Rattle.lists.specs.Ids.{ids_of}
use Rattle.limits.proofs.Seen.{seen_went, seen_broke, seen_exits}
use Rattle.lattice.specs.Value.{value_of}
use Rattle.lattice.proofs.CodeLaws.{sift_stopped, reduce_stopped, list_met}
use Rattle.lattice.proofs.Meeting.through.Goals as goal

pub returns-in_err-kept : goal.returns-in_err-kept
returns-in_err-kept c =
    let s = c.args.self.now in
    seen_exits value_of c.from_residual.result c.from_residual.ensures.1
    (sift_stopped (value_of s.left.now) (value_of s.right.now) s.bound s.constants.now c.args.list.now c.args.meter.now (seen_broke ids_of c.sift.ensures c.in_err-kept.was))

pub returns-in_err-bound : goal.returns-in_err-bound
returns-in_err-bound c =
    let s = c.args.self.now in
    seen_exits value_of c.from_residual-in_err-bound.result c.from_residual-in_err-bound.ensures.1
    (reduce_stopped (value_of s.left.now) (value_of s.right.now) s.bound s.constants.now c.args.list.now c.args.meter.now (seen_went ids_of c.sift.ensures c.in_ok-kept.was)
    (broke (rw c.as_slice.ensures at c.reduce.ensures) c.in_err-bound.was))

pub returns : goal.returns
returns c =
    let s = c.args.self.now in
    list_met (value_of s.left.now) (value_of s.right.now) s.bound s.constants.now c.args.list.now c.args.meter.now (seen_went ids_of c.sift.ensures c.in_ok-kept.was)
    (went (rw c.as_slice.ensures at c.reduce.ensures) c.in_ok-bound.was) c.listed.ensures
