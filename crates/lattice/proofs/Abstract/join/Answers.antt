-- `lattice::Abstract::join` meets its contract.
use Rattle.limits.proofs.Seen.{seen_exits}
use Rattle.limits.proofs.Answering.{went, broke}
use Rattle.lattice.specs.Value.{value_of}
use Rattle.lattice.proofs.CodeLaws.{first_is, join_stopped, join_on, join_left, join_right}
use Rattle.lattice.proofs.Abstract.join.Goals.{in_default-via-in-Some+in_default, in_default-via-in_default}
use Rattle.lattice.proofs.Abstract.join.Goals as goal

pub returns-in_err-work : goal.returns-in_err-work
returns-in_err-work c = seen_exits value_of c.from_residual.result c.from_residual.ensures.1 (join_stopped _ _ _ _ (broke c.work.ensures c.in_err-work.was))

pub returns-in-Some-Some : goal.returns-in-Some-Some
returns-in-Some-Some c = join_on _ _ _ _ (went c.work.ensures c.in_ok-work.was) c.hull-bound.ensures (first_is c.args.self.reason c.args.other.reason c.or-reason.ensures) c.in-Some-Some.ensures.list c.in-Some-Some.ensures'.list c.join_lists.ensures

pub returns-in_default : goal.returns-in_default
returns-in_default c =
    elim c.in_default.branch [
      | in_default-via-in-Some+in_default w ↦ join_right _ _ _ _ (went c.work.ensures c.in_ok-work.was) c.hull-bound.ensures (first_is c.args.self.reason c.args.other.reason c.or-reason.ensures) w.in_default.ensures.list w.in_default.ensures'.list c.unlisted.ensures
      | in_default-via-in_default w ↦ join_left _ _ _ _ (went c.work.ensures c.in_ok-work.was) c.hull-bound.ensures (first_is c.args.self.reason c.args.other.reason c.or-reason.ensures) w.in_default.ensures.list c.unlisted.ensures
    ]
