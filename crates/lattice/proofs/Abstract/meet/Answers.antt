-- `lattice::Abstract::meet` meets its contract.
use Rattle.limits.proofs.Answering.{went, broke}
use Rattle.limits.proofs.Seen.{seen_exits}
use Rattle.lattice.specs.Value.{value_of}
use Rattle.lattice.proofs.CodeLaws.{meet_stopped, meet_through, meet_without}
use Rattle.lattice.proofs.Abstract.meet.Goals as goal

pub returns-in_err-work : goal.returns-in_err-work
returns-in_err-work c = seen_exits value_of c.from_residual.result c.from_residual.ensures.1 (meet_stopped _ _ _ _ (broke c.work.ensures c.in_err-work.was))

pub returns-in-Some : goal.returns-in-Some
returns-in-Some c = meet_through _ _ _ _ (went c.work.ensures c.in_ok-work.was) c.meet.ensures c.in-Some.ensures.list c.through.ensures

pub returns-in-None : goal.returns-in-None
returns-in-None c = meet_without _ _ _ _ (went c.work.ensures c.in_ok-work.was) c.meet.ensures c.in-None.ensures.list c.bare.ensures
