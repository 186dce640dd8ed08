-- `lattice::Abstract::copied` meets its contract.
use Rattle.limits.proofs.Seen.{seen_exits}
use Rattle.limits.proofs.Answering.{went, broke}
use Rattle.lattice.specs.Value.{value_of}
use Rattle.lattice.proofs.CodeLaws.{copied_stopped, copied_none, list_stopped, entries_stopped, list_copied}
use Rattle.lattice.proofs.Abstract.copied.Goals as goal

pub returns-in_err-work : goal.returns-in_err-work
returns-in_err-work c = seen_exits value_of c.from_residual.result c.from_residual.ensures.1 (copied_stopped _ _ (broke c.work.ensures c.in_err-work.was))

pub returns-in_err-work-2 : goal.returns-in_err-work-2
returns-in_err-work-2 c = seen_exits value_of c.from_residual-in_err-work-2.result c.from_residual-in_err-work-2.ensures.1 (list_stopped _ _ (went c.work.ensures c.in_ok-work.was) c.in-Some.ensures.list (broke c.work-in-Some.ensures c.in_err-work-2.was))

pub returns-in_err-retain_all : goal.returns-in_err-retain_all
returns-in_err-retain_all c = seen_exits value_of c.from_residual-in_err-retain_all.result c.from_residual-in_err-retain_all.ensures.1 (entries_stopped _ _ (went c.work.ensures c.in_ok-work.was) c.in-Some.ensures.list (went c.work-in-Some.ensures c.in_ok-work-2.was) (broke c.retain_all.ensures c.in_err-retain_all.was))

pub returns-in_ok-retain_all : goal.returns-in_ok-retain_all
returns-in_ok-retain_all c = list_copied _ _ (went c.work.ensures c.in_ok-work.was) c.in-Some.ensures.list (went c.work-in-Some.ensures c.in_ok-work-2.was) (went c.retain_all.ensures c.in_ok-retain_all.was)

pub returns-in_default : goal.returns-in_default
returns-in_default c = copied_none _ _ (went c.work.ensures c.in_ok-work.was) c.in_default.ensures.list
