-- `producers::Checker::check_slot` meets its contract.
use Rattle.producers.proofs.CodeLaws.{slot_there}
use Rattle.producers.proofs.Checker.check_slot.Goals as goal

pub returns : goal.returns
returns c = slot_there _ _ _ c.if-self-slot.false
