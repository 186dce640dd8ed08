-- `constants::classify` meets its contract.
use Rattle.constants.proofs.CodeLaws.{classified_name}
use Rattle.constants.proofs.classify.Goals as goal

pub returns-in-Name : goal.returns-in-Name
returns-in-Name c = rw c.in-Name.is (classified_name _ _ _ _ _ c.pay.ensures)
