-- `transfer::head` meets its contract.
use Rattle.transfer.specs.Transfer.{head}
use Rattle.transfer.proofs.head.Goals as goal

pub returns : goal.returns
unfolding head
returns c = c.expression.ensures
