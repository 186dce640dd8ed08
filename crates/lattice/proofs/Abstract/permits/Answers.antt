-- `lattice::Abstract::permits` meets its contract.
use Rattle.lattice.proofs.CodeLaws.{permits_none}
use Rattle.lattice.proofs.Abstract.permits.Goals as goal

pub returns-in-None : goal.returns-in-None
returns-in-None c = permits_none _ _ _ c.in-None.ensures.list
