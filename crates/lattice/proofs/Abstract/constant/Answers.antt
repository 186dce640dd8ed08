-- `lattice::Abstract::constant` meets its contract.
use Rattle.lattice.proofs.CodeLaws.{constant_large}
use Rattle.lattice.proofs.Abstract.constant.Goals as goal

pub returns-in-Large : goal.returns-in-Large
returns-in-Large c = constant_large c.args.id c.args.width c.args.meter.now c.in-Large.is c.constant-bound.ensures c.unlisted.ensures
