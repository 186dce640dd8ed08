-- `lattice::Abstract::refine` meets its contract.
use mathlib.Core.Path.{◌∙◌, ap}
use Rattle.lattice.specs.Value.{value_of}
use Rattle.lattice.specs.Lattice.{meet, refine}
use Rattle.lattice.proofs.Abstract.refine.Goals as goal

pub returns : goal.returns
unfolding refine
returns c = c.meet.ensures ∙ ap (λ n. meet c.args.constants.now (value_of c.args.self) n c.args.meter.now) c.numeric.ensures
