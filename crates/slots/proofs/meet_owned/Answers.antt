-- `slots::meet_owned` meets its contract.
use Rattle.lattice.specs.Value.{value_of}
use Rattle.slots.proofs.CodeLaws.{owned}
use Rattle.slots.proofs.meet_owned.Goals as goal

pub returns : goal.returns
returns c = owned c.args.constants.now c.args.slot (value_of c.args.value) _ c.meet_into-met.result _ _ c.meet_into-met.ensures c.entries_of.ensures c.release.ensures
