-- `seeds::constant_value` meets its contract.
use Rattle.seeds.proofs.CodeLaws.{constant_made}
use Rattle.seeds.proofs.constant_value.Goals as goal

pub returns : goal.returns
returns c = rw c.settle.ensures (constant_made c.args.constants.now c.args.id c.args.budget.now c.constant-value.result _ c.constant_at-key.ensures (rw c.meter-meter.ensures at c.constant-value.ensures))
