-- `keys::compare_at` meets its contract.
use Rattle.std.proofs.Common.{◌∙◌}
use Rattle.keys.proofs.CodeLaws.{ordered}
use Rattle.keys.proofs.compare_at.Goals as goal

pub returns : goal.returns
returns c = rw (← c.key_at.ensures) (c.cmp.ensures ∙ ordered c.key_at.result c.args.key)
