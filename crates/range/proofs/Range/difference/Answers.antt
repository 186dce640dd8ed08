-- `range::Range::difference` meets its contract.
use Rattle.std.proofs.Common.{arith}
use Rattle.std.proofs.lemmas.Int.{to_z-of_z}
use Rattle.range.proofs.Range.difference.Goals as goal

pub returns : goal.returns
returns c = grind (arith, to_z-of_z)
