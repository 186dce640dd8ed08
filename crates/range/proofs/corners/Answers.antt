-- `range::corners` meets its contract.
use Rattle.std.proofs.Common.{arith}
use Rattle.std.proofs.lemmas.Int.{to_z-of_z}
use Rattle.integers.proofs.Bits.{mul_fits}
use Rattle.integers.proofs.Extremes.{min_is, max_is}
use Rattle.range.proofs.corners.Goals as goal

pub returns : goal.returns
returns c = grind (arith, to_z-of_z, mul_fits, min_is, max_is)
