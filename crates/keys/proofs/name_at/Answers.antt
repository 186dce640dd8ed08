-- `keys::name_at` meets its contract.
use Rattle.std.proofs.Common.{arith}
use Rattle.keys.proofs.CodeLaws.{name_part}
use Rattle.keys.proofs.name_at.Goals as goal

pub returns : goal.returns
returns c = name_part _ _ _ (omega (arith, c.saturating_mul.ensures, c.min-start.ensures)) _ _ (rw (c.min-2.ensures, c.min.ensures))
