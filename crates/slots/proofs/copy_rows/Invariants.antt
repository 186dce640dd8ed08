-- `slots::copy_rows` meets its contract.
use mathlib.Core.Path.{◌≡◌}
use lib.ListN.{length}
use Rattle.slots.specs.Slots.{slots}
use Rattle.slots.proofs.CodeLaws.{Copying}
use Rattle.slots.proofs.copy_rows.Given as goal

abbrev pub invariant-loop-k : goal.invariant-loop-k
invariant-loop-k l = (length l.produced ≡ length l.fn.produced) × Copying l.domains l.count (slots l.fn.meter l.fn.produced) l.k (slots l.meter l.produced)
