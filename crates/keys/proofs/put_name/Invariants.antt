-- `keys::put_name` meets its contract.
use mathlib.Core.Path.{◌≡◌}
use lib.Seq.{sets}
use lib.ListN.{length}
use Rattle.integers.proofs.Stores.{Writing}
use Rattle.keys.proofs.put_name.Given as goal

abbrev pub invariant-loop-i : goal.invariant-loop-i
invariant-loop-i l = (length l.names ≡ length l.initial.names) × Writing (sets l.initial.names l.start l.text) l.names l.start l.text l.i
