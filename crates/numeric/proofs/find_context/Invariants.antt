-- `numeric::find_context` meets its contract.
use Prim.Native.Nat.{◌≤◌}
use mathlib.Core.Path.{◌≡◌}
use lib.ListN.{length}
use Rattle.numeric.specs.Reading.{contexts_of}
use Rattle.numeric.proofs.find_context.Given as goal

abbrev pub invariant-loop-i : goal.invariant-loop-i
invariant-loop-i l = (l.found ≡ length (contexts_of l.records l.i l.argument)) × (l.found ≤ l.k)
