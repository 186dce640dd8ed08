-- `numeric::count_contexts` meets its contract.
use mathlib.Core.Path.{◌≡◌}
use lib.ListN.{length}
use Rattle.numeric.specs.Reading.{contexts_of}
use Rattle.numeric.proofs.count_contexts.Given as goal

abbrev pub invariant-loop-i : goal.invariant-loop-i
invariant-loop-i l = l.found ≡ length (contexts_of l.records l.i l.argument)
