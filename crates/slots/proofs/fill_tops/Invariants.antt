-- `slots::fill_tops` meets its contract.
use mathlib.Core.Path.{◌≡◌}
use lib.ListN.{length}
use Rattle.slots.proofs.CodeLaws.{Filling}
use Rattle.slots.proofs.fill_tops.Given as goal

abbrev pub invariant-loop-k : goal.invariant-loop-k
invariant-loop-k l = (length l.cells ≡ length l.fn.cells) × Filling l.count l.fn.meter l.fn.cells l.k l.meter l.cells
