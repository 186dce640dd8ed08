-- `slots::mark_dependents` meets its contract.
use mathlib.Core.Path.{◌≡◌}
use lib.ListN.{length}
use Rattle.rules.specs.Read.{binding_at}
use Rattle.slots.specs.Slots.{slots, mark_dependent}
use Rattle.slots.proofs.CodeLaws.{Going}
use Rattle.slots.proofs.mark_dependents.Given as goal

abbrev pub invariant-loop-j : goal.invariant-loop-j
invariant-loop-j l = (length l.cells ≡ length l.fn.cells) × Going mark_dependent (binding_at l.rules l.id) l.j-end (slots l.fn.meter l.fn.cells) l.j (slots l.meter l.cells)
