-- `slots::meet_arguments` meets its contract.
use mathlib.Core.Path.{◌≡◌}
use lib.ListN.{length}
use Rattle.rules.specs.Read.{binding_at}
use Rattle.slots.specs.Slots.{slots, meet_argument}
use Rattle.slots.proofs.CodeLaws.{Going}
use Rattle.slots.proofs.meet_arguments.Given as goal

abbrev pub invariant-loop-j : goal.invariant-loop-j
invariant-loop-j l = (length l.cells ≡ length l.fn.cells) × Going (meet_argument l.constants l.arguments) (binding_at l.rules l.id) l.j-end (slots l.fn.meter l.fn.cells) l.j (slots l.meter l.cells)
