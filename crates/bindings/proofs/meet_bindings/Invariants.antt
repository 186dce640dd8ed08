-- `bindings::meet_bindings` meets its contract.
use Rattle.rules.specs.Read.{binding_at}
use Rattle.slots.specs.Slots.{slots}
use Rattle.slots.proofs.CodeLaws.{Going}
use Rattle.evaluation.specs.Operands.{input_in}
use Rattle.bindings.specs.Bindings.{meet_binding}
use Rattle.bindings.proofs.meet_bindings.Given as goal

abbrev pub invariant-loop-j : goal.invariant-loop-j
invariant-loop-j l = Going (meet_binding (input_in l.input)) (binding_at l.rules l.id) l.j-end (slots l.fn.meter l.fn.cells) l.j (slots l.meter l.cells)
