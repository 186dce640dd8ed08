-- `results::keep_bounds` meets its contract.
use Rattle.slots.specs.Slots.{slots}
use Rattle.results.proofs.CodeLaws.{Keeping}
use Rattle.results.proofs.keep_bounds.Given as goal

abbrev pub invariant-loop-slot : goal.invariant-loop-slot
invariant-loop-slot l = Keeping l.values l.id l.after l.count (slots l.fn.meter l.fn.bounds) l.slot (slots l.meter l.bounds)
