-- `slots::drop_rows` meets its contract.
use Rattle.slots.proofs.CodeLaws.{Dropped}
use Rattle.slots.proofs.drop_rows.Given as goal

abbrev pub invariant-loop-k : goal.invariant-loop-k
invariant-loop-k l = Dropped l.cells l.fn.meter l.k l.meter
