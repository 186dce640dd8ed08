-- `lists::same_ids` meets its contract.
use lib.ListN.{length}
use Rattle.lists.proofs.CodeLaws.{Comparing}
use Rattle.lists.proofs.same_ids.Given as goal

abbrev pub invariant-loop-x : goal.invariant-loop-x
invariant-loop-x l = Comparing l.left l.right l.fn.meter (length l.yielded) l.meter
