-- `lists::merge` meets its contract.
use Prim.Native.Nat.{◌+◌}
use lib.ListN.{length}
use Rattle.lists.specs.Ids.{ids_of}
use Rattle.lists.proofs.Merging.{Merging}
use Rattle.lists.proofs.merge.Given as goal

abbrev pub invariant-loop-id : goal.invariant-loop-id
invariant-loop-id l = Merging l.fn.left l.fn.right l.width l.fn.meter (ids_of l.list) l.left l.right l.meter

abbrev pub decreases-loop-id : goal.decreases-loop-id
decreases-loop-id l = length l.left + length l.right
