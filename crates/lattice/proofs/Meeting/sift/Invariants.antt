-- `lattice::Meeting::sift` meets its contract.
use Rattle.lists.specs.Ids.{ids_of}
use Rattle.lattice.specs.Value.{value_of}
use Rattle.lattice.proofs.Sifting.{Sifting}
use Rattle.lattice.proofs.Meeting.sift.Given as goal

abbrev pub invariant-loop-id : goal.invariant-loop-id
invariant-loop-id l = Sifting (value_of l.self.left.now) (value_of l.self.right.now) l.self.bound l.self.constants.now l.list l.fn.meter (ids_of l.kept) l.id-index l.meter
