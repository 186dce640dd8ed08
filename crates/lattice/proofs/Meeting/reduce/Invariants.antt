-- `lattice::Meeting::reduce` meets its contract.
use Rattle.lattice.proofs.Sifting.{Hulling}
use Rattle.lattice.proofs.Meeting.reduce.Given as goal

abbrev pub invariant-loop-id : goal.invariant-loop-id
invariant-loop-id l = Hulling l.self.constants.now l.kept l.fn.meter l.held l.id-index l.meter
