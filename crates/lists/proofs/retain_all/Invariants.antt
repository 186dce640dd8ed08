-- `lists::retain_all` meets its contract.
use Rattle.lists.proofs.CodeLaws.{Retaining}
use Rattle.lists.proofs.retain_all.Given as goal

abbrev pub invariant-loop-held : goal.invariant-loop-held
invariant-loop-held l = Retaining l.count l.fn.meter l.held l.meter
