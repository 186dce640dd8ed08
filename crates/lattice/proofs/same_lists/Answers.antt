-- `lattice::same_lists` meets its contract.
use Rattle.lattice.proofs.CodeLaws.{lengths_other, left_only, right_only, no_lists}
use Rattle.lattice.proofs.same_lists.Goals as goal

pub returns-in-None-None : goal.returns-in-None-None
returns-in-None-None c = no_lists _ _ _ c.in-None-None.ensures.list c.in-None-None.ensures'.list

pub returns-in_default : goal.returns-in_default
returns-in_default c = lengths_other _ _ _ c.in-Some-Some.ensures.list c.in-Some-Some.ensures'.list c.if-l-r.false

pub returns-in_default-2 : goal.returns-in_default-2
returns-in_default-2 c = left_only _ _ _ c.in_default.ensures.list c.in_default.ensures'.list

pub returns-in_default-3 : goal.returns-in_default-3
returns-in_default-3 c = right_only _ _ _ c.in_default.ensures.list c.in_default.ensures'.list
