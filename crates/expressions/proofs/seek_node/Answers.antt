-- `expressions::seek_node` meets its contract.
use Rattle.limits.proofs.Answering.{exits}
use Rattle.expressions.proofs.CodeLaws.{found_unpaid, found_paid, none_unpaid, none_paid}
use Rattle.expressions.proofs.seek_node.Goals as goal

pub returns-in_err-units-in-Some : goal.returns-in_err-units-in-Some
returns-in_err-units-in-Some c = exits _ c.from_residual.ensures.1 (found_unpaid _ _ _ _ _ c.in-Some.ensures.0 c.in-Some.ensures.1 c.in_err-units-in-Some.ensures)

pub returns-in_err-units-in-None : goal.returns-in_err-units-in-None
returns-in_err-units-in-None c = exits _ c.from_residual-in_err-units-in-None.ensures.1 (none_unpaid _ _ _ _ c.in-None.ensures c.in_err-units-in-None.ensures)

pub returns-in_ok-units-in-Some : goal.returns-in_ok-units-in-Some
returns-in_ok-units-in-Some c = found_paid _ _ _ _ _ c.in-Some.ensures.0 c.in-Some.ensures.1 c.in_ok-units-in-Some.ensures

pub returns-in_ok-units-in-None : goal.returns-in_ok-units-in-None
returns-in_ok-units-in-None c = none_paid _ _ _ _ c.in-None.ensures c.in_ok-units-in-None.ensures
