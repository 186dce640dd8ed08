-- `slots::mark_dependent` meets its contract.
use Rattle.limits.proofs.Answering.{exits}
use Rattle.slots.specs.Slots.{mark_dependent}
use Rattle.slots.proofs.CodeLaws.{step_stop, step_goes, positive_marked, other_marked}
use Rattle.slots.proofs.mark_dependent.Goals as goal

pub returns-in_err-work : goal.returns-in_err-work
returns-in_err-work c = exits c.from_residual.result c.from_residual.ensures.1 (step_stop (mark_dependent c.args.binding) _ _ c.in_err-work.ensures)

pub returns-in-Positive : goal.returns-in-Positive
returns-in-Positive c = step_goes (mark_dependent c.args.binding) _ _ c.in_ok-work.ensures (positive_marked _ _ c.in-Positive.is c.depend.ensures)

pub returns-in_default : goal.returns-in_default
returns-in_default c = step_goes (mark_dependent c.args.binding) _ _ c.in_ok-work.ensures (other_marked _ _ c.args.binding c.in_default.not-Positive)
