-- `slots::meet_argument` meets its contract.
use Rattle.limits.proofs.Answering.{exits}
use Rattle.slots.specs.Slots.{meet_argument}
use Rattle.slots.proofs.CodeLaws.{step_stop, step_goes, positive_met, other_met}
use Rattle.slots.proofs.meet_argument.Goals as goal

pub returns-in_err-work : goal.returns-in_err-work
returns-in_err-work c = exits c.from_residual.result c.from_residual.ensures.1 (step_stop (meet_argument c.args.constants.now c.args.arguments.now c.args.binding) _ _ c.in_err-work.ensures)

pub returns-in-Positive : goal.returns-in-Positive
returns-in-Positive c = step_goes (meet_argument c.args.constants.now c.args.arguments.now c.args.binding) _ _ c.in_ok-work.ensures (positive_met _ _ _ c.in-Positive.is c.abstract_at-value.ensures c.meet_into.ensures)

pub returns : goal.returns
returns c = step_goes (meet_argument c.args.constants.now c.args.arguments.now c.args.binding) _ _ c.in_ok-work.ensures (other_met _ _ _ c.args.binding c.in_default.not-Positive)
