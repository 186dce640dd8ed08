-- `constants::pay` meets its contract.
use Rattle.limits.specs.Budget.{work, links}
use Rattle.limits.proofs.Answering.{exits}
use Rattle.limits.proofs.Monad.{then_stop, then_on}
use Rattle.constants.specs.Constant.{cost}
use Rattle.constants.proofs.pay.Goals as goal

pub returns-in_err-pay : goal.returns-in_err-pay
unfolding cost
returns-in_err-pay c = exits _ c.from_residual.ensures.1 (then_stop (links 1) _ (work _) c.in_err-pay.ensures)

pub returns : goal.returns
unfolding cost
returns c = then_on (links 1) _ (work _) c.in_ok-pay.ensures c.pay-2.ensures
