-- `limits::charge_count` meets its contract.
use mathlib.Core.Path.{sym, ap, ◌∙◌}
use Rattle.limits.specs.Charge.{stored}
use Rattle.limits.proofs.Answering.{exits}
use Rattle.limits.proofs.charge_count.Goals as goal

pub returns-in_err-count : goal.returns-in_err-count
returns-in_err-count c = exits c.from_residual.result c.from_residual.ensures.1 (ap (stored c.args.count.now) (sym c.in_err-count.was ∙ c.charge.ensures))

pub returns : goal.returns
returns c = ap (stored c.args.count.now) (sym c.in_ok-count.was ∙ c.charge.ensures)
