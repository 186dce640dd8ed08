-- `lent::charge` meets its contract.
use mathlib.Core.Path.{sym, ◌∙◌}
use Rattle.limits.proofs.Answering.{exits}
use Rattle.limits.proofs.CodeLaws.{pay_paid, pay_stopped}
use Rattle.lent.specs.Lent.{budget_of}
use Rattle.lent.proofs.charge.Goals as goal

pub returns-in_err-count : goal.returns-in_err-count
returns-in_err-count c = exits _ c.from_residual.ensures.1 (pay_stopped c.args.resource c.args.amount (budget_of c.args.limits c.args.statistics.now) c.of.ensures c.of-2.ensures (sym c.charge.ensures ∙ c.in_err-count.was))

pub returns : goal.returns
returns c = pay_paid c.args.resource c.args.amount (budget_of c.args.limits c.args.statistics.now) c.of.ensures c.of-2.ensures (sym c.charge.ensures ∙ c.in_ok-count.was) c.with.ensures
