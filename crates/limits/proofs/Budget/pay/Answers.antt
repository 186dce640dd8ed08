-- `limits::Budget::pay` meets its contract.
use Rattle.std.proofs.Common.{sym, ◌∙◌}
use Rattle.std.proofs.lemmas.Result.{err_from_is_err_and}
use Rattle.limits.proofs.CodeLaws.{pay_paid, pay_stopped}
use Rattle.limits.proofs.Budget.pay.Goals as goal

pub returns-in_err-count : goal.returns-in_err-count
returns-in_err-count c = let p = err_from_is_err_and c.from_residual.result c.from_residual.ensures.1 in rw (p.1, p.2) (pay_stopped _ _ _ c.of.ensures c.of-2.ensures (sym c.charge.ensures ∙ c.in_err-count.was))

pub returns : goal.returns
returns c = pay_paid _ _ _ c.of.ensures c.of-2.ensures (sym c.charge.ensures ∙ c.in_ok-count.was) c.with-self.ensures
