-- `constants::abandon` meets its contract.
use Rattle.std.proofs.Common.{ap, arith}
use Rattle.limits.specs.Budget.{links}
use Rattle.limits.proofs.Answering.{refuses}
use Rattle.store.specs.declared.Counts.{Counts}
use Rattle.store.proofs.CodeLaws.{charged_counts}
use Rattle.constants.proofs.CodeLaws.{abandon_unpaid, abandon_new}
use Rattle.constants.proofs.abandon.Goals as goal

pub returns-in_err-pay : goal.returns-in_err-pay
returns-in_err-pay c = λ n o. refuses _ _ c.from_residual.ensures.1 (abandon_unpaid _ _ _ _ c.in_err-pay.ensures)

pub overflow_add-store : goal.overflow_add-store
overflow_add-store c =
    let e = ap (λ (n : Counts). n.constants) (charged_counts (links 1) c.args.store.now c.in_ok-pay.ensures) in
    omega (arith, e, c.requires)

pub returns : goal.returns
returns c = λ n o. abandon_new _ _ _ _ c.in_ok-pay.ensures c.put_cells.ensures
