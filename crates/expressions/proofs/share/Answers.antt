-- `expressions::share` meets its contract.
use Rattle.std.proofs.Common.{arith}
use Rattle.limits.proofs.Answering.{limits, refuses}
use Rattle.expressions.proofs.CodeLaws.{share_stopped, share_found, share_unpaid, still_room, share_new}
use Rattle.expressions.proofs.share.Goals as goal

pub returns-in_err-old : goal.returns-in_err-old
returns-in_err-old c = limits _ _ c.from_residual.ensures.1 (share_stopped _ c.args.store.now _ _ (rw c.meter-meter.ensures at c.seek_older-sought.ensures) c.settle.ensures c.in_err-old.was)

pub returns-in-Ok : goal.returns-in-Ok
returns-in-Ok c = share_found _ c.args.store.now _ _ (rw c.meter-meter.ensures at c.seek_older-sought.ensures) c.settle.ensures c.in_ok-old.was c.in-Ok.is

pub returns-in_err-pay : goal.returns-in_err-pay
returns-in_err-pay c =
    refuses _ _ c.from_residual-in_err-pay.ensures.1
    (share_unpaid _ c.args.store.now _ _ (rw c.meter-meter.ensures at c.seek_older-sought.ensures) c.settle.ensures c.in_ok-old.was c.in_default.is c.in_err-pay.ensures)

pub overflow_add-store : goal.overflow_add-store
overflow_add-store c =
    let g = still_room c.args.value c.args.store.now c.args.nodes.now _ (rw c.meter-meter.ensures at c.seek_older-sought.ensures) c.settle.ensures c.in_ok-old.was c.in_default.is c.in_ok-pay.ensures c.requires.0 in
    omega (arith, g)

pub returns : goal.returns
returns c =
    share_new c.args.value c.args.store.now c.args.nodes.now _ (rw c.meter-meter.ensures at c.seek_older-sought.ensures) c.settle.ensures c.in_ok-old.was c.in_default.is c.in_ok-pay.ensures c.deepest-nesting.ensures c.from.ensures c.put_node.ensures
