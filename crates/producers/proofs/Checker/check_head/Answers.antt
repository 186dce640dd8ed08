-- `producers::Checker::check_head` meets its contract.
use Rattle.limits.proofs.Answering.{replied_ok, replied_err, refuses}
use Rattle.producers.specs.Scopes.{scope_in}
use Rattle.producers.specs.Producer.{check_value}
use Rattle.producers.proofs.CodeLaws.{checking_on, checking_off, head_on, head_off}
use Rattle.producers.proofs.Checker.check_head.Goals as goal

pub returns-in_err-checked : goal.returns-in_err-checked
returns-in_err-checked c =
    refuses _ _ c.from_residual.ensures.1
    (head_off (scope_in c.args.self) c.args.head c.args.store.now c.args.table.now
    (rw c.settle.ensures (checking_off (check_value (scope_in c.args.self) c.args.head.value) c.args.store.now (replied_err (rw c.meter-meter.ensures at c.check_value-checked.ensures) c.in_err-checked.was))))

pub returns : goal.returns
returns c =
    head_on (scope_in c.args.self) c.args.head c.args.store.now c.args.table.now
    (rw c.settle.ensures (checking_on (check_value (scope_in c.args.self) c.args.head.value) c.args.store.now (replied_ok (rw c.meter-meter.ensures at c.check_value-checked.ensures) c.in_ok-checked.was)))
    c.provenance.ensures
