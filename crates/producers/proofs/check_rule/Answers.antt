-- `producers::check_rule` meets its contract.
use Rattle.limits.proofs.Answering.{replied_ok, replied_err, refuses}
use Rattle.producers.specs.Producer.{scope_of, check_body}
use Rattle.producers.proofs.CodeLaws.{checking_on, checking_off, rule_body, rule_heads}
use Rattle.producers.proofs.check_rule.Goals as goal

pub returns-in_err-checked : goal.returns-in_err-checked
returns-in_err-checked c =
    refuses _ _ c.from_residual.ensures.1
    (rule_body c.args.nodes.now c.args.rule.now c.args.store.now c.args.table.now
    (rw c.settle.ensures (checking_off (check_body c.args.store.now.counts.positions (scope_of c.args.nodes.now c.args.store.now c.args.rule.now) c.args.rule.now) c.args.store.now (replied_err (rw c.meter-meter.ensures at c.check_body-checked.ensures) c.in_err-checked.was))))

pub returns : goal.returns
returns c =
    rule_heads c.args.nodes.now c.args.rule.now c.args.store.now c.args.table.now
    (rw c.settle.ensures (checking_on (check_body c.args.store.now.counts.positions (scope_of c.args.nodes.now c.args.store.now c.args.rule.now) c.args.rule.now) c.args.store.now (replied_ok (rw c.meter-meter.ensures at c.check_body-checked.ensures) c.in_ok-checked.was)))
    c.check_heads.ensures
