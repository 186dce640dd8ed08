-- `producers::rule` meets its contract.
use native.Mathlib.Omega.{arith}
use mathlib.Core.Path.{◌≡◌, sym, ap, ◌∙◌}
use Rattle.limits.proofs.Answering.{replied_ok, replied_err, refuses}
use Rattle.store.proofs.CodeLaws.{charged_counts, charged_context}
use Rattle.producers.specs.Producer.{cost}
use Rattle.producers.proofs.CodeLaws.{lengthy, roomy, rule_kept, call_unpaid, call_refused, call_id}
use Rattle.producers.proofs.rule.Goals as goal

pub returns-in_err-charge_rule : goal.returns-in_err-charge_rule
returns-in_err-charge_rule c = refuses _ _ c.from_residual.ensures.1 (call_unpaid c.args.nodes.now c.args.rule.now c.args.store.now c.args.rules.now c.args.records.now (sym c.is_sized.ensures ∙ c.if-not-is_sized.false) (sym c.is_shapely.ensures ∙ c.if-not-is_shapely.false) (sym c.admits.ensures ∙ c.if-not-admits.false) (sym c.has_room.ensures ∙ c.if-not-has_room.false) (replied_err c.charge_rule.ensures c.in_err-charge_rule.was))

pub check_rule-requires : goal.check_rule-requires
check_rule-requires c =
    let r = roomy c.args.store.now (sym c.has_room.ensures ∙ c.if-not-has_room.false) in
    let n : c.charge_rule.new.store.counts ≡ c.args.store.now.counts = charged_counts (cost c.args.rule.now) c.args.store.now (replied_ok c.charge_rule.ensures c.in_ok-charge_rule.was) in
    let k : c.charge_rule.new.store.context ≡ c.args.store.now.context = charged_context (cost c.args.rule.now) c.args.store.now (replied_ok c.charge_rule.ensures c.in_ok-charge_rule.was) in
    ((sym c.is_shapely.ensures ∙ c.if-not-is_shapely.false), rw (n, k) r.1)

pub returns-in_err-check_rule : goal.returns-in_err-check_rule
returns-in_err-check_rule c =
    refuses _ _ c.from_residual-in_err-check_rule.ensures.1
    (call_refused c.args.nodes.now c.args.rule.now c.args.store.now c.args.rules.now c.args.records.now (sym c.is_sized.ensures ∙ c.if-not-is_sized.false) (sym c.is_shapely.ensures ∙ c.if-not-is_shapely.false) (sym c.admits.ensures ∙ c.if-not-admits.false) (sym c.has_room.ensures ∙ c.if-not-has_room.false) (replied_ok c.charge_rule.ensures c.in_ok-charge_rule.was) (replied_err c.check_rule.ensures c.in_err-check_rule.was))

pub put_rule-requires : goal.put_rule-requires
put_rule-requires c =
    let r = roomy c.args.store.now (sym c.has_room.ensures ∙ c.if-not-has_room.false) in
    let l = lengthy c.args.rule.now (sym c.is_shapely.ensures ∙ c.if-not-is_shapely.false) in
    let n : c.charge_rule.new.store.counts ≡ c.args.store.now.counts = charged_counts (cost c.args.rule.now) c.args.store.now (replied_ok c.charge_rule.ensures c.in_ok-charge_rule.was) in
    let k : c.check_rule.new.store.counts.rules ≡ c.args.store.now.counts.rules =
    (rule_kept c.args.nodes.now c.args.rule.now c.charge_rule.new.store c.args.records.now (replied_ok c.check_rule.ensures c.in_ok-check_rule.was)).0 ∙ ap (λ m. m.rules) n in
    (rw k r.0, (l.bindings, (l.guards, l.heads)))

pub overflow_add-store : goal.overflow_add-store
overflow_add-store c =
    let r = roomy c.args.store.now (sym c.has_room.ensures ∙ c.if-not-has_room.false) in
    let n : c.charge_rule.new.store.counts ≡ c.args.store.now.counts = charged_counts (cost c.args.rule.now) c.args.store.now (replied_ok c.charge_rule.ensures c.in_ok-charge_rule.was) in
    let k : c.check_rule.new.store.counts.rules ≡ c.args.store.now.counts.rules =
    (rule_kept c.args.nodes.now c.args.rule.now c.charge_rule.new.store c.args.records.now (replied_ok c.check_rule.ensures c.in_ok-check_rule.was)).0 ∙ ap (λ m. m.rules) n in
    rw k (omega (arith, r.0))

pub returns : goal.returns
returns c =
    let h = call_id c.args.nodes.now c.args.rule.now c.args.store.now c.args.rules.now c.args.records.now (sym c.is_sized.ensures ∙ c.if-not-is_sized.false) (sym c.is_shapely.ensures ∙ c.if-not-is_shapely.false) (sym c.admits.ensures ∙ c.if-not-admits.false) (sym c.has_room.ensures ∙ c.if-not-has_room.false) (replied_ok c.charge_rule.ensures c.in_ok-charge_rule.was) (replied_ok c.check_rule.ensures c.in_ok-check_rule.was) in
    rw c.put_rule.ensures h
