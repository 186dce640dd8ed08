-- `provenance::provenance` meets its contract.
use native.Mathlib.Omega.{arith}
use mathlib.Core.Path.{◌≡◌}
use Rattle.limits.specs.Budget.{links}
use Rattle.limits.proofs.Answering.{replied_ok, replied_err, refuses}
use Rattle.store.proofs.CodeLaws.{charged_counts}
use Rattle.provenance.proofs.CodeLaws.{room_for, provenance_none, provenance_unpaid, provenance_new}
use Rattle.provenance.proofs.provenance.Goals as goal

pub returns-in_err-pay : goal.returns-in_err-pay
returns-in_err-pay c = refuses _ _ c.from_residual.ensures.1 (provenance_unpaid c.args.argument c.args.store.now c.args.table.now c.if-store-argument.false c.in-Some.is _ (replied_err c.pay.ensures c.in_err-pay.was))

pub returns : goal.returns
returns c = provenance_new c.args.argument c.args.store.now c.args.table.now c.if-store-argument.false c.in-Some.is (replied_ok c.pay.ensures c.in_ok-pay.was) c.put_record.ensures

pub returns-in_default : goal.returns-in_default
returns-in_default c = provenance_none c.args.argument c.args.store.now c.args.table.now c.if-store-argument.false c.in_default.is

pub put_record-requires : goal.put_record-requires
put_record-requires c =
    let k : c.pay.new.self.counts ≡ c.args.store.now.counts = charged_counts (links 1) c.args.store.now (replied_ok c.pay.ensures c.in_ok-pay.was) in
    rw k (omega (arith, room_for 1 c.args.store.now.counts.provenance c.in-Some.is c.requires.1))

pub overflow_add-store : goal.overflow_add-store
overflow_add-store c =
    let k : c.pay.new.self.counts ≡ c.args.store.now.counts = charged_counts (links 1) c.args.store.now (replied_ok c.pay.ensures c.in_ok-pay.was) in
    rw k (omega (arith, room_for 1 c.args.store.now.counts.provenance c.in-Some.is c.requires.1))
