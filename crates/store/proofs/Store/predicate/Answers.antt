-- `store::Store::predicate` meets its contract.
use native.Mathlib.Omega.{arith}
use mathlib.Core.Path.{◌≡◌, refl}
use Rattle.limits.specs.declared.Refusal.TheVariants.{Limit}
use Rattle.limits.specs.Budget.{work}
use Rattle.limits.proofs.Answering.{went, broke, limits, replied_ok, replied_err, refuses}
use Rattle.store.specs.Calls.{declared}
use Rattle.store.proofs.CodeLaws.{room_yes, charge_on, charge_off, charged_counts, predicate_work, predicate_declare, predicate_id}
use Rattle.store.proofs.Store.predicate.Goals as goal

pub returns-in_err-pay : goal.returns-in_err-pay
returns-in_err-pay c = refuses _ _ c.from_residual.ensures.1 (predicate_work c.args.arity c.args.self.now c.args.predicates.now c.args.seeds.now c.if-predicates-ne-PREDICATE_CELLS.false c.if-seeds-ne-ARGUMENT_CELLS.false c.admits.ensures c.if-not-admits.false c.has_room.ensures c.if-not-has_room.false _ (replied_err c.pay.ensures c.in_err-pay.was))

pub returns-in_err-declare : goal.returns-in_err-declare
returns-in_err-declare c =
    limits _ _ c.from_residual-in_err-declare.ensures.1
    (predicate_declare c.args.arity c.args.self.now c.args.predicates.now c.args.seeds.now c.if-predicates-ne-PREDICATE_CELLS.false c.if-seeds-ne-ARGUMENT_CELLS.false c.admits.ensures c.if-not-admits.false c.has_room.ensures c.if-not-has_room.false (replied_ok c.pay.ensures c.in_ok-pay.was) (Limit c.in_err-declare.field-0.0)
    (charge_off (declared c.args.arity) c.pay.new.self (broke c.declare.ensures c.in_err-declare.was)))

pub overflow_add-self : goal.overflow_add-self
overflow_add-self c =
    let k : c.pay.new.self.counts ≡ c.args.self.now.counts = charged_counts (work 1) c.args.self.now (replied_ok c.pay.ensures c.in_ok-pay.was) in
    rw k (omega (arith, room_yes c.args.self.now.counts.predicates c.args.self.now.counts.positions c.args.arity c.has_room.ensures c.if-not-has_room.false))

pub overflow_add-self-2 : goal.overflow_add-self-2
overflow_add-self-2 c =
    let k : c.pay.new.self.counts ≡ c.args.self.now.counts = charged_counts (work 1) c.args.self.now (replied_ok c.pay.ensures c.in_ok-pay.was) in
    rw k (omega (arith, room_yes c.args.self.now.counts.predicates c.args.self.now.counts.positions c.args.arity c.has_room.ensures c.if-not-has_room.false))

pub returns : goal.returns
returns c =
    predicate_id c.args.arity c.args.self.now c.args.predicates.now c.args.seeds.now c.if-predicates-ne-PREDICATE_CELLS.false c.if-seeds-ne-ARGUMENT_CELLS.false c.admits.ensures c.if-not-admits.false c.has_room.ensures c.if-not-has_room.false (replied_ok c.pay.ensures c.in_ok-pay.was)
    (charge_on (declared c.args.arity) c.pay.new.self (went c.declare.ensures c.in_ok-declare.was))
    refl c.put_cell.ensures c.put_cell-2.ensures c.clear_seeds.ensures
