-- `producers::Checker::check_expression` meets its contract.
use native.Mathlib.Omega.{arith}
use mathlib.Core.Logic.{inl, inr}
use Rattle.limits.proofs.Answering.{went, broke, limits, replied_ok, replied_err, refuses}
use Rattle.limits.proofs.Monad.{then_on, then_stop, pure_is}
use Rattle.nodes.proofs.Descent.{unary_smaller, absolute_smaller, binary_smaller}
use Rattle.producers.specs.Scopes.{scope_in}
use Rattle.producers.proofs.CodeLaws.{unpaid, missing, at_node}
use Rattle.producers.proofs.Checker.+check_expression.Goals as goal

pub returns-in_err-work : goal.returns-in_err-work
returns-in_err-work t c = limits _ _ c.from_residual.ensures.1 (unpaid (scope_in c.args.self) c.args.id c.args.meter.now (broke c.work.ensures c.in_err-work.was))

pub returns-then-self-id : goal.returns-then-self-id
returns-then-self-id t c = missing (scope_in c.args.self) c.args.id c.args.meter.now (went c.work.ensures c.in_ok-work.was) c.if-self-id.true

pub check_expression-requires : goal.check_expression-requires
check_expression-requires t c = let s = binary_smaller c.args.self.nodes.now c.args.id c.expression_at.ensures c.in-Binary.is in (omega (arith, s.1, c.decreases), tt)

pub check_expression-requires-in-Binary : goal.check_expression-requires-in-Binary
check_expression-requires-in-Binary t c = let s = binary_smaller c.args.self.nodes.now c.args.id c.expression_at.ensures c.in-Binary.is in (omega (arith, s.0, c.decreases), tt)

pub check_expression-requires-in-Unary : goal.check_expression-requires-in-Unary
check_expression-requires-in-Unary t c = elim c.in-Unary.is [
  | inl h ↦ let s = unary_smaller c.args.self.nodes.now c.args.id c.expression_at.ensures h.1 in (omega (arith, s, c.decreases), tt)
  | inr h ↦ let s = absolute_smaller c.args.self.nodes.now c.args.id c.expression_at.ensures h in (omega (arith, s, c.decreases), tt)
]

pub returns-in_err-check_expression-in-Binary : goal.returns-in_err-check_expression-in-Binary
returns-in_err-check_expression-in-Binary t c =
    refuses _ _ c.from_residual-in_err-check_expression-in-Binary.ensures.1
    (at_node (scope_in c.args.self) c.args.id c.args.meter.now (went c.work.ensures c.in_ok-work.was) c.if-self-id.false c.expression_at.ensures c.in-Binary.is
    (then_stop _ _ _ (replied_err c.check_expression.ensures c.in_err-check_expression-in-Binary.was)))

pub returns-in_ok-check_expression-in-Binary : goal.returns-in_ok-check_expression-in-Binary
returns-in_ok-check_expression-in-Binary t c =
    at_node (scope_in c.args.self) c.args.id c.args.meter.now (went c.work.ensures c.in_ok-work.was) c.if-self-id.false c.expression_at.ensures c.in-Binary.is
    (then_on _ _ _ (replied_ok c.check_expression.ensures c.in_ok-check_expression-in-Binary.was) c.check_expression-in-Binary.ensures)

pub returns-in-Constant : goal.returns-in-Constant
returns-in-Constant t c = elim c.in-Constant.is [
  | inl h ↦ at_node (scope_in c.args.self) c.args.id c.args.meter.now (went c.work.ensures c.in_ok-work.was) c.if-self-id.false c.expression_at.ensures h.1 (pure_is tt _)
  | inr h ↦ at_node (scope_in c.args.self) c.args.id c.args.meter.now (went c.work.ensures c.in_ok-work.was) c.if-self-id.false c.expression_at.ensures h.2 (pure_is tt _)
]

pub returns-in-Slot : goal.returns-in-Slot
returns-in-Slot t c =
    at_node (scope_in c.args.self) c.args.id c.args.meter.now (went c.work.ensures c.in_ok-work.was) c.if-self-id.false c.expression_at.ensures c.in-Slot.is c.check_slot.ensures

pub returns-in-Unary : goal.returns-in-Unary
returns-in-Unary t c = elim c.in-Unary.is [
  | inl h ↦ at_node (scope_in c.args.self) c.args.id c.args.meter.now (went c.work.ensures c.in_ok-work.was) c.if-self-id.false c.expression_at.ensures h.1 c.check_expression-in-Unary.ensures
  | inr h ↦ at_node (scope_in c.args.self) c.args.id c.args.meter.now (went c.work.ensures c.in_ok-work.was) c.if-self-id.false c.expression_at.ensures h c.check_expression-in-Unary.ensures
]
