-- `evaluation::Scene::as_operand` meets its contract.
use native.Mathlib.Omega.{arith}
use mathlib.Core.Path.{refl, ap, ◌∙◌}
use Rattle.limits.proofs.Answering.{went, broke, exits}
use Rattle.lattice.specs.Value.{value_of}
use Rattle.limits.proofs.Seen.{seen_went, seen_broke}
use Rattle.nodes.proofs.Descent.{unary_smaller, absolute_smaller, binary_smaller}
use Rattle.operators.specs.Arithmetic.{unary_of, absolute_of}
use Rattle.evaluation.specs.Operands.{sees}
use Rattle.evaluation.proofs.Operands.{sees_going, after_stop, after_on, after_pure}
use Rattle.evaluation.proofs.CodeLaws.{held_sees, one_stops, one_goes, left_stops, right_stops, two_go, unpaid, at_node}
use Rattle.evaluation.proofs.Scene.+as_operand.Goals as goal

pub as_operand-requires : goal.as_operand-requires
as_operand-requires t c =
    let s = unary_smaller c.args.self.now.input.nodes.now c.args.id c.expression_at.ensures c.in-Unary.is in (omega (arith, s, c.decreases), tt)

pub as_operand-requires-in-Absolute : goal.as_operand-requires-in-Absolute
as_operand-requires-in-Absolute t c =
    let s = absolute_smaller c.args.self.now.input.nodes.now c.args.id c.expression_at.ensures c.in-Absolute.is in (omega (arith, s, c.decreases), tt)

pub as_operand-requires-in-Binary : goal.as_operand-requires-in-Binary
as_operand-requires-in-Binary t c =
    let s = binary_smaller c.args.self.now.input.nodes.now c.args.id c.expression_at.ensures c.in-Binary.is in (omega (arith, s.0, c.decreases), tt)

pub as_operand-b-requires : goal.as_operand-b-requires
as_operand-b-requires t c =
    let s = binary_smaller c.args.self.now.input.nodes.now c.args.id c.expression_at.ensures c.in-Binary.is in (omega (arith, s.1, c.decreases), tt)

pub returns-in_err-work : goal.returns-in_err-work
returns-in_err-work t c =
    exits _ c.from_residual.ensures.1 (ap sees (unpaid _ _ _ _ _ (broke c.work.ensures c.in_err-work.was)))

pub returns-in-Constant : goal.returns-in-Constant
returns-in-Constant t c =
    c.constant.ensures ∙ ap sees (at_node _ _ _ _ _ (went c.work.ensures c.in_ok-work.was) c.expression_at.ensures c.in-Constant.is)

pub returns-in-Slot : goal.returns-in-Slot
returns-in-Slot t c =
    c.slot.ensures ∙ ap sees (at_node _ _ _ _ _ (went c.work.ensures c.in_ok-work.was) c.expression_at.ensures c.in-Slot.is)

pub returns-in-Unknown : goal.returns-in-Unknown
returns-in-Unknown t c =
    c.unknown.ensures ∙ ap sees (after_pure _ refl ∙ at_node _ _ _ _ _ (went c.work.ensures c.in_ok-work.was) c.expression_at.ensures c.in-Unknown.is)

pub returns-in_err-a-in-Unary : goal.returns-in_err-a-in-Unary
returns-in_err-a-in-Unary t c =
    exits _ c.from_residual-in_err-a-in-Unary.ensures.1
    (one_stops _ _ (unary_of c.in-Unary.op) _ (broke c.as_operand.ensures c.in_err-a-in-Unary.was) ∙ ap sees (at_node _ _ _ _ _ (went c.work.ensures c.in_ok-work.was) c.expression_at.ensures c.in-Unary.is))

pub returns-in_ok-a-in-Unary : goal.returns-in_ok-a-in-Unary
returns-in_ok-a-in-Unary t c =
    one_goes _ _ (unary_of c.in-Unary.op) _ (went c.as_operand.ensures c.in_ok-a-in-Unary.was) c.unary-interval.ensures c.after_one.ensures ∙ ap sees (at_node _ _ _ _ _ (went c.work.ensures c.in_ok-work.was) c.expression_at.ensures c.in-Unary.is)

pub returns-in_err-a-in-Absolute : goal.returns-in_err-a-in-Absolute
returns-in_err-a-in-Absolute t c =
    exits _ c.from_residual-in_err-a-in-Absolute.ensures.1
    (one_stops _ _ absolute_of _ (broke c.as_operand-in-Absolute.ensures c.in_err-a-in-Absolute.was) ∙ ap sees (at_node _ _ _ _ _ (went c.work.ensures c.in_ok-work.was) c.expression_at.ensures c.in-Absolute.is))

pub returns-in_ok-a-in-Absolute : goal.returns-in_ok-a-in-Absolute
returns-in_ok-a-in-Absolute t c =
    one_goes _ _ absolute_of _ (went c.as_operand-in-Absolute.ensures c.in_ok-a-in-Absolute.was) c.absolute-interval.ensures c.after_one-in-Absolute.ensures ∙ ap sees (at_node _ _ _ _ _ (went c.work.ensures c.in_ok-work.was) c.expression_at.ensures c.in-Absolute.is)

pub returns-in_err-a-in-Binary : goal.returns-in_err-a-in-Binary
returns-in_err-a-in-Binary t c =
    exits _ c.from_residual-in_err-a-in-Binary.ensures.1 (left_stops _ _ _ _ _ _ _ _ _ (broke c.as_operand-in-Binary.ensures c.in_err-a-in-Binary.was) ∙ ap sees (at_node _ _ _ _ _ (went c.work.ensures c.in_ok-work.was) c.expression_at.ensures c.in-Binary.is))

pub returns-in_err-b-in-Binary : goal.returns-in_err-b-in-Binary
returns-in_err-b-in-Binary t c =
    exits _ c.from_residual-in_err-b-in-Binary.ensures.1
    (right_stops _ _ _ _ _ _ _ _ _ (went c.as_operand-in-Binary.ensures c.in_ok-a-in-Binary.was)
    (broke (held_sees c.in_ok-a-in-Binary.a.entries _ _ c.as_operand-b.result _ _ _ c.as_operand-b.ensures c.holding.ensures) c.in_err-b-in-Binary.was)
    ∙ ap sees (at_node _ _ _ _ _ (went c.work.ensures c.in_ok-work.was) c.expression_at.ensures c.in-Binary.is))

pub returns-in_ok-b-in-Binary : goal.returns-in_ok-b-in-Binary
returns-in_ok-b-in-Binary t c =
    two_go _ _ _ _ _ _ _ _ _ (went c.as_operand-in-Binary.ensures c.in_ok-a-in-Binary.was)
    (went (held_sees c.in_ok-a-in-Binary.a.entries _ _ c.as_operand-b.result _ _ _ c.as_operand-b.ensures c.holding.ensures) c.in_ok-b-in-Binary.was) c.after_two.ensures
    ∙ ap sees (at_node _ _ _ _ _ (went c.work.ensures c.in_ok-work.was) c.expression_at.ensures c.in-Binary.is)
