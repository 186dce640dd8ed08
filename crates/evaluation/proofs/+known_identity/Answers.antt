-- `evaluation::known_identity` meets its contract.
use native.Mathlib.Omega.{arith}
use mathlib.Core.Logic.{inl, inr}
use Rattle.limits.proofs.Answering.{went, broke, exits}
use Rattle.limits.proofs.Monad.{bind_on, bind_stop, pure_is}
use Rattle.nodes.proofs.Descent.{unary_smaller, absolute_smaller, binary_smaller}
use Rattle.evaluation.proofs.CodeLaws.{known_unpaid, known_at}
use Rattle.evaluation.proofs.+known_identity.Goals as goal

pub returns-in_err-work : goal.returns-in_err-work
returns-in_err-work t c = exits _ c.from_residual.ensures.1 (known_unpaid _ _ _ (broke c.work.ensures c.in_err-work.was))

pub known_identity-requires : goal.known_identity-requires
known_identity-requires t c = let s = binary_smaller c.args.nodes.now c.args.id c.expression_at.ensures c.in-Binary.is in (omega (arith, s.1, c.decreases), tt)

pub known_identity-requires-in-Binary : goal.known_identity-requires-in-Binary
known_identity-requires-in-Binary t c = let s = binary_smaller c.args.nodes.now c.args.id c.expression_at.ensures c.in-Binary.is in (omega (arith, s.0, c.decreases), tt)

pub known_identity-requires-in-Unary : goal.known_identity-requires-in-Unary
known_identity-requires-in-Unary t c = elim c.in-Unary.is [
  | inl h ↦ let s = unary_smaller c.args.nodes.now c.args.id c.expression_at.ensures h.1 in (omega (arith, s, c.decreases), tt)
  | inr h ↦ let s = absolute_smaller c.args.nodes.now c.args.id c.expression_at.ensures h in (omega (arith, s, c.decreases), tt)
]

pub returns-in_err-known_identity-in-Binary : goal.returns-in_err-known_identity-in-Binary
returns-in_err-known_identity-in-Binary t c =
    exits _ c.from_residual-in_err-known_identity-in-Binary.ensures.1
    (known_at _ _ _ (went c.work.ensures c.in_ok-work.was) c.expression_at.ensures c.in-Binary.is
    (bind_stop _ _ _ (broke c.known_identity.ensures c.in_err-known_identity-in-Binary.was)))

pub returns-then-not-branch : goal.returns-then-not-branch
returns-then-not-branch t c =
    known_at _ _ _ (went c.work.ensures c.in_ok-work.was) c.expression_at.ensures c.in-Binary.is
    (bind_on _ _ _ (went c.known_identity.ensures c.in_ok-known_identity-in-Binary.was) (rw c.if-not-branch.true (pure_is _ _)))

pub returns-else-not-branch : goal.returns-else-not-branch
returns-else-not-branch t c =
    known_at _ _ _ (went c.work.ensures c.in_ok-work.was) c.expression_at.ensures c.in-Binary.is
    (bind_on _ _ _ (went c.known_identity.ensures c.in_ok-known_identity-in-Binary.was) (rw c.if-not-branch.false c.known_identity-in-Binary.ensures))

pub returns-in-Constant : goal.returns-in-Constant
returns-in-Constant t c = elim c.in-Constant.is [
  | inl h ↦ known_at _ _ _ (went c.work.ensures c.in_ok-work.was) c.expression_at.ensures h.1 (pure_is _ _)
  | inr h ↦ known_at _ _ _ (went c.work.ensures c.in_ok-work.was) c.expression_at.ensures h.1 (pure_is _ _)
]

pub returns-in-Unknown : goal.returns-in-Unknown
returns-in-Unknown t c = known_at _ _ _ (went c.work.ensures c.in_ok-work.was) c.expression_at.ensures c.in-Unknown.is (pure_is _ _)

pub returns-in-Unary : goal.returns-in-Unary
returns-in-Unary t c = elim c.in-Unary.is [
  | inl h ↦ known_at _ _ _ (went c.work.ensures c.in_ok-work.was) c.expression_at.ensures h.1 c.known_identity-in-Unary.ensures
  | inr h ↦ known_at _ _ _ (went c.work.ensures c.in_ok-work.was) c.expression_at.ensures h c.known_identity-in-Unary.ensures
]
