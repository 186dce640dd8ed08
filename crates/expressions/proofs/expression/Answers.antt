-- `expressions::expression` meets its contract.
use Rattle.limits.proofs.Answering.{refuses}
use Rattle.expressions.proofs.CodeLaws.{expression_work, share_ready, expression_missing, expression_shared}
use Rattle.expressions.proofs.expression.Goals as goal

pub returns-in_err-pay : goal.returns-in_err-pay
returns-in_err-pay c =
    let a = c.args in
    refuses _ _ c.from_residual.ensures.1
    (expression_work a.value a.store.now a.nodes.now c.if-nodes-ne-NODE_CELLS.false c.is_supported.ensures c.if-not-is_supported.false c.admits.ensures c.if-not-admits.false c.deepest.ensures c.if-deepest.false c.has_room.ensures c.if-not-has_room.false c.in_err-pay.ensures)

pub share-requires : goal.share-requires
share-requires c =
    let a = c.args in
    share_ready a.value a.store.now a.nodes.now c.if-nodes-ne-NODE_CELLS.false c.is_supported.ensures c.if-not-is_supported.false c.admits.ensures c.if-not-admits.false c.deepest.ensures c.if-deepest.false c.has_room.ensures c.if-not-has_room.false c.in_ok-pay.ensures

pub returns-then-not-is_valid : goal.returns-then-not-is_valid
returns-then-not-is_valid c =
    let a = c.args in
    expression_missing a.value a.store.now a.nodes.now c.if-nodes-ne-NODE_CELLS.false c.is_supported.ensures c.if-not-is_supported.false c.admits.ensures c.if-not-admits.false c.deepest.ensures c.if-deepest.false c.has_room.ensures c.if-not-has_room.false c.in_ok-pay.ensures c.is_valid.ensures c.if-not-is_valid.true

pub returns : goal.returns
returns c =
    let a = c.args in
    expression_shared a.value a.store.now a.nodes.now c.if-nodes-ne-NODE_CELLS.false c.is_supported.ensures c.if-not-is_supported.false c.admits.ensures c.if-not-admits.false c.deepest.ensures c.if-deepest.false c.has_room.ensures c.if-not-has_room.false c.in_ok-pay.ensures c.is_valid.ensures c.if-not-is_valid.false c.share.ensures
