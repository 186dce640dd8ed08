-- `expressions::first_node` meets its contract.
use Rattle.std.proofs.Common.{sym, subst, ◌∙◌, ◌≡◌, ◌*◌, ◌-◌, below_more, arith}
use Rattle.expressions.proofs.CodeLaws.{Other, first_is, none_is}
use Rattle.expressions.proofs.first_node.Goals.{else-count-eq1-via-then-count-eq1+else-has_node-3, else-count-eq1-via-else-count-eq1}
use Rattle.expressions.proofs.first_node.Goals as goal

pub returns-then-has_node : goal.returns-then-has_node
returns-then-has_node c = first_is _ _ _ _ (omega arith) c.loop-pair.invariant (sym c.has_node.ensures ∙ c.if-has_node.true)

pub returns-then-has_node-2 : goal.returns-then-has_node-2
returns-then-has_node-2 c =
    first_is _ _ _ _ (omega arith) (below_more _ _ c.loop-pair.invariant (sym c.has_node.ensures ∙ c.if-has_node.false)) (sym c.has_node-in-loop-pair.ensures ∙ c.if-has_node-2.true)

pub loop-pair-preserved : goal.loop-pair-preserved
loop-pair-preserved c = λ k h.
    below_more _ _ (below_more _ _ c.loop-pair.invariant (sym c.has_node.ensures ∙ c.if-has_node.false)) (sym c.has_node-in-loop-pair.ensures ∙ c.if-has_node-2.false) k (omega arith)

pub returns-then-has_node-3 : goal.returns-then-has_node-3
returns-then-has_node-3 c = first_is _ _ _ _ (omega arith) (λ k h. c.loop-pair.invariant k (omega arith)) (sym c.has_node-then-count-eq1.ensures ∙ c.if-has_node-3.true)

pub returns : goal.returns
returns c = elim c.else-count-eq1.branch [
  | else-count-eq1-via-then-count-eq1+else-has_node-3 w ↦
      let e : c.args.count - 1 ≡ 2 * c.loop-pair.pair = omega arith in
      none_is _ _ _ _ (omega arith)
      (below_more _ (2 * c.loop-pair.pair) c.loop-pair.invariant (subst (Other c.args.nodes.now c.args.node) e (sym w.has_node-then-count-eq1.ensures ∙ w.if-has_node-3.false)))
  | else-count-eq1-via-else-count-eq1 w ↦ none_is _ _ _ _ (omega arith) c.loop-pair.invariant
]
