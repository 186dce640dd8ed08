-- An expression's value is one that a row holds exactly, with its list in order: the ends of its interval are numbers of 32 bits, and its list is short.
use Prim.Native.Nat.{ℕ, zero, suc, ◌^◌, ◌<◌}
use native.Mathlib.Omega.{arith}
use mathlib.Core.Bool.{Bool, true, false, ◌||◌}
use mathlib.Core.List.{List}
use Rattle.integers.specs.Lists.{All}
use Rattle.integers.proofs.Tests.{by_cond}
use Rattle.limits.specs.declared.Stop.{Stop}
use Rattle.limits.specs.Metered.{Metered}
use Rattle.limits.specs.declared.Meter.{Meter}
use Rattle.limits.specs.Meter.{work}
use Rattle.limits.proofs.Monad.{Ensures, by_pure, by_test, by_through, any_value, bind, then}
use Rattle.interval.specs.declared.Interval.{Interval}
use Rattle.interval.specs.declared.Interval.TheVariants.{Bottom}
use Rattle.lattice.specs.declared.Widening.{Widening}
use Rattle.lattice.specs.Value.{Value}
use Rattle.rows.specs.Row.{id_of, value_at}
use Rattle.rows.specs.WellFormed.{Proper}
use Rattle.rows.proofs.Good.{Good, top_good, numeric_good, constant_good, copied_good}
use Rattle.nodes.specs.declared.BinaryOp.{BinaryOp}
use Rattle.nodes.specs.declared.Expression.{Expression}
use Rattle.nodes.specs.declared.Expression.TheVariants.{Constant, Slot, Unary, Absolute, Binary, Unknown}
use Rattle.nodes.specs.Node.{expression_at}
use Rattle.refinements.specs.Refinement.{Refinement}
use Rattle.refinements.proofs.Theorems.{restrict_good}
use Rattle.operators.specs.Arithmetic.{empty?}
use Rattle.operators.specs.Literal.{covered}
use Rattle.operators.proofs.Formed.{unary_proper, absolute_proper, binary_proper}
use Rattle.evaluation.specs.Evaluation.{Input, identical, combined, after_one, after_two, unknown, evaluate_node, evaluate_in, expression, both}

-- ---- a node, once its children are worked out

module _ (nodes constants : List ℕ) (op : BinaryOp) (l r : ℕ) where
  pub combined_proper : (x y : Interval) → Ensures Proper (combined nodes constants op l r x y)
  unfolding combined
  combined_proper x y =
      by_test (empty? x || empty? y) (λ _. by_pure Bottom tt)
      (λ _.
      bind (any_value (identical nodes op l r))
      (λ t _. by_pure _ (by_cond Proper t (λ _. ((omega arith, omega arith), ((omega arith, omega arith), omega arith))) (λ _. by_cond Proper (covered nodes constants op l r) (λ _. binary_proper op x y) (λ _. tt)))))

  two_good : (a b : Value) → Ensures Good (after_two nodes constants op l r a b)
  unfolding after_two
  two_good a b =
      by_through Good _ _ _ _ (then (work 1) (bind (combined_proper a.bound.interval b.bound.interval) (λ i p. by_pure _ (numeric_good i p))))

one_good : (i : Interval) (a : Value) → Proper i → Ensures Good (after_one i a)
unfolding after_one
one_good i a p = by_through Good _ _ _ _ (then (work 1) (by_pure _ (numeric_good i p)))

unknown_good : (integer : Bool) (w : Widening) → Good (unknown integer w)
unknown_good true w = record { formed = record { interval = tt; list = tt }; tidy = record { sorted = tt; small = tt } }
unknown_good false w = top_good _

-- ---- `expression`

module _ (i : Input) (small : All (λ c. c < 2 ^ 32) i.constants) (slots : List ℕ) (formed : (s : ℕ) → Good (value_at slots s)) where
  node_good : (evaluate : ℕ → Metered Stop Meter Value) → ((id : ℕ) → Ensures Good (evaluate id)) → (e : Expression) → Ensures Good (evaluate_node evaluate i slots e)
  node_good evaluate h (Constant k) = constant_good i.constants small (id_of k) i.width (omega arith)
  node_good evaluate h (Slot s) = copied_good (value_at slots s) (formed s)
  node_good evaluate h (Unary op e) = bind (h e) (λ a _. one_good _ a (unary_proper op a.bound.interval))
  node_good evaluate h (Absolute e) = bind (h e) (λ a _. one_good _ a (absolute_proper a.bound.interval))
  node_good evaluate h (Binary op l r) = bind (h l) (λ a _. by_through Good _ _ _ _ (bind (h r) (λ b _. two_good i.nodes i.constants op l r a b)))
  node_good evaluate h (Unknown integer w) = by_pure _ (unknown_good integer w)

  module _ (known : List Refinement) (proper : All (λ r. Proper r.restriction) known) where
    in_good : (depth id : ℕ) → Ensures Good (evaluate_in depth i slots known id)
    unfolding evaluate_in
    in_good zero id = by_pure _ (top_good _)
    in_good (suc depth) id =
        then (work 1)
        (bind (node_good (evaluate_in depth i slots known) (in_good depth) (expression_at i.nodes id)) (λ v w. restrict_good i.constants small known id v proper w))

    pub expression_good : (id : ℕ) → Ensures Good (expression i slots known id)
    unfolding expression
    expression_good id = in_good (suc id) id

    pub both_good : (l r : ℕ) → Ensures (λ p. Good p.first × Good p.second) (both i slots known l r)
    unfolding both
    both_good l r = bind (expression_good l) (λ a p. bind (by_through Good _ _ _ _ (expression_good r)) (λ b q. by_pure _ (p, q)))
