-- What an expression is worth is the same from any two meters, where both runs complete.
use Prim.Native.Nat.{ℕ, zero, suc}
use mathlib.Core.Bool.{Bool, ◌&&◌, ◌||◌}
use mathlib.Core.List.{List}
use lib.Dec.{eqb}
use Rattle.limits.specs.declared.Stop.{Stop}
use Rattle.limits.specs.Metered.{Metered}
use Rattle.limits.specs.declared.Meter.{Meter}
use Rattle.limits.specs.Meter.{work}
use Rattle.limits.proofs.Monad.{Steady, steady_pure, steady_test, steady_unit, steady_bind, steady_then, steady_through}
use Rattle.interval.specs.declared.Interval.{Interval}
use Rattle.lattice.specs.Value.{Value}
use Rattle.lattice.specs.Constants.{constant_at}
use Rattle.lattice.proofs.Steadiness.{constant_steady, copied_steady}
use Rattle.rows.specs.Row.{id_of, value_at}
use Rattle.nodes.specs.declared.BinaryOp.{BinaryOp}
use Rattle.nodes.specs.declared.Expression.{Expression}
use Rattle.nodes.specs.declared.Expression.TheVariants.{Constant, Slot, Unary, Absolute, Binary, Unknown}
use Rattle.nodes.specs.Node.{expression_at}
use Rattle.refinements.specs.Refinement.{Refinement}
use Rattle.refinements.proofs.Theorems.{restrict_steady}
use Rattle.operators.specs.Arithmetic.{empty?, difference?}
use Rattle.evaluation.specs.Evaluation.{Input, known_node, known_in, known_identity, combined, after_one, after_two, evaluate_node, evaluate_in, expression, both}

-- ---- `known_identity`

known_node_lem : (known : ℕ → Metered Stop Meter Bool) → ((id : ℕ) → Steady (known id)) → (e : Expression) → Steady (known_node known e)
known_node_lem known h (Constant k) = steady_pure _
known_node_lem known h (Slot s) = steady_pure _
known_node_lem known h (Unary op e) = h e
known_node_lem known h (Absolute e) = h e
known_node_lem known h (Binary op l r) = steady_bind (h r) (λ t. steady_test t (λ _. h l) (λ _. steady_pure _))
known_node_lem known h (Unknown i w) = steady_pure _

known_in_lem : (depth : ℕ) (nodes : List ℕ) (id : ℕ) → Steady (known_in depth nodes id)
unfolding known_in
known_in_lem zero nodes id = steady_pure _
known_in_lem (suc depth) nodes id = steady_then (steady_unit (work 1)) (known_node_lem (known_in depth nodes) (known_in_lem depth nodes) (expression_at nodes id))

pub known_steady : (nodes : List ℕ) (id : ℕ) → Steady (known_identity nodes id)
unfolding known_identity
known_steady nodes id = known_in_lem (suc id) nodes id

-- ---- a node, once its children are worked out

module _ (nodes constants : List ℕ) (op : BinaryOp) (l r : ℕ) where
  pub combined_steady : (x y : Interval) → Steady (combined nodes constants op l r x y)
  unfolding combined
  combined_steady x y =
      steady_test (empty? x || empty? y) (λ _. steady_pure _)
      (λ _. steady_bind (steady_test (difference? op && eqb l r) (λ _. known_steady nodes l) (λ _. steady_pure _)) (λ t. steady_pure _))

  two_steady : (a b : Value) → Steady (after_two nodes constants op l r a b)
  unfolding after_two
  two_steady a b =
      steady_through _ _ _ _ (steady_then (steady_unit (work 1)) (steady_bind (combined_steady a.bound.interval b.bound.interval) (λ i. steady_pure _)))

one_steady : (i : Interval) (a : Value) → Steady (after_one i a)
unfolding after_one
one_steady i a = steady_through _ _ _ _ (steady_then (steady_unit (work 1)) (steady_pure _))

-- ---- `expression`

module _ (i : Input) (slots : List ℕ) where
  node_steady : (evaluate : ℕ → Metered Stop Meter Value) → ((id : ℕ) → Steady (evaluate id)) → (e : Expression) → Steady (evaluate_node evaluate i slots e)
  node_steady evaluate h (Constant k) = constant_steady (id_of k) (constant_at i.constants (id_of k)) i.width
  node_steady evaluate h (Slot s) = copied_steady (value_at slots s)
  node_steady evaluate h (Unary op e) = steady_bind (h e) (λ a. one_steady _ a)
  node_steady evaluate h (Absolute e) = steady_bind (h e) (λ a. one_steady _ a)
  node_steady evaluate h (Binary op l r) =
      steady_bind (h l) (λ a. steady_through _ _ _ _ (steady_bind (h r) (two_steady i.nodes i.constants op l r a)))
  node_steady evaluate h (Unknown integer w) = steady_pure _

  module _ (known : List Refinement) where
    in_steady : (depth id : ℕ) → Steady (evaluate_in depth i slots known id)
    unfolding evaluate_in
    in_steady zero id = steady_pure _
    in_steady (suc depth) id =
        steady_then (steady_unit (work 1))
        (steady_bind (node_steady (evaluate_in depth i slots known) (in_steady depth) (expression_at i.nodes id)) (restrict_steady i.constants known id))

    pub expression_steady : (id : ℕ) → Steady (expression i slots known id)
    unfolding expression
    expression_steady id = in_steady (suc id) id

    pub both_steady : (l r : ℕ) → Steady (both i slots known l r)
    unfolding both
    both_steady l r = steady_bind (expression_steady l) (λ a. steady_bind (steady_through _ _ _ _ (expression_steady r)) (λ b. steady_pure _))
