-- Live entries after an expression: those before plus its value's list where it completes, those before where it is stopped.
use Prim.Native.Nat.{ℕ, zero, suc, ◌+◌}
use mathlib.Core.Path.{◌≡◌, refl}
use mathlib.Core.Bool.{Bool, true, false, ◌&&◌, ◌||◌}
use mathlib.Core.List.{List}
use lib.Dec.{eqb}
use Rattle.limits.specs.declared.Stop.{Stop}
use Rattle.limits.specs.Metered.{Metered}
use Rattle.limits.specs.declared.Meter.{Meter}
use Rattle.limits.proofs.Live.{Lives, live_pure, live_test, live_bind, live_then, live_work, live_as, live_holding, live_dropping}
use Rattle.interval.specs.declared.Interval.{Interval}
use Rattle.lattice.specs.declared.Widening.{Widening}
use Rattle.lattice.specs.Value.{Value}
use Rattle.lattice.specs.Constants.{constant_at}
use Rattle.lattice.specs.Lattice.{numeric}
use Rattle.lattice.proofs.LiveLaws.{constant_lives, copied_lives}
use Rattle.rows.specs.Row.{id_of, entries_of, value_at}
use Rattle.rows.proofs.RowLaws.{size_is, numeric_none}
use Rattle.nodes.specs.declared.BinaryOp.{BinaryOp}
use Rattle.nodes.specs.declared.Expression.{Expression}
use Rattle.nodes.specs.declared.Expression.TheVariants.{Constant, Slot, Unary, Absolute, Binary, Unknown}
use Rattle.nodes.specs.Node.{expression_at}
use Rattle.refinements.specs.Refinement.{Refinement}
use Rattle.refinements.proofs.Theorems.{restrict_lives}
use Rattle.operators.specs.Arithmetic.{empty?, difference?}
use Rattle.evaluation.specs.Evaluation.{Input, known_node, known_in, known_identity, combined, after_one, after_two, unknown, evaluate_node, evaluate_in, expression, values, both}

-- ---- values without a list

unknown_none : (integer : Bool) (w : Widening) → 0 ≡ entries_of (unknown integer w)
unknown_none true w = refl
unknown_none false w = refl

-- ---- `known_identity`

known_node_lem : (known : ℕ → Metered Stop Meter Bool) → ((id : ℕ) → Lives 0 (λ _. 0) (known id)) → (e : Expression) → Lives 0 (λ _. 0) (known_node known e)
known_node_lem known h (Constant k) = live_pure 0 _ refl
known_node_lem known h (Slot s) = live_pure 0 _ refl
known_node_lem known h (Unary op e) = h e
known_node_lem known h (Absolute e) = h e
known_node_lem known h (Binary op l r) = live_bind (h r) (λ t. live_test t (λ _. h l) (λ _. live_pure 0 _ refl))
known_node_lem known h (Unknown i w) = live_pure 0 _ refl

known_in_lem : (depth : ℕ) (nodes : List ℕ) (id : ℕ) → Lives 0 (λ _. 0) (known_in depth nodes id)
unfolding known_in
known_in_lem zero nodes id = live_pure 0 _ refl
known_in_lem (suc depth) nodes id = live_then (live_work 1) (known_node_lem (known_in depth nodes) (known_in_lem depth nodes) (expression_at nodes id))

pub known_lives : (nodes : List ℕ) (id : ℕ) → Lives 0 (λ _. 0) (known_identity nodes id)
unfolding known_identity
known_lives nodes id = known_in_lem (suc id) nodes id

-- ---- a node, once its children are worked out: a child's list goes with it

module _ (nodes constants : List ℕ) (op : BinaryOp) (l r : ℕ) where
  pub combined_lives : (x y : Interval) → Lives 0 (λ _. 0) (combined nodes constants op l r x y)
  unfolding combined
  combined_lives x y =
      live_test (empty? x || empty? y) (λ _. live_pure 0 _ refl)
      (λ _. live_bind (live_test (difference? op && eqb l r) (λ _. known_lives nodes l) (λ _. live_pure 0 _ refl)) (λ t. live_pure 0 _ refl))

  two_lives : (a b : Value) → Lives (entries_of b) entries_of (after_two nodes constants op l r a b)
  unfolding after_two
  two_lives a b =
      live_dropping (entries_of b) (live_then (live_work 1) (live_bind (combined_lives a.bound.interval b.bound.interval) (λ i. live_pure 0 (numeric i) (numeric_none i))))

one_lives : (i : Interval) (a : Value) → Lives (entries_of a) entries_of (after_one i a)
unfolding after_one
one_lives i a = live_dropping (entries_of a) (live_then (live_work 1) (live_pure 0 (numeric i) (numeric_none i)))

-- ---- `expression`

module _ (i : Input) (slots : List ℕ) where
  node_lives : (evaluate : ℕ → Metered Stop Meter Value) → ((id : ℕ) → Lives 0 entries_of (evaluate id)) → (e : Expression) → Lives 0 entries_of (evaluate_node evaluate i slots e)
  node_lives evaluate h (Constant k) = live_as size_is (constant_lives (id_of k) (constant_at i.constants (id_of k)) i.width)
  node_lives evaluate h (Slot s) = live_as size_is (copied_lives (value_at slots s))
  node_lives evaluate h (Unary op e) = live_bind (h e) (λ a. one_lives _ a)
  node_lives evaluate h (Absolute e) = live_bind (h e) (λ a. one_lives _ a)
  node_lives evaluate h (Binary op l r) =
      live_bind (h l) (λ a. live_dropping (entries_of a) (live_bind (h r) (two_lives i.nodes i.constants op l r a)))
  node_lives evaluate h (Unknown integer w) = live_pure 0 (unknown integer w) (unknown_none integer w)

  module _ (known : List Refinement) where
    in_lives : (depth id : ℕ) → Lives 0 entries_of (evaluate_in depth i slots known id)
    unfolding evaluate_in
    in_lives zero id = live_pure 0 _ refl
    in_lives (suc depth) id =
        live_then (live_work 1)
        (live_bind (node_lives (evaluate_in depth i slots known) (in_lives depth) (expression_at i.nodes id)) (restrict_lives i.constants known id))

    pub expression_lives : (id : ℕ) → Lives 0 entries_of (expression i slots known id)
    unfolding expression
    expression_lives id = in_lives (suc id) id

    pub both_lives : (l r : ℕ) → Lives 0 (λ p. entries_of p.first + entries_of p.second) (both i slots known l r)
    unfolding both
    both_lives l r =
        live_bind (expression_lives l) (λ a. live_bind (live_holding (entries_of a) (expression_lives r)) (λ b. live_pure _ (values a b) refl))
