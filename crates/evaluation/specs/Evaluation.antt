-- `expression` of transfer.rs, with `known_identity`: the value of an expression over the values of the slots.
use Rattle.std.specs.Prelude.{ℕ, zero, suc, Bool, true, false, cond, ◌&&◌, ◌||◌, List, eqb, pos}
use Rattle.std.proofs.Math.Option.{none}
use Rattle.limits.specs.declared.Stop.{Stop}
use Rattle.limits.specs.Metered.{Metered, pure, ◌>>=◌, ◌>>◌}
use Rattle.limits.specs.declared.Meter.{Meter}
use Rattle.limits.specs.Meter.{work, holding, dropping}
use Rattle.interval.specs.declared.Interval.{Interval}
use Rattle.interval.specs.declared.Interval.TheVariants.{Bottom, Bounded, Unbounded}
use Rattle.interval.specs.Bound.{numeric_bound}
use Rattle.lattice.specs.declared.Widening.{Widening}
use Rattle.lattice.specs.declared.Widening.TheVariants.{HeadForm}
use Rattle.std.specs.Prelude.{Some}
use Rattle.lattice.specs.Value.{Value, value}
use Rattle.lattice.specs.Constants.{constant_at}
use Rattle.lattice.specs.Lattice.{top, numeric, constant, copied}
use Rattle.rows.specs.Row.{id_of, entries_of, value_at}
use Rattle.nodes.specs.declared.BinaryOp.{BinaryOp}
use Rattle.nodes.specs.declared.Expression.{Expression}
use Rattle.nodes.specs.declared.Expression.TheVariants.{Constant as Fixed, Slot, Unary, Absolute, Binary, Unknown}
use Rattle.nodes.specs.Node.{expression_at}
use Rattle.refinements.specs.Refinement.{Refinement, restrict}
use Rattle.operators.specs.Arithmetic.{empty?, unary_of, absolute_of, binary_of, difference?}
use Rattle.operators.specs.Literal.{covered}

-- what the analysis reads of `Input`: the expressions, the constants, and how long a list may be
pub record Input : Type 0 where
  pub nodes : List ℕ
  pub constants : List ℕ
  pub width : ℕ

abbrev pub input : List ℕ → List ℕ → ℕ → Input
input n c w = record { nodes = n; constants = c; width = w }

-- ---- `known_identity`: an expression without Unknown has one value in a firing

-- right child first; an Unknown ends it
abbrev pub known_node : (ℕ → Metered Stop Meter Bool) → Expression → Metered Stop Meter Bool
known_node known (Fixed k) = pure true
known_node known (Slot s) = pure true
known_node known (Unary op e) = known e
known_node known (Absolute e) = known e
known_node known (Binary op l r) = known r >>= (λ t. cond t (known l) (pure false))
known_node known (Unknown i w) = pure false

-- `depth` bounds the descent; children have smaller ids, so that one more than the id is enough
unfoldable pub known_in : ℕ → List ℕ → ℕ → Metered Stop Meter Bool
known_in zero nodes id = pure false
known_in (suc depth) nodes id = work 1 >> known_node (known_in depth nodes) (expression_at nodes id)

unfoldable pub known_identity : List ℕ → ℕ → Metered Stop Meter Bool
known_identity nodes id = known_in (suc id) nodes id

-- ---- the node itself, once its children are worked out

-- whether it is e − e for an e with one value
abbrev pub identical : List ℕ → BinaryOp → ℕ → ℕ → Metered Stop Meter Bool
identical nodes op l r = cond (difference? op && eqb l r) (known_identity nodes l) (pure false)

-- 01: "e − e is 0 when e is not empty and holds no Unknown"
unfoldable pub combined : List ℕ → List ℕ → BinaryOp → ℕ → ℕ → Interval → Interval → Metered Stop Meter Interval
combined nodes constants op l r x y =
    cond (empty? x || empty? y) (pure Bottom)
    (identical nodes op l r >>= (λ t. pure (cond t (Bounded (pos 0) (pos 0)) (cond (covered nodes constants op l r) (binary_of op x y) Unbounded))))

-- a node with one operand, which is dropped
unfoldable pub after_one : Interval → Value → Metered Stop Meter Value
after_one i a = dropping (entries_of a) (work 1 >> pure (numeric i))

-- a node with two operands: b is dropped here, a by the scope around it
unfoldable pub after_two : List ℕ → List ℕ → BinaryOp → ℕ → ℕ → Value → Value → Metered Stop Meter Value
after_two nodes constants op l r a b =
    dropping (entries_of b) (work 1 >> (combined nodes constants op l r a.bound.interval b.bound.interval >>= (λ i. pure (numeric i))))

abbrev pub unknown : Bool → Widening → Value
unknown true w = value (numeric_bound Unbounded) none (Some w)
unknown false w = top (Some w)

-- ---- `expression`, left child first

abbrev pub evaluate_node : (ℕ → Metered Stop Meter Value) → Input → List ℕ → Expression → Metered Stop Meter Value
evaluate_node evaluate i slots (Fixed k) = constant (id_of k) (constant_at i.constants (id_of k)) i.width
evaluate_node evaluate i slots (Slot s) = copied (value_at slots s)
evaluate_node evaluate i slots (Unary op e) = evaluate e >>= (λ a. after_one (unary_of op a.bound.interval) a)
evaluate_node evaluate i slots (Absolute e) = evaluate e >>= (λ a. after_one (absolute_of a.bound.interval) a)
evaluate_node evaluate i slots (Binary op l r) =
    evaluate l >>= (λ a. dropping (entries_of a) (evaluate r >>= after_two i.nodes i.constants op l r a))
evaluate_node evaluate i slots (Unknown integer w) = pure (unknown integer w)

unfoldable pub evaluate_in : ℕ → Input → List ℕ → List Refinement → ℕ → Metered Stop Meter Value
evaluate_in zero i slots known id = pure (top (Some HeadForm))
evaluate_in (suc depth) i slots known id =
    work 1 >> (evaluate_node (evaluate_in depth i slots known) i slots (expression_at i.nodes id) >>= restrict i.constants known id)

-- the value of an expression, over the slots' values and under what is known of expressions
unfoldable pub expression : Input → List ℕ → List Refinement → ℕ → Metered Stop Meter Value
expression i slots known id = evaluate_in (suc id) i slots known id

-- ---- two expressions, of a range binding or a guard: the first is live while the second is worked out

pub record Values : Type 0 where
  pub first : Value
  pub second : Value

abbrev pub values : Value → Value → Values
values a b = record { first = a; second = b }

unfoldable pub both : Input → List ℕ → List Refinement → ℕ → ℕ → Metered Stop Meter Values
both i slots known l r = expression i slots known l >>= (λ a. holding (entries_of a) (expression i slots known r) >>= (λ b. pure (values a b)))
