-- What a comparison says of its operands, and what that says of a slot: the arithmetic of `refine_comparison` and `refine_operand`.
use Rattle.std.specs.Prelude.{ℕ, Bool, true, false, List, ℤ, pos, ◌+ℤ◌, ◌-ℤ◌, Option, Some, None}
use Rattle.integers.specs.Order.{least32, greatest32}
use Rattle.interval.specs.declared.Interval.{Interval}
use Rattle.interval.specs.declared.Interval.TheVariants.{Bottom, Unbounded}
use Rattle.interval.specs.Interval.{endpoints_of, checked_of}
use Rattle.nodes.specs.declared.BinaryOp.{BinaryOp}
use Rattle.nodes.specs.declared.BinaryOp.TheVariants.{Add, Sub, Mul, Div, Mod, Pow, BitAnd, BitOr, BitXor}
use Rattle.nodes.specs.declared.Expression.{Expression}
use Rattle.nodes.specs.declared.Expression.TheVariants.{Constant, Slot, Unary, Absolute, Binary, Unknown}
use Rattle.nodes.specs.Node.{expression_at}
use Rattle.rules.specs.declared.Relation.{Relation}
use Rattle.rules.specs.declared.Relation.TheVariants.{Lt, Le, Gt, Ge, Eq, Neq}
use Rattle.operators.specs.Literal.{literal}
use Rattle.affine.specs.declared.Affine.{Affine}
use Rattle.affine.specs.declared.Shape.{Shape}
use Rattle.affine.specs.declared.Shape.TheVariants.{Sum, Difference, Reversed}

-- ---- a relation and the ends of one operand restrict the other

-- the relation as the right operand sees it
abbrev pub flipped_of : Relation → Relation
flipped_of Lt = Gt
flipped_of Le = Ge
flipped_of Gt = Lt
flipped_of Ge = Le
flipped_of Eq = Eq
flipped_of Neq = Neq

-- where x stands in a relation to a number from low to high, x lies here
abbrev pub restriction : Relation → ℤ → ℤ → Interval
restriction Lt low high = checked_of least32 (high -ℤ pos 1)
restriction Le low high = checked_of least32 high
restriction Gt low high = checked_of (low +ℤ pos 1) greatest32
restriction Ge low high = checked_of low greatest32
restriction Eq low high = checked_of low high
restriction Neq low high = Unbounded

-- nothing where either operand is empty
abbrev pub restricted_by : Relation → Option (ℤ × ℤ) → Option (ℤ × ℤ) → Interval
restricted_by relation None other = Bottom
restricted_by relation (Some (a, b)) None = Bottom
restricted_by relation (Some (a, b)) (Some (low, high)) = restriction relation low high

abbrev pub restricted : Relation → Interval → Interval → Interval
restricted relation own other = restricted_by relation (endpoints_of own) (endpoints_of other)

abbrev pub neq? : Relation → Bool
neq? Lt = false
neq? Le = false
neq? Gt = false
neq? Ge = false
neq? Eq = false
neq? Neq = true

-- ---- the affine shapes: slot, slot + c, slot − c, c − slot

abbrev pub formed : Shape → ℕ → Option ℤ → Option Affine
formed shape slot None = None
formed shape slot (Some c) = Some (record { shape = shape; slot = slot; constant = c })

-- a shape of an expression that may be a slot, and of the number that another may be
abbrev pub shaped : Shape → Expression → Option ℤ → Option Affine
shaped shape (Constant k) c = None
shaped shape (Slot slot) c = formed shape slot c
shaped shape (Unary op e) c = None
shaped shape (Absolute e) c = None
shaped shape (Binary op l r) c = None
shaped shape (Unknown i w) c = None

-- left − right, with the literals that they may be
abbrev pub difference_shape : Expression → Expression → Option ℤ → Option ℤ → Option Affine
difference_shape (Constant k) right a b = shaped Reversed right a
difference_shape (Slot slot) right a b = formed Difference slot b
difference_shape (Unary op e) right a b = shaped Reversed right a
difference_shape (Absolute e) right a b = shaped Reversed right a
difference_shape (Binary op l r) right a b = shaped Reversed right a
difference_shape (Unknown i w) right a b = shaped Reversed right a

abbrev pub binary_shape : List ℕ → List ℕ → BinaryOp → ℕ → ℕ → Option Affine
binary_shape nodes constants Add l r = shaped Sum (expression_at nodes l) (literal nodes constants r)
binary_shape nodes constants Sub l r = difference_shape (expression_at nodes l) (expression_at nodes r) (literal nodes constants l) (literal nodes constants r)
binary_shape nodes constants Mul l r = None
binary_shape nodes constants Div l r = None
binary_shape nodes constants Mod l r = None
binary_shape nodes constants Pow l r = None
binary_shape nodes constants BitAnd l r = None
binary_shape nodes constants BitOr l r = None
binary_shape nodes constants BitXor l r = None

abbrev pub shape_of : List ℕ → List ℕ → Expression → Option Affine
shape_of nodes constants (Constant k) = None
shape_of nodes constants (Slot slot) = formed Sum slot (Some (pos 0))
shape_of nodes constants (Unary op e) = None
shape_of nodes constants (Absolute e) = None
shape_of nodes constants (Binary op l r) = binary_shape nodes constants op l r
shape_of nodes constants (Unknown i w) = None

unfoldable pub affine : List ℕ → List ℕ → ℕ → Option Affine
affine nodes constants id = shape_of nodes constants (expression_at nodes id)

-- ---- and where the slot then lies. 01: "`c − slot` in [l, h] puts the slot in [c − h, c − l], cut to 32 bits"

abbrev pub solved : Shape → ℤ → Option (ℤ × ℤ) → Interval
solved shape c None = Bottom
solved Sum c (Some (low, high)) = checked_of (low -ℤ c) (high -ℤ c)
solved Difference c (Some (low, high)) = checked_of (low +ℤ c) (high +ℤ c)
solved Reversed c (Some (low, high)) = checked_of (c -ℤ high) (c -ℤ low)
