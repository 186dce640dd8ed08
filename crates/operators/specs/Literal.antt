-- `literal` and `covered` of transfer.rs: numbers that are written in an expression, and where the range of an operator is used.
use Rattle.std.specs.Prelude.{ℕ, Bool, true, false, ◌||◌, List, ℤ, Option, Some, None, is_some}
use Rattle.interval.specs.declared.Constant.{Constant}
use Rattle.interval.specs.declared.Constant.TheVariants.{Number, Name, Large}
use Rattle.lattice.specs.Constants.{constant_at}
use Rattle.rows.specs.Row.{id_of}
use Rattle.nodes.specs.declared.BinaryOp.{BinaryOp}
use Rattle.nodes.specs.declared.BinaryOp.TheVariants.{Add, Sub, Mul, Div, Mod, Pow, BitAnd, BitOr, BitXor}
use Rattle.nodes.specs.declared.Expression.{Expression}
use Rattle.nodes.specs.declared.Expression.TheVariants.{Constant as Fixed, Slot, Unary, Absolute, Binary, Unknown}
use Rattle.nodes.specs.Node.{expression_at}

abbrev pub number_of : Constant → Option ℤ
number_of (Number n) = Some n
number_of Name = None
number_of Large = None

abbrev pub literal_of : List ℕ → Expression → Option ℤ
literal_of constants (Fixed k) = number_of (constant_at constants (id_of k))
literal_of constants (Slot s) = None
literal_of constants (Unary op e) = None
literal_of constants (Absolute e) = None
literal_of constants (Binary op l r) = None
literal_of constants (Unknown i w) = None

-- the number of an expression that is a constant
unfoldable pub literal : List ℕ → List ℕ → ℕ → Option ℤ
literal nodes constants id = literal_of constants (expression_at nodes id)

-- whether an operator's range is used; that of a product only where one factor is written as a number
abbrev pub covered : List ℕ → List ℕ → BinaryOp → ℕ → ℕ → Bool
covered nodes constants Add l r = true
covered nodes constants Sub l r = true
covered nodes constants Mul l r = is_some (literal nodes constants l) || is_some (literal nodes constants r)
covered nodes constants Div l r = false
covered nodes constants Mod l r = false
covered nodes constants Pow l r = false
covered nodes constants BitAnd l r = false
covered nodes constants BitOr l r = false
covered nodes constants BitXor l r = false
