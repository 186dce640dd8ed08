-- The codes of a job: the place of each operator and reason in its table. A code that its table lacks stands for none.
use Rattle.std.specs.Prelude.{ℕ, zero, suc, [], ◌∷◌, Option, None, slice_get}
use Rattle.lattice.specs.declared.Widening.{Widening}
use Rattle.lattice.specs.declared.Widening.TheVariants.{HeadForm, HeadTerm, UnboundVariable, SymbolSize, ValueWidth, Dependency}
use Rattle.nodes.specs.declared.UnaryOp.{UnaryOp}
use Rattle.nodes.specs.declared.UnaryOp.TheVariants.{Negate, BitwiseNot}
use Rattle.nodes.specs.declared.BinaryOp.{BinaryOp}
use Rattle.nodes.specs.declared.BinaryOp.TheVariants.{Add, Sub, Mul, Div, Mod, Pow, BitAnd, BitOr, BitXor}

abbrev pub unary_coded : ℕ → Option UnaryOp
unary_coded n = slice_get (Negate ∷ BitwiseNot ∷ []) n

abbrev pub binary_coded : ℕ → Option BinaryOp
binary_coded n = slice_get (Add ∷ Sub ∷ Mul ∷ Div ∷ Mod ∷ Pow ∷ BitAnd ∷ BitOr ∷ BitXor ∷ []) n

-- reasons begin with 1
abbrev pub reason_coded : ℕ → Option Widening
reason_coded zero = None
reason_coded (suc n) = slice_get (HeadForm ∷ HeadTerm ∷ UnboundVariable ∷ SymbolSize ∷ ValueWidth ∷ Dependency ∷ []) n
