-- Expressions as rows of a lent table: four cells that tell the expression, and a fifth for its nesting.
use Rattle.std.specs.Prelude.{ℕ, ◌+◌, ◌*◌, Bool, true, false, cond, ◌&&◌, not, List, [], ◌∷◌, ltb, eqb, get_or}
use Rattle.sizes.specs.Sizes as size
use Rattle.std.proofs.lemmas.List.Edits.{sets}
use Rattle.lattice.specs.declared.Widening.{Widening}
use Rattle.lattice.specs.declared.Widening.TheVariants.{HeadForm, HeadTerm, UnboundVariable, SymbolSize, ValueWidth, Dependency}
use Rattle.lattice.specs.Value.{widening_number}
use Rattle.nodes.specs.declared.UnaryOp.{UnaryOp}
use Rattle.nodes.specs.declared.UnaryOp.TheVariants.{Negate, BitwiseNot}
use Rattle.nodes.specs.declared.BinaryOp.{BinaryOp}
use Rattle.nodes.specs.declared.BinaryOp.TheVariants.{Add, Sub, Mul, Div, Mod, Pow, BitAnd, BitOr, BitXor}
use Rattle.nodes.specs.declared.Expression.{Expression}
use Rattle.nodes.specs.declared.Expression.TheVariants.{Constant, Slot, Unary, Absolute, Binary, Unknown}
use Rattle.nodes.specs.declared.Node.{Node}

-- ---- from an expression to its cells

-- the numbers that the job format has
abbrev pub unary_number : UnaryOp → ℕ
unary_number Negate = 0
unary_number BitwiseNot = 1

abbrev pub binary_number : BinaryOp → ℕ
binary_number Add = 0
binary_number Sub = 1
binary_number Mul = 2
binary_number Div = 3
binary_number Mod = 4
binary_number Pow = 5
binary_number BitAnd = 6
binary_number BitOr = 7
binary_number BitXor = 8

abbrev pub flag_of : Bool → ℕ
flag_of false = 0
flag_of true = 1

abbrev pub node : ℕ → ℕ → ℕ → ℕ → Node
node k o l r = record { kind = k; operator = o; left = l; right = r }

abbrev pub node_of : Expression → Node
node_of (Constant id) = node 0 0 id 0
node_of (Slot s) = node 1 0 s 0
node_of (Unary op e) = node 2 (unary_number op) e 0
node_of (Absolute e) = node 3 0 e 0
node_of (Binary op l r) = node 4 (binary_number op) l r
node_of (Unknown integer reason) = node 5 (flag_of integer) (widening_number reason) 0

-- `Expression: PartialEq`
abbrev pub same_node : Node → Node → Bool
same_node m n = eqb m.kind n.kind && (eqb m.operator n.operator && (eqb m.left n.left && eqb m.right n.right))

-- ---- and back

-- by the reason's number. Any other reads as the first
abbrev pub widening_of : ℕ → Widening
widening_of n = get_or (HeadForm ∷ HeadForm ∷ HeadTerm ∷ UnboundVariable ∷ SymbolSize ∷ ValueWidth ∷ Dependency ∷ []) n HeadForm

-- what cells read as that no call writes: anything may come of it
abbrev pub unread : Expression
unread = Unknown false HeadForm

abbrev pub read_unary : ℕ → ℕ → Expression
read_unary op e = get_or (Unary Negate e ∷ Unary BitwiseNot e ∷ []) op unread

-- without division and remainder
abbrev pub read_binary : ℕ → ℕ → ℕ → Expression
read_binary op l r =
    get_or
    (Binary Add l r ∷
    Binary Sub l r ∷
    Binary Mul l r ∷
    unread ∷
    unread ∷
    Binary Pow l r ∷
    Binary BitAnd l r ∷
    Binary BitOr l r ∷
    Binary BitXor l r ∷
    []) op unread

-- 01: "its children, whose ids are always smaller"
abbrev pub expression_of : Node → ℕ → Expression
expression_of n id =
    get_or
    (Constant n.left ∷
    Slot n.left ∷
    cond (ltb n.left id) (read_unary n.operator n.left) unread ∷
    cond (ltb n.left id) (Absolute n.left) unread ∷
    cond (ltb n.left id && ltb n.right id) (read_binary n.operator n.left n.right) unread ∷
    Unknown (not (eqb n.operator 0)) (widening_of n.left) ∷
    []) n.kind unread

-- ---- a table of rows

unfoldable pub node_at : List ℕ → ℕ → Node
node_at cells id = node (get_or cells (size.node_row * id) 0) (get_or cells (size.node_row * id + 1) 0) (get_or cells (size.node_row * id + 2) 0) (get_or cells (size.node_row * id + 3) 0)

unfoldable pub nesting_at : List ℕ → ℕ → ℕ
nesting_at cells id = get_or cells (size.node_row * id + 4) 0

unfoldable pub expression_at : List ℕ → ℕ → Expression
expression_at cells id = expression_of (node_at cells id) id

unfoldable pub put_node : List ℕ → ℕ → Node → ℕ → List ℕ
put_node cells id n nesting = sets cells (size.node_row * id) (n.kind ∷ n.operator ∷ n.left ∷ n.right ∷ nesting ∷ [])
