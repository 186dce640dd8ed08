-- A node that was written reads back, and other rows are as they were; an expression comes back from its node; children have smaller ids
-- whatever a table holds; equal cells are equal nodes.
use Prim.Native.Nat.{ℕ, ◌+◌, ◌*◌, ◌≤◌, ◌<◌}
use native.Mathlib.Omega.{arith}
use native.Mathlib.Nat.{add-zero}
use mathlib.Core.Path.{◌≡◌, refl, subst}
use mathlib.Core.Bool.{Bool, true, false, not, cond, ◌&&◌}
use mathlib.Core.List.{List, [], ◌∷◌}
use borrow.Author.Tests.{ltb-true, lt-ltb, eqb-true, eq-eqb}
use lib.Dec.{ltb, eqb}
use lib.ListN.{length, get_or}
use lib.Seq.{sets}
use Rattle.integers.proofs.Tests.{by_cond, and_left, and_right}
use Rattle.integers.proofs.ListLaws.{Compared, less, more, same, compared}
use Rattle.integers.proofs.Stores.{sets_before, sets_after, sets_in, all_get_d}
use Rattle.lattice.specs.declared.Widening.{Widening}
use Rattle.lattice.specs.declared.Widening.TheVariants.{HeadForm, HeadTerm, UnboundVariable, SymbolSize, ValueWidth, Dependency}
use Rattle.lattice.specs.Value.{widening_number}
use Rattle.nodes.specs.declared.UnaryOp.TheVariants.{Negate, BitwiseNot}
use Rattle.nodes.specs.declared.BinaryOp.{BinaryOp}
use Rattle.nodes.specs.declared.BinaryOp.TheVariants.{Add, Sub, Mul, Div, Mod, Pow, BitAnd, BitOr, BitXor}
use Rattle.nodes.specs.declared.Expression.{Expression}
use Rattle.nodes.specs.declared.Expression.TheVariants.{Constant, Slot, Unary, Absolute, Binary, Unknown}
use Rattle.nodes.specs.declared.Node.{Node}
use Rattle.sizes.specs.Sizes.{node_row}
use Rattle.nodes.specs.Node.{binary_number, flag_of, node, node_of, same_node, widening_of, unread, read_unary, read_binary, expression_of, node_at, nesting_at, put_node}

-- the cells of a row
abbrev row_of : Node → ℕ → List ℕ
row_of n k = n.kind ∷ n.operator ∷ n.left ∷ n.right ∷ k ∷ []

-- ---- its own row

module _ (cells : List ℕ) (id : ℕ) (n : Node) (k : ℕ) (room : node_row * id + 5 ≤ length cells) where
  cell_back : (i : ℕ) → i < 5 → get_or (sets cells (node_row * id) (row_of n k)) (node_row * id + i) 0 ≡ get_or (row_of n k) i 0
  cell_back i h = sets_in 0 (row_of n k) cells (node_row * id) i h room

  first_back : get_or (sets cells (node_row * id) (row_of n k)) (node_row * id) 0 ≡ n.kind
  first_back = subst (λ (i : ℕ). get_or (sets cells (node_row * id) (row_of n k)) i 0 ≡ n.kind) (add-zero (node_row * id)) (cell_back 0 (omega arith))

  pub node_back : node_at (put_node cells id n k) id ≡ n
  unfolding node_at put_node
  node_back = λ d. node (first_back d) (cell_back 1 (omega arith) d) (cell_back 2 (omega arith) d) (cell_back 3 (omega arith) d)

  pub nesting_back : nesting_at (put_node cells id n k) id ≡ k
  unfolding nesting_at put_node
  nesting_back = cell_back 4 (omega arith)

-- ---- another row, whatever the table holds

module _ (cells : List ℕ) (id : ℕ) (n : Node) (k j : ℕ) (other : j ≡ id → ⊥) where
  cell_kept : (i : ℕ) → i < 5 → get_or (sets cells (node_row * id) (row_of n k)) (node_row * j + i) 0 ≡ get_or cells (node_row * j + i) 0
  cell_kept i h = go (compared j id)
    where
      go : Compared j id → get_or (sets cells (node_row * id) (row_of n k)) (node_row * j + i) 0 ≡ get_or cells (node_row * j + i) 0
      go (less b) = sets_before 0 (row_of n k) cells (node_row * id) (node_row * j + i) (omega arith)
      go (more b) = sets_after 0 (row_of n k) cells (node_row * id) (node_row * j + i) (omega arith)
      go (same b) = absurd (other b)

  first_kept : get_or (sets cells (node_row * id) (row_of n k)) (node_row * j) 0 ≡ get_or cells (node_row * j) 0
  first_kept = subst (λ (i : ℕ). get_or (sets cells (node_row * id) (row_of n k)) i 0 ≡ get_or cells i 0) (add-zero (node_row * j)) (cell_kept 0 (omega arith))

  pub node_kept : node_at (put_node cells id n k) j ≡ node_at cells j
  unfolding node_at put_node
  node_kept = λ d. node (first_kept d) (cell_kept 1 (omega arith) d) (cell_kept 2 (omega arith) d) (cell_kept 3 (omega arith) d)

  pub nesting_kept : nesting_at (put_node cells id n k) j ≡ nesting_at cells j
  unfolding nesting_at put_node
  nesting_kept = cell_kept 4 (omega arith)

-- ---- an expression and its node

-- which ids are below: the children's
abbrev pub Below : ℕ → Expression → Type 0
Below id (Constant c) = Unit {0}
Below id (Slot s) = Unit {0}
Below id (Unary op e) = e < id
Below id (Absolute e) = e < id
Below id (Binary op l r) = (l < id) × (r < id)
Below id (Unknown integer reason) = Unit {0}

-- no division and no remainder
abbrev pub Undivided : Expression → Type 0
Undivided (Constant c) = Unit {0}
Undivided (Slot s) = Unit {0}
Undivided (Unary op e) = Unit {0}
Undivided (Absolute e) = Unit {0}
Undivided (Binary op l r) = (op ≡ Div → ⊥) × (op ≡ Mod → ⊥)
Undivided (Unknown integer reason) = Unit {0}

mark_back : (t : Bool) → not (eqb (flag_of t) 0) ≡ t
mark_back true = refl
mark_back false = refl

widening_back : (w : Widening) → widening_of (widening_number w) ≡ w
widening_back HeadForm = refl
widening_back HeadTerm = refl
widening_back UnboundVariable = refl
widening_back SymbolSize = refl
widening_back ValueWidth = refl
widening_back Dependency = refl

binary_back : (op : BinaryOp) (l r : ℕ) → (op ≡ Div → ⊥) → (op ≡ Mod → ⊥) → read_binary (binary_number op) l r ≡ Binary op l r
binary_back Add l r p q = refl
binary_back Sub l r p q = refl
binary_back Mul l r p q = refl
binary_back Div l r p q = absurd (p refl)
binary_back Mod l r p q = absurd (q refl)
binary_back Pow l r p q = refl
binary_back BitAnd l r p q = refl
binary_back BitOr l r p q = refl
binary_back BitXor l r p q = refl

pub expression_back : (e : Expression) (id : ℕ) → Below id e → Undivided e → expression_of (node_of e) id ≡ e
expression_back (Constant c) id h p = refl
expression_back (Slot s) id h p = refl
expression_back (Unary Negate e) id h p = rw (lt-ltb e id h)
expression_back (Unary BitwiseNot e) id h p = rw (lt-ltb e id h)
expression_back (Absolute e) id h p = rw (lt-ltb e id h)
expression_back (Binary op l r) id h p = rw (lt-ltb l id h.0, lt-ltb r id h.1) (binary_back op l r p.0 p.1)
expression_back (Unknown t w) id h p = rw (mark_back t, widening_back w)

-- ---- whatever the cells hold

module _ (n : Node) (id : ℕ) where
  unary_below : n.left < id → Below id (read_unary n.operator n.left)
  unary_below h = all_get_d (Below id) (Unary Negate n.left ∷ Unary BitwiseNot n.left ∷ []) n.operator unread (h, (h, tt)) tt

  binary_below : n.left < id → n.right < id → Below id (read_binary n.operator n.left n.right)
  binary_below h g =
      let l = n.left in
      let r = n.right in
      let b : (l < id) × (r < id) = (h, g) in
      all_get_d (Below id)
      (Binary Add l r ∷ Binary Sub l r ∷ Binary Mul l r ∷ unread ∷ unread ∷ Binary Pow l r ∷ Binary BitAnd l r ∷ Binary BitOr l r ∷ Binary BitXor l r ∷ []) n.operator unread
      (b, (b, (b, (tt, (tt, (b, (b, (b, (b, tt))))))))) tt

  pub children_smaller : Below id (expression_of n id)
  children_smaller =
      all_get_d (Below id)
      (Constant n.left ∷
      Slot n.left ∷
      cond (ltb n.left id) (read_unary n.operator n.left) unread ∷
      cond (ltb n.left id) (Absolute n.left) unread ∷
      cond (ltb n.left id && ltb n.right id) (read_binary n.operator n.left n.right) unread ∷
      Unknown (not (eqb n.operator 0)) (widening_of n.left) ∷
      []) n.kind unread
      (tt, (tt, (unary, (absolute, (binary, (tt, tt)))))) tt
    where
      unary : Below id (cond (ltb n.left id) (read_unary n.operator n.left) unread)
      unary = by_cond (Below id) (ltb n.left id) (λ e. unary_below (ltb-true n.left id e)) (λ e. tt)

      absolute : Below id (cond (ltb n.left id) (Absolute n.left) unread)
      absolute = by_cond (Below id) (ltb n.left id) (λ e. ltb-true n.left id e) (λ e. tt)

      binary : Below id (cond (ltb n.left id && ltb n.right id) (read_binary n.operator n.left n.right) unread)
      binary =
          by_cond (Below id) (ltb n.left id && ltb n.right id)
          (λ e. binary_below (ltb-true n.left id (and_left (ltb n.left id) (ltb n.right id) e)) (ltb-true n.right id (and_right (ltb n.left id) (ltb n.right id) e)))
          (λ e. tt)

-- ---- equal cells

pub same_node_lem : (m n : Node) → same_node m n ≡ true → m ≡ n
same_node_lem m n e =
    let e₁ = and_right (eqb m.kind n.kind) _ e in
    let e₂ = and_right (eqb m.operator n.operator) _ e₁ in
    let k = eqb-true m.kind n.kind (and_left (eqb m.kind n.kind) _ e) in
    let o = eqb-true m.operator n.operator (and_left (eqb m.operator n.operator) _ e₁) in
    let l = eqb-true m.left n.left (and_left (eqb m.left n.left) (eqb m.right n.right) e₂) in
    let r = eqb-true m.right n.right (and_right (eqb m.left n.left) (eqb m.right n.right) e₂) in
    λ d. node (k d) (o d) (l d) (r d)

pub same_self : (m : Node) → same_node m m ≡ true
same_self m = rw (eq-eqb m.kind m.kind refl, eq-eqb m.operator m.operator refl, eq-eqb m.left m.left refl, eq-eqb m.right m.right refl)
