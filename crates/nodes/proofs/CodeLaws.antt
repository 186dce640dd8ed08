-- What the code of nodes reads and writes is what the definitions say.
use Prim.Native.Nat.{ℕ, min, ◌+◌, ◌-◌, ◌*◌, ◌≤◌, ◌<◌}
use native.Mathlib.Omega.{arith}
use native.Mathlib.Nat.{add-zero}
use native.Mathlib.Numerals.{towards_suc}
use native.Mathlib.Decide.{dec_le}
use mathlib.Core.Path.{◌≡◌, refl, sym, ap, ◌∙◌}
use mathlib.Core.List.{List, [], ◌∷◌}
use borrow.Author.Tests.{lt-ltb, le-ltb}
use lib.Dec.{ltb}
use lib.ListN.{length, get_or, take, drop, set, length-drop, get_or-eq_default}
use lib.Seq.{sets, take_all, get_or-drop}
use Rattle.integers.proofs.Tests.{and_false}
use Rattle.integers.proofs.Stores.{sets_min}
use Rattle.nodes.specs.declared.Expression.{Expression}
use Rattle.nodes.specs.declared.Expression.TheVariants.{Absolute}
use Rattle.nodes.specs.declared.Node.{Node}
use Rattle.sizes.specs.Sizes.{node_row}
use Rattle.nodes.specs.Node.{node, unread, read_unary, read_binary, expression_of, node_at, nesting_at, expression_at, put_node}

-- ---- from cells to an expression

module _ (n : Node) (id : ℕ) where
  pub as_unary : {x : Expression} → n.left < id → n.kind ≡ 2 → x ≡ read_unary n.operator n.left → x ≡ expression_of n id
  as_unary h e d = rw (e, lt-ltb n.left id h) d

  pub as_absolute : n.left < id → n.kind ≡ 3 → Absolute n.left ≡ expression_of n id
  as_absolute h e = rw (e, lt-ltb n.left id h)

  pub as_binary : {x : Expression} → n.left < id → n.right < id → n.kind ≡ 4 → x ≡ read_binary n.operator n.left n.right → x ≡ expression_of n id
  as_binary h g e d = rw (e, lt-ltb n.left id h, lt-ltb n.right id g) d

  -- a child that is not below it
  pub no_unary : id ≤ n.left → n.kind ≡ 2 → unread ≡ expression_of n id
  no_unary h e = rw (e, le-ltb n.left id h)

  pub no_absolute : id ≤ n.left → n.kind ≡ 3 → unread ≡ expression_of n id
  no_absolute h e = rw (e, le-ltb n.left id h)

  pub no_left : id ≤ n.left → n.kind ≡ 4 → unread ≡ expression_of n id
  no_left h e = rw (e, le-ltb n.left id h)

  pub no_right : id ≤ n.right → n.kind ≡ 4 → unread ≡ expression_of n id
  no_right h e = rw (e, le-ltb n.right id h, and_false (ltb n.left id))

-- ---- a row, which begins at the table's end where it would begin beyond

module _ (cells : List ℕ) (id at : ℕ) (start : at ≡ min (node_row * id) (length cells)) where
  word : (k : ℕ) → get_or cells (at + k) 0 ≡ get_or cells (node_row * id + k) 0
  word k = elim (dec_le (node_row * id) (length cells)) [
    | yes h ↦ let e : at ≡ node_row * id = omega arith in ap (λ (n : ℕ). get_or cells (n + k) 0) e
    | no h ↦ get_or-eq_default cells 0 {n = at + k} (omega arith) ∙ sym (get_or-eq_default cells 0 {n = node_row * id + k} (omega arith))
  ]

  first : get_or cells at 0 ≡ get_or cells (node_row * id) 0
  first = ap (λ (n : ℕ). get_or cells n 0) (sym (add-zero at)) ∙ word 0 ∙ ap (λ (n : ℕ). get_or cells n 0) (add-zero (node_row * id))

  pub node_read : {k o l r : ℕ} {n : Node} → k ≡ get_or cells at 0 → o ≡ get_or cells (at + 1) 0 → l ≡ get_or cells (at + 2) 0 → r ≡ get_or cells (at + 3) 0 →
      n ≡ node k o l r → n ≡ node_at cells id
  unfolding node_at
  node_read ek eo el er e = e ∙ rw (ek, eo, el, er, first, word 1, word 2, word 3)

  -- the cells of a row that lies in the table, from where it begins on
  rest : take (length cells - at) (drop at cells) ≡ drop at cells
  rest = take_all (length cells - at) (drop at cells) (omega (arith, length-drop at cells))

  pub node_inside : let l = take (length cells - at) (drop at cells) in node (get_or l 0 0) (get_or l 1 0) (get_or l 2 0) (get_or l 3 0) ≡ node_at cells id
  unfolding node_at
  node_inside = rw (rest, get_or-drop at cells 0 0, get_or-drop at cells 1 0, get_or-drop at cells 2 0, get_or-drop at cells 3 0, word 0, word 1, word 2, word 3, add-zero (node_row * id)) refl

  pub nesting_read : {n : ℕ} → n ≡ get_or cells (at + 4) 0 → n ≡ nesting_at cells id
  unfolding nesting_at
  nesting_read e = e ∙ word 4

  pub node_put : (n : Node) (nesting : ℕ) {l₁ l₂ l₃ l₄ r : List ℕ} → l₁ ≡ set cells at n.kind → l₂ ≡ set l₁ (at + 1) n.operator →
      l₃ ≡ set l₂ (at + 2) n.left → l₄ ≡ set l₃ (at + 3) n.right → r ≡ set l₄ (at + 4) nesting → r ≡ put_node cells id n nesting
  unfolding put_node
  node_put n nesting p₁ p₂ p₃ p₄ p =
      p ∙ rw (p₄, p₃, p₂, p₁) (simp towards_suc)
      ∙ ap (λ (b : ℕ). sets cells b (n.kind ∷ n.operator ∷ n.left ∷ n.right ∷ nesting ∷ [])) start
      ∙ sets_min (n.kind ∷ n.operator ∷ n.left ∷ n.right ∷ nesting ∷ []) cells (node_row * id)

pub expression_read : (cells : List ℕ) (id : ℕ) {n : Node} {x : Expression} → n ≡ node_at cells id → x ≡ expression_of n id → x ≡ expression_at cells id
unfolding expression_at
expression_read cells id p q = q ∙ ap (λ (m : Node). expression_of m id) p
