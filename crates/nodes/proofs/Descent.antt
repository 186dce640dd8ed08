-- Descent through a table of expressions: children have smaller ids, whatever the table holds, so that any depth over an id is enough for it.
use Prim.Native.Nat.{ℕ, zero, suc, ◌<◌}
use native.Mathlib.Omega.{arith}
use mathlib.Core.Path.{◌≡◌, sym, subst, ◌∙◌}
use mathlib.Core.List.{List}
use Rattle.nodes.specs.declared.UnaryOp.{UnaryOp}
use Rattle.nodes.specs.declared.BinaryOp.{BinaryOp}
use Rattle.nodes.specs.declared.Expression.{Expression}
use Rattle.nodes.specs.declared.Expression.TheVariants.{Unary, Absolute, Binary}
use Rattle.nodes.specs.Node.{node_at, expression_at}
use Rattle.nodes.proofs.NodeLaws.{Below, children_smaller}

-- what the children's ids are smaller than
module _ (cells : List ℕ) (id : ℕ) {x : Expression} (q : x ≡ expression_at cells id) where
  pub below : (y : Expression) → x ≡ y → Below id y
  unfolding expression_at
  below y p = subst (Below id) (sym q ∙ p) (children_smaller (node_at cells id) id)

  pub unary_smaller : {op : UnaryOp} {e : ℕ} → x ≡ Unary op e → e < id
  unary_smaller {op} {e} p = below (Unary op e) p

  pub absolute_smaller : {e : ℕ} → x ≡ Absolute e → e < id
  absolute_smaller {e} p = below (Absolute e) p

  pub binary_smaller : {op : BinaryOp} {l r : ℕ} → x ≡ Binary op l r → (l < id) × (r < id)
  binary_smaller {op} {l} {r} p = below (Binary op l r) p

-- what is defined by a depth, each step of which asks for the children alone: `step` of any two functions that agree below an id is the same
module _ {A : Type 0} (step : (ℕ → A) → ℕ → A) (near : (f g : ℕ → A) (id : ℕ) → ((j : ℕ) → j < id → f j ≡ g j) → step f id ≡ step g id)
    (deep : ℕ → ℕ → A) (opens : (n id : ℕ) → deep (suc n) id ≡ step (deep n) id) where
  same_depth : (n m id : ℕ) → id < n → id < m → deep n id ≡ deep m id
  same_depth zero m id h k = absurd (omega arith)
  same_depth (suc n) zero id h k = absurd (omega arith)
  same_depth (suc n) (suc m) id h k =
      opens n id ∙ near (deep n) (deep m) id (λ j l. same_depth n m j (omega arith) (omega arith)) ∙ sym (opens m id)

  -- one step down from an id, with the depth that each child wants
  pub descends : (id : ℕ) → deep (suc id) id ≡ step (λ j. deep (suc j) j) id
  descends id = opens id id ∙ near (deep id) (λ j. deep (suc j) j) id (λ j l. same_depth id (suc j) j l (omega arith))
