-- The slot that an expression narrows is one that it reads. So it is one of n for every expression whose slots are, as those of a rule that was
-- checked: `Reads` is any such property, which the children of an expression have too.
use Prim.Native.Nat.{ℕ, ◌<◌}
use mathlib.Core.Path.{◌≡◌, refl}
use mathlib.Core.List.{List}
use Rattle.std.specs.Prelude.{Option, Some, None}
use lib.IntN.{ℤ}
use Rattle.nodes.specs.declared.BinaryOp.{BinaryOp}
use Rattle.nodes.specs.declared.BinaryOp.TheVariants.{Add, Sub, Mul, Div, Mod, Pow, BitAnd, BitOr, BitXor}
use Rattle.nodes.specs.declared.Expression.{Expression}
use Rattle.nodes.specs.declared.Expression.TheVariants.{Constant, Slot, Unary, Absolute, Binary, Unknown}
use Rattle.nodes.specs.Node.{expression_at}
use Rattle.operators.specs.Literal.{literal}
use Rattle.affine.specs.declared.Shape.{Shape}
use Rattle.affine.specs.declared.Shape.TheVariants.{Sum, Reversed}
use Rattle.affine.specs.Affine.{shaped, difference_shape, binary_shape, shape_of, affine}
use Rattle.guards.proofs.Live.{AffineIn}

module _ (nodes constants : List ℕ) (n : ℕ) (Reads : ℕ → Type 0) (slot : (id k : ℕ) → Reads id → expression_at nodes id ≡ Slot k → k < n) where
  -- in any shape, whatever the constant is
  shaped_in : (shape : Shape) (id : ℕ) → Reads id → (e : Expression) → expression_at nodes id ≡ e → (c : Option ℤ) → AffineIn n (shaped shape e c)
  shaped_in shape id h (Constant k) q c = tt
  shaped_in shape id h (Slot k) q None = tt
  shaped_in shape id h (Slot k) q (Some c) = slot id k h q
  shaped_in shape id h (Unary op e) q c = tt
  shaped_in shape id h (Absolute e) q c = tt
  shaped_in shape id h (Binary op l r) q c = tt
  shaped_in shape id h (Unknown i w) q c = tt

  module _ (l r : ℕ) (left : Reads l) (right : Reads r) where
    difference_in : (e : Expression) → expression_at nodes l ≡ e → (a b : Option ℤ) → AffineIn n (difference_shape e (expression_at nodes r) a b)
    difference_in (Constant k) q a b = shaped_in Reversed r right (expression_at nodes r) refl a
    difference_in (Slot k) q a None = tt
    difference_in (Slot k) q a (Some b) = slot l k left q
    difference_in (Unary op e) q a b = shaped_in Reversed r right (expression_at nodes r) refl a
    difference_in (Absolute e) q a b = shaped_in Reversed r right (expression_at nodes r) refl a
    difference_in (Binary op x y) q a b = shaped_in Reversed r right (expression_at nodes r) refl a
    difference_in (Unknown i w) q a b = shaped_in Reversed r right (expression_at nodes r) refl a

    binary_in : (op : BinaryOp) → AffineIn n (binary_shape nodes constants op l r)
    binary_in Add = shaped_in Sum l left (expression_at nodes l) refl (literal nodes constants r)
    binary_in Sub = difference_in (expression_at nodes l) refl (literal nodes constants l) (literal nodes constants r)
    binary_in Mul = tt
    binary_in Div = tt
    binary_in Mod = tt
    binary_in Pow = tt
    binary_in BitAnd = tt
    binary_in BitOr = tt
    binary_in BitXor = tt

  pub affine_in : ((id l r : ℕ) (op : BinaryOp) → Reads id → expression_at nodes id ≡ Binary op l r → Reads l × Reads r) → (id : ℕ) → Reads id → AffineIn n (affine nodes constants id)
  unfolding affine
  affine_in children id h = go (expression_at nodes id) refl
    where
      go : (e : Expression) → expression_at nodes id ≡ e → AffineIn n (shape_of nodes constants e)
      go (Constant k) q = tt
      go (Slot k) q = slot id k h q
      go (Unary op e) q = tt
      go (Absolute e) q = tt
      go (Binary op l r) q = binary_in l r (children id l r op h q).0 (children id l r op h q).1 op
      go (Unknown i w) q = tt
