-- A row writes a number only where its node is a constant's.
use Prim.Native.Nat.{ℕ, zero, suc}
use mathlib.Core.Path.{◌≡◌, refl, sym, ap}
use mathlib.Core.Bool.{Bool, true, false}
use mathlib.Core.List.{List}
use lib.Dec.{ltb}
use Rattle.std.specs.Prelude.{cond, ◌&&◌, None}
use Rattle.lattice.specs.Constants.{constant_at}
use Rattle.rows.specs.Row.{id_of}
use Rattle.nodes.specs.declared.Node.{Node}
use Rattle.nodes.specs.declared.Expression.{Expression}
use Rattle.nodes.specs.declared.Expression.TheVariants.{Absolute}
use Rattle.nodes.specs.Node.{unread, read_unary, read_binary, expression_of, node_at, expression_at}
use Rattle.operators.specs.Literal.{number_of, literal_of, literal}

module _ (constants : List ℕ) where
  unary_writes : (op e : ℕ) → literal_of constants (read_unary op e) ≡ None
  unary_writes zero e = refl
  unary_writes (suc zero) e = refl
  unary_writes (suc (suc op)) e = refl

  binary_writes : (op l r : ℕ) → literal_of constants (read_binary op l r) ≡ None
  binary_writes zero l r = refl
  binary_writes (suc zero) l r = refl
  binary_writes (suc (suc zero)) l r = refl
  binary_writes (suc (suc (suc zero))) l r = refl
  binary_writes (suc (suc (suc (suc zero)))) l r = refl
  binary_writes (suc (suc (suc (suc (suc zero))))) l r = refl
  binary_writes (suc (suc (suc (suc (suc (suc zero)))))) l r = refl
  binary_writes (suc (suc (suc (suc (suc (suc (suc zero))))))) l r = refl
  binary_writes (suc (suc (suc (suc (suc (suc (suc (suc zero)))))))) l r = refl
  binary_writes (suc (suc (suc (suc (suc (suc (suc (suc (suc op))))))))) l r = refl

  below_writes : (b : Bool) (e : Expression) → literal_of constants e ≡ None → literal_of constants (cond b e unread) ≡ None
  below_writes true e h = h
  below_writes false e h = refl

  kind_writes : (kind op l r id : ℕ) → literal_of constants (expression_of (record { kind = suc kind; operator = op; left = l; right = r }) id) ≡ None
  kind_writes zero op l r id = refl
  kind_writes (suc zero) op l r id = below_writes (ltb l id) _ (unary_writes op l)
  kind_writes (suc (suc zero)) op l r id = below_writes (ltb l id) (Absolute l) refl
  kind_writes (suc (suc (suc zero))) op l r id = below_writes (ltb l id && ltb r id) _ (binary_writes op l r)
  kind_writes (suc (suc (suc (suc zero)))) op l r id = refl
  kind_writes (suc (suc (suc (suc (suc kind))))) op l r id = refl

  module _ (nodes : List ℕ) (id : ℕ) {n : Node} (h : n ≡ node_at nodes id) where
    pub number_written : n.kind ≡ 0 → number_of (constant_at constants (id_of n.left)) ≡ literal nodes constants id
    unfolding literal expression_at
    number_written e = rw (← h, e)

    pub none_written : (n.kind ≡ 0 → ⊥) → None ≡ literal nodes constants id
    unfolding literal expression_at
    none_written e = go n.kind n.operator n.left n.right refl
      where
        go : (kind op l r : ℕ) → n ≡ record { kind = kind; operator = op; left = l; right = r } → None ≡ literal nodes constants id
        go zero op l r d = absurd (e (ap (λ (m : Node). m.kind) d))
        go (suc kind) op l r d = rw (← h, d) (sym (kind_writes kind op l r id))
