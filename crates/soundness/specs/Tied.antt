-- How a store's tables stand to what its ids stand for: the keys of constants, the trees of expressions, and the rules made of them. For any
-- `keys` and `trees`; what the accepted calls make of them is one.
use Rattle.std.specs.Prelude.{ℕ, ◌^◌, ◌<◌, ◌≡◌, ◌⊎◌, List, ℤ}
use Rattle.std.proofs.Math.Option.{Option, some, none}
use Rattle.interval.specs.declared.Constant.TheVariants.{Number as number, Name, Large}
use Rattle.lattice.specs.Constants.{constant_at}
use Rattle.keys.specs.Key.{Key, name}
use Rattle.keys.specs.Key as keys
use Rattle.nodes.specs.declared.Expression.{Expression}
use Rattle.nodes.specs.declared.Expression.TheVariants.{Constant, Slot, Unary, Absolute, Binary, Unknown}
use Rattle.nodes.specs.Node.{expression_at}
use Rattle.rules.specs.declared.Binding.{Binding}
use Rattle.rules.specs.declared.Binding.TheVariants.{Positive, Assign, Range, Aggregate}
use Rattle.rules.specs.declared.Guard.{Guard}
use Rattle.rules.specs.declared.Guard.TheVariants.{Compare, Membership}
use Rattle.rules.specs.declared.Head.{Head}
use Rattle.soundness.specs.Plain.{Tree, nothing, constant, slot, unary, absolute, binary, unknown, ProperKey, PlainBinding, positive, assign, range, aggregate, PlainGuard, compare, member, PlainHead}

-- ---- what a call says, with trees for ids

abbrev pub key_tree : Option Key → Tree
key_tree none = nothing
key_tree (some k) = constant k

abbrev pub tree_of : (ℕ → Option Key) → (ℕ → Tree) → Expression → Tree
tree_of key tree (Constant k) = key_tree (key k)
tree_of key tree (Slot s) = slot s
tree_of key tree (Unary op e) = unary op (tree e)
tree_of key tree (Absolute e) = absolute (tree e)
tree_of key tree (Binary op l r) = binary op (tree l) (tree r)
tree_of key tree (Unknown integer reason) = unknown integer

abbrev pub plain_binding : (ℕ → Tree) → Binding → PlainBinding
plain_binding tree (Positive s a) = positive s a
plain_binding tree (Assign s e) = assign s (tree e)
plain_binding tree (Range s low high) = range s (tree low) (tree high)
plain_binding tree (Aggregate s f) = aggregate s f

abbrev pub plain_guard : (ℕ → Tree) → Guard → PlainGuard
plain_guard tree (Compare l relation r) = compare (tree l) relation (tree r)
plain_guard tree (Membership s low high) = member s (tree low) (tree high)

abbrev pub plain_head : (ℕ → Tree) → Head → PlainHead
plain_head tree h = record { argument = h.argument; value = tree h.value }

-- ---- the ties

-- the constants' table has the keys. A retained key has one id, since a meet goes by ids
pub record Constants (key : ℕ → Option Key) (cells : List ℕ) : Type 0 where
  pub numbers : (i : ℕ) (z : ℤ) → key i ≡ some (keys.number z) → constant_at cells i ≡ number z
  pub names : (i : ℕ) (s : List ℕ) → key i ≡ some (name s) → (constant_at cells i ≡ Name) ⊎ (constant_at cells i ≡ Large)
  pub one : (i j : ℕ) (k : Key) → key i ≡ some k → key j ≡ some k → (constant_at cells i ≡ Large → ⊥) → (constant_at cells j ≡ Large → ⊥) → i ≡ j
  pub proper : (i : ℕ) (k : Key) → key i ≡ some k → ProperKey k
  pub short : (i : ℕ) (k : Key) → key i ≡ some k → i < 2 ^ 16

-- an id stands for nothing, or for what the expressions' table has there
pub record Trees (key : ℕ → Option Key) (tree : ℕ → Tree) (nodes : List ℕ) : Type 0 where
  pub at : (i : ℕ) → (tree i ≡ nothing) ⊎ (tree i ≡ tree_of key tree (expression_at nodes i))
