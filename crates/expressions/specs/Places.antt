-- Where the code finds the older expression that `older` charges for: it looks first and pays afterwards.
use Rattle.std.specs.Prelude.{ℕ, zero, suc, ◌+◌, cond, List}
use Rattle.nodes.specs.declared.Node.{Node}
use Rattle.nodes.specs.Node.{node_at, same_node}

-- how many of n rows, from the row `at` on, come before the first that has these cells: all of them where none has
unfoldable pub first_node : List ℕ → Node → ℕ → ℕ → ℕ
first_node nodes e at zero = 0
first_node nodes e at (suc n) = cond (same_node (node_at nodes at) e) 0 (suc (first_node nodes e (at + 1) n))
