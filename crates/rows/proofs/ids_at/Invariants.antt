-- `rows::ids_at` meets its contract.
use Prim.Native.Nat.{◌+◌}
use mathlib.Core.Path.{◌≡◌}
use lib.ListN.{length, get_or}
use Rattle.integers.proofs.Stores.{Filled}
use Rattle.rows.specs.Row.{id_of}
use Rattle.rows.proofs.ids_at.Given as goal

abbrev pub invariant-loop-j : goal.invariant-loop-j
invariant-loop-j l = (length l.ids ≡ 16) × Filled 0 (λ k. id_of (get_or l.cells (l.at + 7 + k) 0)) l.ids l.j
