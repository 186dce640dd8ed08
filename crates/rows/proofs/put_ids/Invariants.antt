-- `rows::put_ids` meets its contract.
use Prim.Native.Nat.{◌+◌, ◌-◌}
use mathlib.Core.Path.{◌≡◌}
use lib.ListN.{length}
use lib.Seq.{sets}
use Rattle.integers.proofs.Stores.{Writing}
use Rattle.sizes.specs.Sizes.{value_row}
use Rattle.rows.specs.Row.{padded}
use Rattle.rows.proofs.put_ids.Given as goal

abbrev pub invariant-loop-j : goal.invariant-loop-j
invariant-loop-j l =
    (length l.cells ≡ length l.initial.cells) × Writing (sets l.initial.cells (l.at + 7) (padded (value_row - 7) l.ids)) l.cells (l.at + 7) (padded (value_row - 7) l.ids) l.j
