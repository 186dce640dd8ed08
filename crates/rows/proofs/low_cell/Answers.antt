-- `rows::low_cell` meets its contract.
use mathlib.Core.Path.{◌≡◌}
use borrow.Author.Rules.{rules}
use mir.Val.{to_z, of_z}
use mir.Syntax.{w32}
use Rattle.rows.proofs.low_cell.Goals as goal

pub returns-in-Bounded : goal.returns-in-Bounded
returns-in-Bounded c =
    let e : to_z w32 (of_z w32 c.in-Bounded.low) ≡ c.in-Bounded.low = search rules in
    rw c.in-Bounded.is (rw e at c.to_cell.ensures)
