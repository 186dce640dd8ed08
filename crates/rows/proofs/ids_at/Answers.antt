-- `rows::ids_at` meets its contract.
use native.Mathlib.Omega.{arith}
use mathlib.Core.Path.{ap}
use lib.ListN.{length-set}
use borrow.Author.Rules.{rules}
use Rattle.integers.proofs.Stores.{filled_none, filled_more}
use Rattle.rows.specs.Row.{id_of}
use Rattle.rows.proofs.CodeLaws.{ids_read}
use Rattle.rows.proofs.ids_at.Goals as goal

pub loop-j-init : goal.loop-j-init
loop-j-init c = (search rules, filled_none _ _ _)

pub loop-j-preserved : goal.loop-j-preserved
loop-j-preserved c =
    let v = c.loop-j.invariant in
    (simp length-set v.0, filled_more v.1 (omega arith) (ap id_of c.cell_at.ensures))

pub returns : goal.returns
returns c = ids_read c.args.cells.now c.args.at c.loop-j.invariant.1 c.loop-j.invariant.0 (omega arith)
