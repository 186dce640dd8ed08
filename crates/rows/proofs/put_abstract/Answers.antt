-- `rows::put_abstract` meets its contract.
use native.Mathlib.Omega.{arith}
use Rattle.lattice.specs.Value.{value_of}
use Rattle.rows.proofs.CodeLaws.{put_at, put_whole}
use Rattle.rows.proofs.put_abstract.Goals as goal

pub returns-then-cells-at-ge-VALUE_ROW : goal.returns-then-cells-at-ge-VALUE_ROW
returns-then-cells-at-ge-VALUE_ROW c = put_whole c.args.cells.now c.args.row c.start-at.result c.start-at.ensures (value_of c.args.value) (omega arith) (omega arith) c.put_row.ensures

pub returns : goal.returns
returns c = put_at c.args.cells.now c.args.row c.start-at.result c.start-at.ensures (value_of c.args.value) c.put_row-2.ensures
