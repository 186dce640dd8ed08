-- `engine::move_cells` meets its contract.
use native.Mathlib.Omega.{arith}
use Rattle.integers.proofs.Stores.{writing_none}
use Rattle.engine.proofs.RunLaws.{cell_moved, cells_moved}
use Rattle.engine.proofs.move_cells.Goals as goal

pub loop-i-init : goal.loop-i-init
loop-i-init c = writing_none _ _ _

pub loop-i-preserved : goal.loop-i-preserved
loop-i-preserved c = cell_moved _ c.loop-i-test.true c.loop-i.invariant c.cell_at.ensures c.put_cell.ensures

pub returns : goal.returns
returns c = cells_moved _ c.loop-i.invariant (omega arith)
