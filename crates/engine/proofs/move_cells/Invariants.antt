-- `engine::move_cells` meets its contract.
use lib.Seq.{sets}
use Rattle.integers.proofs.Stores.{Writing}
use Rattle.rows.specs.Row.{padded}
use Rattle.engine.proofs.move_cells.Given as goal

abbrev pub invariant-loop-i : goal.invariant-loop-i
invariant-loop-i l = Writing (sets l.fn.to 0 (padded l.count l.from)) l.to 0 (padded l.count l.from) l.i
