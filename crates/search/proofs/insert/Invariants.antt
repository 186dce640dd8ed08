-- `search::insert` meets its contract.
use mathlib.Core.Path.{◌≡◌}
use lib.ListN.{length}
use Rattle.integers.specs.Lists.{inserted}
use Rattle.search.proofs.Inserted.{Inserting}
use Rattle.search.proofs.insert.Given as goal

abbrev pub invariant-loop-i : goal.invariant-loop-i
invariant-loop-i g l = (length l.table ≡ length l.initial.table) × Inserting (inserted l.initial.table l.at l.count l.fn.value) l.table l.i l.count l.carried
