-- `rounds::move_rows` meets its contract.
use mathlib.Core.Path.{◌≡◌}
use Rattle.rows.specs.Row.{moved}
use Rattle.rows.proofs.move_rows.Given as goal

abbrev pub invariant-loop-i : goal.invariant-loop-i
invariant-loop-i l = l.to ≡ moved l.from l.i l.fn.to
