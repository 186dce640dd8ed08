-- `report::lines_before` meets its contract.
use Prim.Native.Nat.{◌*◌, ◌≤◌}
use mathlib.Core.Path.{◌≡◌}
use Rattle.report.specs.Places.{lines_before}
use Rattle.report.proofs.lines_before.Given as goal

abbrev pub invariant-loop-rule : goal.invariant-loop-rule
invariant-loop-rule l = (l.lines ≡ lines_before l.rules l.rule) × (l.lines ≤ 32 * l.rule)
