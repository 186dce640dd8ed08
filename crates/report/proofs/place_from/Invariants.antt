-- `report::place_from` meets its contract.
use Prim.Native.Nat.{◌+◌}
use mathlib.Core.Path.{◌≡◌}
use Rattle.report.specs.Places.{lines_before}
use Rattle.report.proofs.place_from.Given as goal

abbrev pub invariant-loop-rule : goal.invariant-loop-rule
invariant-loop-rule l = lines_before l.rules l.rule + l.left ≡ lines_before l.rules l.from + l.n
