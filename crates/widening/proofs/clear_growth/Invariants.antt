-- `widening::clear_growth` meets its contract.
use mathlib.Core.Path.{◌≡◌}
use Rattle.widening.specs.Widening.{no_growth}
use Rattle.widening.proofs.clear_growth.Given as goal

abbrev pub invariant-loop-i : goal.invariant-loop-i
invariant-loop-i l = l.cells ≡ no_growth l.initial.cells l.i
