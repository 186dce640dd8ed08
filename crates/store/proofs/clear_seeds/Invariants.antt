-- `store::clear_seeds` meets its contract.
use mathlib.Core.Path.{◌≡◌}
use Rattle.store.specs.Calls.{bottoms}
use Rattle.store.proofs.clear_seeds.Given as goal

abbrev pub invariant-loop-j : goal.invariant-loop-j
invariant-loop-j l = l.seeds ≡ bottoms l.initial.seeds l.from l.j
