-- `rules::put_items` meets its contract.
use mathlib.Core.List.{map}
use lib.Seq.{sets}
use Rattle.rules.specs.Rule.{flat, cell}
use Rattle.rules.proofs.CodeLaws.{Putting}
use Rattle.rules.proofs.put_items.Given as goal

abbrev pub invariant-loop-i : goal.invariant-loop-i
invariant-loop-i g l =
    Putting g.T.Item.item_cells g.T.Item.WIDTH (sets l.initial.cells l.at (map cell (flat g.T.Item.item_cells l.items))) l.cells l.at l.items l.i
