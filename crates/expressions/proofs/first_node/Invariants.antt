-- `expressions::first_node` meets its contract.
use Rattle.std.proofs.Common.{ℕ, ◌<◌, ◌*◌}
use Rattle.expressions.proofs.CodeLaws.{Other}
use Rattle.expressions.proofs.first_node.Given as goal

abbrev pub invariant-loop-pair : goal.invariant-loop-pair
invariant-loop-pair l = (k : ℕ) → k < 2 * l.pair → Other l.nodes l.node k
