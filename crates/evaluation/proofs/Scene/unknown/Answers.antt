-- `evaluation::Scene::unknown` meets its contract.
use mathlib.Core.Path.{ap}
use Rattle.limits.proofs.Answering.{exits}
use Rattle.lattice.specs.Value.{value_of}
use Rattle.limits.proofs.Seen.{seen_went, seen_broke}
use Rattle.evaluation.specs.Operands.{sees}
use Rattle.evaluation.proofs.Operands.{sees_going}
use Rattle.evaluation.proofs.Scene.unknown.Goals as goal

pub returns-in_err-restrict : goal.returns-in_err-restrict
returns-in_err-restrict c = exits _ c.from_residual.ensures.1 (ap sees (seen_broke value_of (rw c.unknown.ensures at c.restrict.ensures) c.in_err-restrict.was))

pub returns : goal.returns
returns c = sees_going (value_of c.in_ok-restrict.field-0) c.from.ensures (seen_went value_of (rw c.unknown.ensures at c.restrict.ensures) c.in_ok-restrict.was)
