-- `bindings::assigned` meets its contract.
use Rattle.integers.specs.Lists.{from}
use Rattle.bindings.specs.Bindings.{assigned}
use Rattle.bindings.proofs.assigned.Goals as goal

pub returns : goal.returns
unfolding from assigned
returns c = c.expression.ensures
