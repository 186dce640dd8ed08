-- `rounds::move_rows` meets its contract.
use native.Mathlib.Numerals.{add-one}
use mathlib.Core.Path.{refl}
use Rattle.rows.specs.Row.{moved}
use Rattle.rows.proofs.move_rows.Goals as goal

pub loop-i-init : goal.loop-i-init
unfolding moved
loop-i-init c = refl

pub loop-i-preserved : goal.loop-i-preserved
unfolding moved
loop-i-preserved c = rw (c.put_abstract.ensures, c.abstract_at.ensures, add-one c.loop-i.i, c.loop-i.invariant)
