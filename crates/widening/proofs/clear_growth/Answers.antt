-- `widening::clear_growth` meets its contract.
use mathlib.Core.Path.{refl}
use Rattle.widening.specs.Widening.{no_growth}
use Rattle.widening.proofs.CodeLaws.{clear_more}
use Rattle.widening.proofs.clear_growth.Goals as goal

pub loop-i-init : goal.loop-i-init
unfolding no_growth
loop-i-init c = refl

pub loop-i-preserved : goal.loop-i-preserved
loop-i-preserved c = clear_more _ _ c.loop-i.invariant c.put_growth.ensures
