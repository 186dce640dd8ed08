-- `store::clear_seeds` meets its contract.
use Rattle.store.proofs.CodeLaws.{bottoms_none, bottoms_more}
use Rattle.store.proofs.clear_seeds.Goals as goal

pub loop-j-init : goal.loop-j-init
loop-j-init c = bottoms_none _ _

pub loop-j-preserved : goal.loop-j-preserved
loop-j-preserved c = bottoms_more _ _ _ _ c.loop-j.invariant c.bottom.ensures c.put_abstract.ensures
