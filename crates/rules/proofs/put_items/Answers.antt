-- `rules::put_items` meets its contract.
use Rattle.rules.proofs.CodeLaws.{put_none, put_more, put_all}
use Rattle.rules.proofs.put_items.Goals as goal

pub loop-i-init : goal.loop-i-init
loop-i-init g c = put_none g.T.Item.item_cells g.T.Item.WIDTH _ _ _

pub loop-i-preserved : goal.loop-i-preserved
loop-i-preserved g c = let h = c.put.ensures in let k = c.index-items-i.is in let l = c.WIDTH.ensures in put_more g.T.Item.item_cells g.T.Item.WIDTH c.loop-i.invariant c.index-items-i.result c.loop-i-test.true (g.met.T.Item.wide _) cc

pub returns : goal.returns
returns g c = put_all g.T.Item.item_cells g.T.Item.WIDTH c.loop-i.invariant c.loop-i-test.false
