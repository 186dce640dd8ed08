-- `widening::put_growth` meets its contract.
use Rattle.widening.proofs.CodeLaws.{put_beyond, put_both}
use Rattle.widening.proofs.put_growth.Goals as goal

pub returns-then-argument-lt-POSITIONS : goal.returns-then-argument-lt-POSITIONS
returns-then-argument-lt-POSITIONS c = put_both _ _ c.args.growth c.if-argument-lt-POSITIONS.true c.put_cell.ensures c.put_cell-then-argument-lt-POSITIONS.ensures

pub returns-else-argument-lt-POSITIONS : goal.returns-else-argument-lt-POSITIONS
returns-else-argument-lt-POSITIONS c = put_beyond _ _ c.args.growth c.if-argument-lt-POSITIONS.false
