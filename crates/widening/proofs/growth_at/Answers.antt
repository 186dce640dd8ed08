-- `widening::growth_at` meets its contract.
use Rattle.widening.proofs.CodeLaws.{growth_beyond, growth_is}
use Rattle.widening.proofs.growth_at.Goals as goal

pub returns-then-argument-ge-POSITIONS : goal.returns-then-argument-ge-POSITIONS
returns-then-argument-ge-POSITIONS c = growth_beyond _ _ c.if-argument-ge-POSITIONS.true

pub returns : goal.returns
returns c = growth_is _ _ c.if-argument-ge-POSITIONS.false c.cell_at.ensures c.cell_at-2.ensures
