-- `thresholds::seek_number` meets its contract.
use Rattle.std.proofs.Common.{rules}
use Rattle.search.proofs.Complete.{enough}
use Rattle.thresholds.specs.Thresholds.{against, seek_number}
use Rattle.thresholds.proofs.seek_number.Goals as goal

pub returns : goal.returns
unfolding seek_number
returns c = c.seek.ensures (against c.args.table.now c.args.value) (record { at = λ i r h k. search rules }) c.args.count (enough c.args.count)
