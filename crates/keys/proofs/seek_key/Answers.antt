-- `keys::seek_key` meets its contract.
use Rattle.std.proofs.Common.{rules}
use Rattle.search.proofs.Complete.{enough}
use Rattle.keys.specs.Key.{key_of, probe, seek_key}
use Rattle.keys.proofs.seek_key.Goals as goal

pub returns : goal.returns
unfolding seek_key
returns c = c.seek.ensures (probe c.args.names.now c.args.cells.now c.args.order.now (key_of c.args.key)) (record { at = λ i r h k. search rules }) c.args.count (enough c.args.count)
