-- `numeric::context` meets its contract.
use Rattle.numeric.specs.Reading.{context_reading}
use Rattle.numeric.proofs.ReadingLaws.{turned_down, not_read}
use Rattle.numeric.proofs.context.Goals as goal

pub returns-in_err-readable : goal.returns-in_err-readable
unfolding context_reading
returns-in_err-readable c = not_read _ _ _ c.from_residual.ensures.1 (turned_down c.args.store.now _ _ c.readable.ensures c.in_err-readable.was)
