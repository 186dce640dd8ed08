-- `limits::Meter::holding` meets its contract.
use mathlib.Core.Path.{sym}
use Rattle.limits.proofs.CodeLaws.{held_lost, held_kept}
use Rattle.limits.proofs.Meter.holding.Goals as goal

pub returns-then-is_err : goal.returns-then-is_err
returns-then-is_err g c = held_lost _ _ c.args.step (sym c.if-is_err.ensures.value) c.release.ensures

pub returns-else-is_err : goal.returns-else-is_err
returns-else-is_err g c = held_kept _ _ c.args.step (sym c.if-is_err.ensures.value)
