-- `seeds::mark_ends` meets its contract.
use native.Mathlib.Omega.{arith}
use mir.Facts.{to_z-of_z}
use Rattle.limits.proofs.Answering.{replied_ok, replied_err, refuses}
use Rattle.limits.proofs.Monad.{then_on, then_stop}
use Rattle.seeds.proofs.CodeLaws.{low_room}
use Rattle.seeds.proofs.mark_ends.Goals as goal

pub returns-in_err-enter : goal.returns-in_err-enter
returns-in_err-enter c = refuses _ _ c.from_residual.ensures.1 (then_stop _ _ _ (replied_err (rw (to_z-of_z c.ranges.low) at c.enter.ensures) c.in_err-enter.was))

pub enter-requires-2 : goal.enter-requires-2
enter-requires-2 c = omega (arith, low_room c.args.low c.args.store.now c.args.thresholds.now (replied_ok (rw (to_z-of_z c.ranges.low) at c.enter.ensures) c.in_ok-enter.was), c.requires, c.enter.auto.table)

pub returns : goal.returns
returns c = then_on _ _ _ (replied_ok (rw (to_z-of_z c.ranges.low) at c.enter.ensures) c.in_ok-enter.was) (rw (to_z-of_z c.ranges.high) at c.enter-2.ensures)
