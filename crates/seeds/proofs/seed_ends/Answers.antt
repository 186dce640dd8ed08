-- `seeds::seed_ends` meets its contract.
use mir.Facts.{to_z-of_z}
use Rattle.limits.proofs.Answering.{replied_ok, replied_err, refuses}
use Rattle.seeds.proofs.CodeLaws.{ends_stopped, ends_went}
use Rattle.seeds.proofs.seed_ends.Goals as goal

pub returns-in_err-mark_ends : goal.returns-in_err-mark_ends
returns-in_err-mark_ends c = refuses _ _ c.from_residual.ensures.1 (ends_stopped c.args.argument c.args.low c.args.high c.args.store.now c.args.seeds.now c.args.thresholds.now (replied_err (rw (to_z-of_z c.ranges.low, to_z-of_z c.ranges.high) at c.mark_ends.ensures) c.in_err-mark_ends.was))

pub returns : goal.returns
returns c =
    ends_went c.args.argument c.args.low c.args.high c.args.store.now c.args.seeds.now c.args.thresholds.now
    (replied_ok (rw (to_z-of_z c.ranges.low, to_z-of_z c.ranges.high) at c.mark_ends.ensures) c.in_ok-mark_ends.was) c.seed.result _ _ (rw (to_z-of_z c.ranges.low, to_z-of_z c.ranges.high) at c.numeric-value.ensures) c.seed.ensures
