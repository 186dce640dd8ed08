-- `guards::guard_rows` meets its contract.
use native.Mathlib.Omega.{arith}
use mathlib.Core.Path.{refl}
use Rattle.limits.proofs.Answering.{exits}
use Rattle.limits.proofs.Monad.{then_stop, then_on, through_stop, through_on}
use Rattle.limits.specs.Meter.{work}
use Rattle.guards.specs.Guards.{guard_step, guard_all}
use Rattle.limits.proofs.Onward.{folding, folded, fold_stops, fold_goes}
use Rattle.guards.proofs.guard_rows.Goals as goal

pub loop-j-init : goal.loop-j-init
loop-j-init c = folding _ _ _ _ _

pub returns-in_err-work : goal.returns-in_err-work
unfolding guard_all guard_step
returns-in_err-work c =
    rw (← c.guard_count-j-end.ensures)
    (exits _ c.from_residual.ensures.1 (fold_stops _ _ _ _ _ _ c.loop-j.invariant c.loop-j-test.true refl (then_stop _ _ _ (through_stop _ _ _ _ (work 1) _ c.in_err-work.ensures))))

pub returns-in_err-count : goal.returns-in_err-count
unfolding guard_all guard_step
returns-in_err-count c =
    rw (← c.guard_count-j-end.ensures)
    (exits _ c.from_residual-in_err-count.ensures.1
    (fold_stops _ _ _ _ _ _ c.loop-j.invariant c.loop-j-test.true c.guard_at-guard.ensures (then_on _ _ _ (through_on _ _ _ _ (work 1) _ c.in_ok-work.ensures) c.in_err-count.ensures)))

pub loop-j-preserved : goal.loop-j-preserved
unfolding guard_step
loop-j-preserved c =
    fold_goes _ _ _ _ _ _ c.loop-j.invariant c.loop-j-test.true c.guard_at-guard.ensures (then_on _ _ _ (through_on _ _ _ _ (work 1) _ c.in_ok-work.ensures) c.in_ok-count.ensures)

pub returns : goal.returns
unfolding guard_all
returns c = rw (← c.guard_count-j-end.ensures) (folded _ _ _ _ _ _ c.loop-j.invariant (omega arith))
