-- `passes::widen_value` meets its contract.
use Rattle.limits.proofs.Answering.{went, broke}
use Rattle.limits.proofs.Monad.{bind_stop, bind_on}
use Rattle.limits.proofs.Seen.{seen_exits}
use Rattle.lattice.specs.Value.{value_of}
use Rattle.widening.specs.Widening.{widen}
use Rattle.passes.specs.Step.{widen_value}
use Rattle.passes.specs.Lent.{grown_in}
use Rattle.passes.proofs.StepLaws.{held}
use Rattle.passes.proofs.widen_value.Goals as goal

pub returns-in_err-wide : goal.returns-in_err-wide
unfolding widen_value
returns-in_err-wide c =
    seen_exits grown_in _ c.from_residual.ensures.1 (bind_stop _ _ _ (broke (held (value_of c.args.value) (widen _ _ _ _) _ c.entries_of.ensures _ _ c.widen-wide.ensures _ _ c.holding.ensures) c.in_err-wide.was))

pub returns : goal.returns
unfolding widen_value
returns c =
    bind_on _ _ _ (went (held (value_of c.args.value) (widen _ _ _ _) _ c.entries_of.ensures _ _ c.widen-wide.ensures _ _ c.holding.ensures) c.in_ok-wide.was) (rw (← c.within.ensures) c.with_change.ensures)
