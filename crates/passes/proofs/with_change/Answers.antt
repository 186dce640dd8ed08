-- `passes::with_change` meets its contract.
use Rattle.limits.proofs.Answering.{went, broke}
use Rattle.limits.proofs.Monad.{bind_stop, bind_on, pure_is}
use Rattle.limits.proofs.Seen.{seen_exits}
use Rattle.lattice.specs.Value.{value_of}
use Rattle.lattice.specs.Lattice.{same}
use Rattle.passes.specs.Step.{with_change}
use Rattle.passes.specs.Lent.{grown_in}
use Rattle.passes.proofs.StepLaws.{held}
use Rattle.passes.proofs.with_change.Goals as goal

pub returns-in_err-same : goal.returns-in_err-same
unfolding with_change
returns-in_err-same c =
    seen_exits grown_in _ c.from_residual.ensures.1 (bind_stop _ _ _ (broke (held (value_of c.args.value) (same _ _) _ c.entries_of.ensures _ _ c.same-same.ensures _ _ c.holding.ensures) c.in_err-same.was))

pub returns : goal.returns
unfolding with_change
returns c = bind_on _ _ _ (went (held (value_of c.args.value) (same _ _) _ c.entries_of.ensures _ _ c.same-same.ensures _ _ c.holding.ensures) c.in_ok-same.was) (pure_is _ _)
