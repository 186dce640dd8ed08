-- `bindings::ranged` meets its contract.
use Rattle.limits.proofs.Answering.{went, broke}
use Rattle.integers.specs.Lists.{from}
use Rattle.evaluation.proofs.Operands.{seen_exits}
use Rattle.lattice.specs.Value.{value_of}
use Rattle.bindings.proofs.CodeLaws.{ends_stopped, ends_made}
use Rattle.bindings.proofs.ranged.Goals as goal

pub returns-in_err-from : goal.returns-in_err-from
unfolding from
returns-in_err-from c = seen_exits value_of _ c.from_residual.ensures.1 (ends_stopped _ _ _ _ _ (broke c.both.ensures c.in_err-from.was))

pub returns : goal.returns
unfolding from
returns c = ends_made _ _ _ _ _ (went c.both.ensures c.in_ok-from.was) c.release.ensures c.release-2.ensures c.span-span.ensures c.numeric.ensures
