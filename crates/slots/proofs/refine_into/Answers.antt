-- `slots::refine_into` meets its contract.
use Rattle.limits.proofs.Answering.{exits}
use Rattle.limits.proofs.Seen.{seen_broke, seen_went}
use Rattle.lattice.specs.Value.{value_of}
use Rattle.lattice.specs.Lattice.{refine}
use Rattle.slots.proofs.CodeLaws.{replaced_stop, replaced_on}
use Rattle.slots.proofs.refine_into.Goals as goal

pub returns-in_err-new : goal.returns-in_err-new
returns-in_err-new c =
    let a = c.args in
    exits c.from_residual.result c.from_residual.ensures.1 (replaced_stop a.slot (λ old. refine a.constants.now old a.interval) a.meter.now a.cells.now c.abstract_at.ensures (seen_broke value_of c.refine.ensures c.in_err-new.was))

pub returns : goal.returns
returns c =
    let a = c.args in
    replaced_on a.slot (λ old. refine a.constants.now old a.interval) a.meter.now a.cells.now c.abstract_at.ensures (seen_went value_of c.refine.ensures c.in_ok-new.was) c.settle.ensures
