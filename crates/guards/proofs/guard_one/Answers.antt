-- `guards::guard_one` meets its contract.
use Rattle.limits.proofs.Answering.{exits}
use Rattle.evaluation.specs.Operands.{input_in}
use Rattle.guards.specs.Guards.{narrowed}
use Rattle.guards.proofs.CodeLaws.{both_stop, both_done, narrowed_asks}
use Rattle.guards.proofs.guard_one.Goals as goal

pub returns-in_err-a : goal.returns-in_err-a
returns-in_err-a c =
    let a = c.args in
    exits _ c.from_residual.ensures.1 (both_stop (input_in a.input.now) a.count a.meter.now a.produced.now a.refinements.now _ _ _ (rw c.operands-first.ensures at c.in_err-a.ensures))

pub returns : goal.returns
returns c =
    let a = c.args in
    rw (c.release-2.ensures, c.release.ensures)
    (both_done (input_in a.input.now) a.count a.meter.now a.produced.now a.refinements.now _ _ (narrowed (input_in a.input.now) a.count a.test) (narrowed_asks (input_in a.input.now) a.count a.test)
    (rw c.operands-first.ensures at c.in_ok-a.ensures) _ _ _ _ c.narrow-narrowed.ensures)
