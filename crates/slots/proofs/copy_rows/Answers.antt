-- `slots::copy_rows` meets its contract.
use native.Mathlib.Omega.{arith}
use mathlib.Core.Path.{refl, ◌∙◌}
use Rattle.slots.proofs.CodeLaws.{copying, copied_all, copy_stopped, copy_made}
use Rattle.slots.proofs.copy_rows.Goals as goal

pub loop-k-init : goal.loop-k-init
loop-k-init c = (refl, copying _ _ _)

pub returns-in-Err : goal.returns-in-Err
returns-in-Err c = copy_stopped c.args.domains.now _ _ c.loop-k.invariant.1 c.loop-k-test.true c.abstract_at.ensures c.in-Err.ensures c.drop_rows.ensures

pub loop-k-preserved : goal.loop-k-preserved
loop-k-preserved c =
    (c.put_abstract.auto.cells ∙ c.loop-k.invariant.0, copy_made c.args.domains.now _ _ c.loop-k.invariant.1 c.loop-k-test.true c.abstract_at.ensures c.in-Ok.ensures c.put_abstract.ensures)

pub returns : goal.returns
returns c = copied_all c.args.domains.now _ _ c.loop-k.invariant.1 (omega arith)
