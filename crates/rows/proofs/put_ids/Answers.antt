-- `rows::put_ids` meets its contract.
use Prim.Native.Nat.{◌-◌}
use native.Mathlib.Omega.{arith}
use mathlib.Core.Path.{refl, ap, ◌∙◌}
use lib.ListN.{length, length-set}
use Rattle.integers.proofs.Stores.{writing_none}
use Rattle.sizes.specs.Sizes.{value_row}
use Rattle.rows.proofs.CodeLaws.{id_put, ids_put}
use Rattle.rows.proofs.put_ids.Goals as goal

pub loop-j-init : goal.loop-j-init
loop-j-init c = (refl, writing_none _ _ _)

pub loop-j-preserved : goal.loop-j-preserved
loop-j-preserved c =
    let v = c.loop-j.invariant in
    let p = c.put_cell.ensures in
    (ap length p ∙ simp length-set v.0, id_put (value_row - 7) _ v.1 (omega arith) c.id_at.ensures p)

pub returns : goal.returns
returns c = ids_put (value_row - 7) _ c.loop-j.invariant.1 (omega arith)
