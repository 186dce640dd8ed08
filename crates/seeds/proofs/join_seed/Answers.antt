-- `seeds::join_seed` meets its contract.
use Rattle.limits.proofs.Seen.{seen_went, seen_broke, seen_exits}
use Rattle.lattice.specs.Value.{value_of}
use Rattle.lattice.specs.Lattice.{join}
use Rattle.rows.specs.Row.{entries_of}
use Rattle.seeds.proofs.CodeLaws.{held_seen, join_stopped, join_done}
use Rattle.seeds.proofs.join_seed.Goals as goal

pub returns-in_err-new : goal.returns-in_err-new
returns-in_err-new c =
    let j = rw c.meter-meter.ensures at c.join-answer.ensures in
    let k = rw c.entries_of-held.ensures at c.holding-joined.ensures in
    let h = held_seen value_of (entries_of (value_of c.args.value)) (join c.args.budget.now.limits.width (value_of c.args.old) (value_of c.args.value)) _ c.join-answer.result c.holding-joined.result _ _ j k in
    seen_exits value_of _ c.from_residual.ensures.1 (rw c.settle.ensures (join_stopped (value_of c.args.old) (value_of c.args.value) c.args.budget.now _ (seen_broke value_of h c.in_err-new.was)))

pub returns : goal.returns
returns c =
    let j = rw c.meter-meter.ensures at c.join-answer.ensures in
    let k = rw c.entries_of-held.ensures at c.holding-joined.ensures in
    let h = held_seen value_of (entries_of (value_of c.args.value)) (join c.args.budget.now.limits.width (value_of c.args.old) (value_of c.args.value)) _ c.join-answer.result c.holding-joined.result _ _ j k in
    rw (c.drop_both.ensures, c.settle.ensures) (join_done (value_of c.args.old) (value_of c.args.value) c.args.budget.now _ (seen_went value_of h c.in_ok-new.was))
