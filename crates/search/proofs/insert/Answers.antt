-- `search::insert` meets its contract.
use Rattle.std.proofs.Common.{arith, ◌≡◌, inl, inr, refl, ◌∙◌}
use native.Mathlib.Decide.{dec_lt}
use lib.ListN.{length-set}
use Rattle.search.proofs.Inserted.{inserting_more, inserting_last, beyond}
use Rattle.search.proofs.insert.Goals as goal

pub returns-then-table-at : goal.returns-then-table-at
returns-then-table-at g c = beyond _ _ _ _ c.if-table-at.true

pub loop-i-preserved : goal.loop-i-preserved
loop-i-preserved g c =
    let s = c.loop-i.invariant in
    (length-set c.loop-i.table c.loop-i.i c.loop-i.carried ∙ s.0, inserting_more s.1 c.index-table-i.result (omega (arith, c.clamp-last.ensures)) (omega (arith, s.0, c.clamp-last.ensures)) c.index-table-i.is refl)

pub returns : goal.returns
returns g c =
    let s = c.loop-i.invariant in
    let e : c.clamp-last.result ≡ c.loop-i.i = omega (arith, c.loop-i.auto, c.loop-i-test.false) in
    inserting_last s.1 e
    (elim (dec_lt c.loop-i.i c.args.count) [
      | yes h ↦ inr (omega (arith, s.0, e, c.clamp-last.ensures))
      | no h ↦ inl (omega arith)
    ])
