-- `range::checked` meets its contract.
use Rattle.std.proofs.lemmas.Int.{to_z-of_z}
use Rattle.range.proofs.CodeLaws.{not_fitting, fitting, descends, low_out, high_out, within}
use Rattle.range.proofs.checked.Goals as goal

pub returns-then-high-low : goal.returns-then-high-low
returns-then-high-low c = let l = c.ranges.low in let h = c.ranges.high in descends _ _ (simp to_z-of_z at c.if-high-low.true)

pub returns-in_err-ok : goal.returns-in_err-ok
returns-in_err-ok c =
    let l = c.ranges.low in
    rw c.from_residual.ensures (low_out _ _ (not_fitting _ c.try_from.result (simp to_z-of_z at c.try_from.ensures) c.in_err-ok.ensures.variant))

pub returns-in_err-ok-2 : goal.returns-in_err-ok-2
returns-in_err-ok-2 c =
    let h = c.ranges.high in
    rw c.from_residual-in_err-ok-2.ensures (high_out _ _ (not_fitting _ c.try_from-2.result (simp to_z-of_z at c.try_from-2.ensures) c.in_err-ok-2.ensures.variant))

pub returns : goal.returns
returns c =
    let l = c.ranges.low in
    let h = c.ranges.high in
    within _ _ (simp to_z-of_z at c.if-high-low.false)
    (fitting _ c.try_from.result (simp to_z-of_z at c.try_from.ensures) c.in_ok-ok.ensures.value)
    (fitting _ c.try_from-2.result (simp to_z-of_z at c.try_from-2.ensures) c.in_ok-ok-2.ensures.value)
