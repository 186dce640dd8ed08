-- `interval::Interval::checked` meets its contract.
use Rattle.std.proofs.Common.{arith, ℤ, w32, w64, to_z, of_z}
use Rattle.std.proofs.lemmas.Int.{to_z-of_z, ints, clamps}
use Rattle.interval.proofs.CodeLaws.{all_above, all_below, cut}
use Rattle.interval.proofs.Interval.checked.Goals as goal
use Rattle.interval.proofs.Interval.checked.Goals.{then-greatest-low-via-then-greatest-low, then-greatest-low-via-else-greatest-low+then-high-least}

pub returns-then-greatest-low : goal.returns-then-greatest-low
returns-then-greatest-low c = elim c.then-greatest-low.branch [ then-greatest-low-via-then-greatest-low w ↦ all_above _ _ (grind (arith, to_z-of_z)) | then-greatest-low-via-else-greatest-low+then-high-least w ↦ all_below _ _ (grind (arith, to_z-of_z)) ]

pub returns : goal.returns
returns c =
    let held : ℤ → ℤ = λ z. to_z w32 (of_z w32 (to_z w64 (of_z w64 z))) in
    cut _ _ {l = held c.max.result} {h = held c.min.result} (omega (arith, ints, clamps)) (omega (arith, ints, clamps)) c.ascending.ensures
