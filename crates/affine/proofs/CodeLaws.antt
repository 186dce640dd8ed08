-- Where a slot lies, by its shape, over plain variables.
use mathlib.Core.Path.{◌≡◌}
use lib.IntN.{ℤ, ◌+ℤ◌, ◌-ℤ◌}
use Rattle.std.specs.Prelude.{Some}
use Rattle.interval.specs.declared.Interval.{Interval}
use Rattle.interval.specs.Interval.{endpoints_of, checked_of}
use Rattle.affine.specs.declared.Shape.{Shape}
use Rattle.affine.specs.declared.Shape.TheVariants.{Sum, Difference, Reversed}
use Rattle.affine.specs.Affine.{solved}

module _ (i : Interval) (c : ℤ) {shape : Shape} {low high : ℤ} {r : Interval} (ends : Some (low, high) ≡ endpoints_of i) where
  pub sum_solved : shape ≡ Sum → r ≡ checked_of (low -ℤ c) (high -ℤ c) → r ≡ solved shape c (endpoints_of i)
  sum_solved p e = rw (p, ← ends) e

  pub difference_solved : shape ≡ Difference → r ≡ checked_of (low +ℤ c) (high +ℤ c) → r ≡ solved shape c (endpoints_of i)
  difference_solved p e = rw (p, ← ends) e

  pub reversed_solved : shape ≡ Reversed → r ≡ checked_of (c -ℤ high) (c -ℤ low) → r ≡ solved shape c (endpoints_of i)
  reversed_solved p e = rw (p, ← ends) e
