-- A number of 32 signed bits in an unsigned cell: shifted up by 2^31, so that cells stand in the order of the numbers.
use Rattle.std.specs.Prelude.{ℕ, ◌^◌, ℤ, pos, nat_abs, ◌+ℤ◌, ◌-ℤ◌}

abbrev pub to_cell : ℤ → ℕ
to_cell z = nat_abs (z +ℤ pos (2 ^ 31))

abbrev pub of_cell : ℕ → ℤ
of_cell n = pos n -ℤ pos (2 ^ 31)
