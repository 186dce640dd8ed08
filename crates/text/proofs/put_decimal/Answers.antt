-- `text::put_decimal` meets its contract.
use native.Mathlib.Omega.{arith}
use Rattle.text.proofs.Decimals.{decimal_length_64}
use Rattle.text.proofs.put_decimal.Goals as goal

pub put_digits-requires : goal.put_digits-requires
put_digits-requires c = omega (arith, decimal_length_64 c.args.n c.ranges.n.fits)

pub returns : goal.returns
returns c =
    let p = c.put_digits.ensures in
    record { puts = p; within = omega (arith, p.place, decimal_length_64 c.args.n c.ranges.n.fits) }
