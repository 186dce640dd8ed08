-- `text::put_digits` meets its contract.
use native.Mathlib.Omega.{arith}
use Rattle.text.proofs.Decimals.{decimal_some, tenth_length, puts_one, puts_more}
use Rattle.text.proofs.+put_digits.Goals as goal

pub put_byte-requires : goal.put_byte-requires
put_byte-requires t c = omega (arith, decimal_some c.args.n)

pub returns-then-n-lt10 : goal.returns-then-n-lt10
returns-then-n-lt10 t c =
    puts_one c.args.n c.if-n-lt10.true c.put_byte.ensures

pub put_digits-last-requires : goal.put_digits-last-requires
put_digits-last-requires t c = (omega arith, omega (arith, tenth_length c.args.n c.if-n-lt10.false))

pub put_byte-requires-2 : goal.put_byte-requires-2
put_byte-requires-2 t c =
    omega (arith, tenth_length c.args.n c.if-n-lt10.false, c.put_digits-last.ensures.place)

pub returns : goal.returns
returns t c =
    puts_more c.args.n c.if-n-lt10.false c.put_digits-last.ensures c.put_byte-2.ensures
