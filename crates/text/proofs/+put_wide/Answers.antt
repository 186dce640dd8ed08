-- `text::put_wide` meets its contract.
use native.Mathlib.Omega.{arith}
use Rattle.text.proofs.Decimals.{wide_room, puts_more}
use Rattle.text.proofs.+put_wide.Goals as goal

pub put_byte-requires : goal.put_byte-requires
put_byte-requires t c = omega (arith, c.put_wide-last.ensures.puts.place, wide_room c.args.n (omega (arith, c.if-n-from.false, c.from.ensures)) c.ranges.n.fits)

pub returns-clause-puts : goal.returns-clause-puts
returns-clause-puts t c = puts_more c.args.n (omega (arith, c.if-n-from.false, c.from.ensures)) c.put_wide-last.ensures.puts c.put_byte.ensures

pub returns-clause-within : goal.returns-clause-within
returns-clause-within t c =
    omega (arith, c.put_wide-last.ensures.puts.place, c.put_byte.ensures.place, wide_room c.args.n (omega (arith, c.if-n-from.false, c.from.ensures)) c.ranges.n.fits)
