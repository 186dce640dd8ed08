-- `text::put_integer` meets its contract.
use native.Mathlib.Omega.{arith}
use mathlib.Core.Path.{◌∙◌}
use Rattle.text.proofs.Decimals.{decimal_length_32}
use Rattle.text.proofs.Signs.{puts_negative, puts_plain}
use Rattle.text.proofs.put_integer.Goals as goal

pub put_digits-requires : goal.put_digits-requires
put_digits-requires c = omega (arith, decimal_length_32 c.from-n.result (omega (arith, c.from-n.ensures, c.unsigned_abs.ensures.bound)), c.put_byte-digits.ensures.place, c.requires)

pub returns-then-z-lt0 : goal.returns-then-z-lt0
returns-then-z-lt0 c =
    record {
      puts = puts_negative c.args.z c.ranges.z (c.from-n.ensures ∙ c.unsigned_abs.ensures.value) c.if-z-lt0.true c.put_byte-digits.ensures c.put_digits.ensures;
      within = omega (arith, decimal_length_32 c.from-n.result (omega (arith, c.from-n.ensures, c.unsigned_abs.ensures.bound)), c.put_byte-digits.ensures.place, c.put_digits.ensures.place);
    }

pub put_digits-requires-2 : goal.put_digits-requires-2
put_digits-requires-2 c = omega (arith, decimal_length_32 c.from-n.result (omega (arith, c.from-n.ensures, c.unsigned_abs.ensures.bound)), c.requires)

pub returns : goal.returns
returns c =
    record {
      puts = puts_plain c.args.z c.ranges.z (c.from-n.ensures ∙ c.unsigned_abs.ensures.value) c.if-z-lt0.false c.put_digits-2.ensures;
      within = omega (arith, decimal_length_32 c.from-n.result (omega (arith, c.from-n.ensures, c.unsigned_abs.ensures.bound)), c.put_digits-2.ensures.place);
    }
