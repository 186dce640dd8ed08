-- `text::put_ids` meets its contract.
use native.Mathlib.Omega.{arith}
use Rattle.text.proofs.Decimals.{decimal_length_16}
use Rattle.text.proofs.Words.{rest_length, puts_ids}
use Rattle.text.proofs.put_ids.Goals as goal

pub put_digits-second-requires : goal.put_digits-second-requires
put_digits-second-requires c = rw c.from.ensures (omega (arith, decimal_length_16 _ (c.type_inv.ids 0).fits, c.requires.0, c.put_byte-first.ensures.place))

pub put_others-requires : goal.put_others-requires
put_others-requires c =
    let q = rw c.from.ensures at c.put_digits-second.ensures in (
      omega (arith, decimal_length_16 _ (c.type_inv.ids 0).fits, q.place, c.put_byte-first.ensures.place, c.requires.0),
      omega (arith, rest_length c.args.ids.now c.in-len1-up.len_at_least, c.requires.1),
    )

pub returns-in-len1-up : goal.returns-in-len1-up
returns-in-len1-up c =
    let q = rw c.from.ensures at c.put_digits-second.ensures in
    record {
      puts = puts_ids c.args.ids.now c.in-len1-up.len_at_least c.put_byte-first.ensures q c.put_others.ensures.puts;
      within = omega (arith, decimal_length_16 _ (c.type_inv.ids 0).fits, c.put_byte-first.ensures.place, q.place, c.put_others.ensures.within);
    }
