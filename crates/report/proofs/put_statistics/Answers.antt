-- `report::put_statistics` meets its contract.
use native.Mathlib.Omega.{arith}
use Rattle.text.proofs.Words.{line_first, line_word, line_end}
use Rattle.report.proofs.put_statistics.Goals as goal

pub put_byte-requires : goal.put_byte-requires
put_byte-requires c =
    omega (arith, c.requires, c.put_byte-at.ensures.place, c.put_byte-at.auto.line, c.put_number-a.ensures.within, c.put_number-a.auto.line, c.put_number-b.ensures.within, c.put_number-b.auto.line, c.put_number-c.ensures.within, c.put_number-c.auto.line, c.put_number-d.ensures.within, c.put_number-d.auto.line, c.put_number-e.ensures.within, c.put_number-e.auto.line, c.put_number-f.ensures.within, c.put_number-f.auto.line, c.put_number-end.ensures.within, c.put_number-end.auto.line)

pub returns : goal.returns
returns c =
    line_end (line_word _ (line_word _ (line_word _ (line_word _ (line_word _ (line_word _ (line_word _ (line_first _ c.put_byte-at.ensures) c.put_number-a.ensures.puts) c.put_number-b.ensures.puts) c.put_number-c.ensures.puts) c.put_number-d.ensures.puts) c.put_number-e.ensures.puts) c.put_number-f.ensures.puts) c.put_number-end.ensures.puts) c.put_byte.ensures
