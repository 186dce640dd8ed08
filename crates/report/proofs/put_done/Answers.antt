-- `report::put_done` meets its contract.
use Rattle.text.proofs.Words.{line_first, line_word, line_end}
use Rattle.report.proofs.put_done.Goals as goal

pub returns : goal.returns
returns c =
    line_end (line_word _ (line_word _ (line_first _ c.put_word-at.ensures) c.put_number-counted.ensures.puts) c.put_number-end.ensures.puts) c.put_byte.ensures
