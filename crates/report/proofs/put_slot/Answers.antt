-- `report::put_slot` meets its contract.
use Rattle.text.proofs.Words.{line_first, line_word}
use Rattle.report.proofs.LineLaws.{byte_same, line_last}
use Rattle.report.proofs.put_slot.Goals as goal

pub returns : goal.returns
returns c =
    line_last _ (line_word _ (line_word _ (line_first _ (byte_same c.slot_letter.ensures c.put_byte-at.ensures)) c.put_number-named.ensures.puts) c.put_number-numbered.ensures.puts) c.put_bound-end.ensures.puts c.put_byte.ensures
