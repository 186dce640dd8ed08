-- `report::put_refused` meets its contract.
use Rattle.text.proofs.Words.{line_first}
use Rattle.report.proofs.LineLaws.{line_last}
use Rattle.report.proofs.put_refused.Goals as goal

pub returns : goal.returns
returns c =
    line_last _ (line_first _ c.put_word-at.ensures) c.put_told-end.ensures.puts c.put_byte.ensures
