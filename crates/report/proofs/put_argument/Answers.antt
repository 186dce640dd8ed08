-- `report::put_argument` meets its contract.
use mathlib.Core.Path.{◌∙◌}
use Rattle.text.proofs.Putting.{puts_then}
use Rattle.text.proofs.Words.{line_first, line_word, line_words, line_end}
use Rattle.report.proofs.LineLaws.{count_same}
use Rattle.report.proofs.put_argument.Goals as goal

pub returns : goal.returns
returns c =
    line_end (line_word _ (line_word _ (line_words _ _ (line_word _ (line_first _ c.put_byte-at.ensures) c.put_number-named.ensures.puts) c.put_bound-bounded.ensures.puts) (puts_then c.put_byte-apart.ensures c.put_list-listed.ensures.puts)) (count_same (c.from.ensures ∙ c.reason_number.ensures) c.put_number-end.ensures.puts)) c.put_byte.ensures
