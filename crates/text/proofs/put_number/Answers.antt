-- `text::put_number` meets its contract.
use borrow.Author.Rules.{rules}
use Rattle.text.proofs.Putting.{puts_then}
use Rattle.text.proofs.put_number.Goals as goal

pub returns : goal.returns
returns c = record { puts = puts_then c.put_byte-word.ensures c.put_decimal.ensures.puts; within = search rules }
