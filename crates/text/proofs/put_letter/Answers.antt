-- `text::put_letter` meets its contract.
use Rattle.text.proofs.Putting.{puts_then}
use Rattle.text.proofs.put_letter.Goals as goal

pub returns : goal.returns
returns c =
    puts_then c.put_byte-word.ensures c.put_byte.ensures
