-- `text::put_twice` meets its contract.
use borrow.Author.Rules.{rules}
use Rattle.text.proofs.Words.{puts_twice}
use Rattle.text.proofs.put_twice.Goals as goal

pub returns : goal.returns
returns c = record { puts = puts_twice c.args.byte c.put_letter-second.ensures c.put_letter.ensures; within = search rules }
