-- `text::put_bound` meets its contract.
use borrow.Author.Rules.{rules}
use Rattle.text.proofs.Words.{puts_bound}
use Rattle.text.proofs.put_bound.Goals as goal

pub returns : goal.returns
returns c =
    record { puts = puts_bound c.args.bound c.letter_of.ensures c.put_letter-words.ensures c.put_interval.ensures.puts; within = search rules }
