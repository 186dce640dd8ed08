-- `text::put_ends` meets its contract.
use borrow.Author.Rules.{rules}
use Rattle.text.proofs.Words.{puts_ends}
use Rattle.text.proofs.put_ends.Goals as goal

pub returns : goal.returns
returns c =
    record { puts = puts_ends c.args.low c.args.high c.ranges.low c.ranges.high c.put_byte-first.ensures c.put_integer-space.ensures.puts c.put_byte-second.ensures c.put_integer.ensures.puts; within = search rules }
