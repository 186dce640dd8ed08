-- `text::put_interval` meets its contract.
use borrow.Author.Rules.{rules}
use Rattle.text.proofs.Words.{puts_empty, puts_bounded, puts_unbounded}
use Rattle.text.proofs.put_interval.Goals as goal

pub returns-in-Bottom : goal.returns-in-Bottom
returns-in-Bottom c =
    record { puts = puts_empty c.in-Bottom.is c.put_twice.ensures.puts; within = search rules }

pub returns-in-Bounded : goal.returns-in-Bounded
returns-in-Bounded c =
    record { puts = puts_bounded c.in-Bounded.is (search rules) (search rules) c.put_ends.ensures.puts; within = search rules }

pub returns-in-Unbounded : goal.returns-in-Unbounded
returns-in-Unbounded c =
    record { puts = puts_unbounded c.in-Unbounded.is c.put_twice-in-Unbounded.ensures.puts; within = search rules }
