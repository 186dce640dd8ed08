-- `report::put_told` meets its contract.
use borrow.Author.Rules.{rules}
use Rattle.report.proofs.LineLaws.{told_plain, told_limit, no_values}
use Rattle.report.proofs.put_told.Goals as goal

pub returns-in-Limit-clause-puts : goal.returns-in-Limit-clause-puts
returns-in-Limit-clause-puts c = told_limit c.in-Limit.is c.from.ensures c.put_number-numbered.ensures.puts c.put_number-limited.ensures.puts c.put_byte-apart.ensures (rw c.observed.ensures at c.put_wide.ensures.puts)

pub returns-in_default : goal.returns-in_default
returns-in_default c = record { puts = told_plain c.args.refusal (no_values c.args.refusal c.in_default.not-Limit) c.from.ensures c.put_number-numbered.ensures.puts; within = search rules }
