-- `header::put` meets its contract.
use mathlib.Core.Path.{ap, ◌∙◌}
use Rattle.header.specs.Header.{header_of}
use Rattle.header.proofs.HeaderLaws.{words_put, put_back}
use Rattle.header.proofs.put.Goals as goal

pub returns-clause-is : goal.returns-clause-is
returns-clause-is c = words_put c.args.store.now c.args.words.now c.put_limits.ensures c.put_statistics.ensures c.put_counts.ensures c.put_context.ensures.is c.put_phase.ensures.is

pub returns-clause-back : goal.returns-clause-back
returns-clause-back c =
    λ h. ap header_of (returns-clause-is c) ∙ put_back c.args.store.now c.args.words.now (record { context = c.put_context.ensures.small; phase = c.put_phase.ensures.small }) h
