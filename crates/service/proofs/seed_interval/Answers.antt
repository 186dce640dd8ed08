-- `service::seed_interval` meets its contract.
use mathlib.Core.Path.{sym, ap, ◌∙◌}
use Rattle.integers.proofs.Bits.{read₂}
use Rattle.seeds.specs.Seed.{seed_interval_call, interval_tables}
use Rattle.soundness.specs.Code.{seed_interval}
use Rattle.service.specs.Told as told
use Rattle.service.specs.Lent.{for_interval}
use Rattle.service.proofs.Answers.{done_told, enough, exchange_of}
use Rattle.service.proofs.seed_interval.Goals as goal

pub returns : goal.returns
returns c =
    λ s. exchange_of (λ h. for_interval h c.args.seeds.now c.args.records.now c.args.thresholds.now s) (λ h. for_interval h c.seed_interval-answer.new.seeds c.seed_interval-answer.new.records c.seed_interval-answer.new.thresholds s) c.of-store.ensures (c.put.ensures.back (enough c.told-words)) (done_told c.seed_interval-answer.result ∙ ap told.done (sym c.done.ensures))
    (seed_interval c.args.argument c.args.low c.args.high c.seed_interval-answer.result c.seed_interval-answer.new.store c.seed_interval-answer.new.seeds c.seed_interval-answer.new.records c.seed_interval-answer.new.thresholds (read₂ c.ranges.low c.ranges.high (λ low high. seed_interval_call c.args.argument low high (interval_tables c.of-store.result c.args.seeds.now c.args.records.now c.args.thresholds.now)) c.seed_interval-answer.ensures))
