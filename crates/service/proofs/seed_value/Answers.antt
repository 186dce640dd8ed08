-- `service::seed_value` meets its contract.
use mathlib.Core.Path.{sym, ap, ◌∙◌}
use Rattle.soundness.specs.Code.{seed_value}
use Rattle.service.specs.Told as told
use Rattle.service.specs.Lent.{for_value}
use Rattle.service.proofs.Answers.{done_told, enough, exchange_of}
use Rattle.service.proofs.seed_value.Goals as goal

pub returns : goal.returns
returns c =
    λ s. exchange_of (λ h. for_value h c.args.constants.now c.args.seeds.now c.args.records.now s) (λ h. for_value h c.args.constants.now c.seed_value-answer.new.seeds c.seed_value-answer.new.records s) c.of-store.ensures (c.put.ensures.back (enough c.told-words)) (done_told c.seed_value-answer.result ∙ ap told.done (sym c.done.ensures))
    (seed_value c.args.argument c.args.value c.seed_value-answer.result c.seed_value-answer.new.store c.seed_value-answer.new.seeds c.seed_value-answer.new.records c.seed_value-answer.ensures)
