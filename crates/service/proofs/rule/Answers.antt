-- `service::rule` meets its contract.
use mathlib.Core.Path.{sym, ap, ◌∙◌}
use Rattle.soundness.specs.Code.{rule}
use Rattle.service.specs.Told as told
use Rattle.service.specs.Lent.{for_rule}
use Rattle.service.proofs.Answers.{id_told, enough, exchange_of}
use Rattle.service.proofs.rule.Goals as goal

pub returns : goal.returns
returns c =
    λ s. exchange_of (λ h. for_rule h c.args.nodes.now c.args.rules.now c.args.records.now s) (λ h. for_rule h c.args.nodes.now c.rule-answer.new.rules c.rule-answer.new.records s) c.of-store.ensures (c.put.ensures.back (enough c.told-words)) (id_told c.rule-answer.result ∙ ap told.id (sym c.id.ensures))
    (rule c.args.rule.now c.rule-answer.result c.rule-answer.new.store c.rule-answer.new.rules c.rule-answer.new.records c.rule-answer.ensures)
