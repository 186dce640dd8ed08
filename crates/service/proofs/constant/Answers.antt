-- `service::constant` meets its contract.
use mathlib.Core.Path.{sym, ap, ◌∙◌}
use Rattle.soundness.specs.Code.{constant}
use Rattle.service.specs.Told as told
use Rattle.service.specs.Lent.{for_constant}
use Rattle.service.proofs.Answers.{id_told, enough, exchange_of}
use Rattle.service.proofs.constant.Goals as goal

pub returns : goal.returns
returns c =
    λ s. exchange_of (λ h. for_constant h c.args.names.now c.args.constants.now c.args.order.now c.args.thresholds.now s) (λ h. for_constant h c.constant-answer.new.names c.constant-answer.new.constants c.constant-answer.new.order c.constant-answer.new.thresholds s) c.of-store.ensures (c.put.ensures.back (enough c.told-words)) (id_told c.constant-answer.result ∙ ap told.id (sym c.id.ensures))
    (constant c.args.key c.constant-answer.result c.constant-answer.new.store c.constant-answer.new.names c.constant-answer.new.constants c.constant-answer.new.order c.constant-answer.new.thresholds c.constant-answer.ensures)
