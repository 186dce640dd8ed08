-- `service::expression` meets its contract.
use mathlib.Core.Path.{sym, ap, ◌∙◌}
use Rattle.soundness.specs.Code.{expression}
use Rattle.service.specs.Told as told
use Rattle.service.specs.Lent.{for_expression}
use Rattle.service.proofs.Answers.{id_told, enough, exchange_of}
use Rattle.service.proofs.expression.Goals as goal

pub returns : goal.returns
returns c =
    λ s. exchange_of (λ h. for_expression h c.args.nodes.now s) (λ h. for_expression h c.expression-answer.new.nodes s) c.of-store.ensures (c.put.ensures.back (enough c.told-words)) (id_told c.expression-answer.result ∙ ap told.id (sym c.id.ensures))
    (expression c.args.expression c.expression-answer.result c.expression-answer.new.store c.expression-answer.new.nodes c.expression-answer.ensures)
