-- `service::read_context` meets its contract.
use mathlib.Core.Path.{sym, ap, ◌∙◌}
use Rattle.soundness.specs.Code.{reading, context}
use Rattle.service.specs.Told as told
use Rattle.service.specs.Lent.{for_context_reading}
use Rattle.service.proofs.Answers.{number_told, reading_of}
use Rattle.service.proofs.read_context.Goals as goal

pub returns : goal.returns
returns c = λ s. reading_of (λ h. for_context_reading h c.args.records.now s) c.of.ensures (number_told c.context.result ∙ ap told.number (sym c.number.ensures)) (reading _ _ (context c.args.argument c.args.k c.context.result c.context.ensures))
