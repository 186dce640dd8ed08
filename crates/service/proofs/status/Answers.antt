-- `service::status` meets its contract.
use mathlib.Core.Path.{sym, ap, ◌∙◌}
use Rattle.soundness.specs.Code.{reading, status}
use Rattle.service.specs.Told as told
use Rattle.service.specs.Lent.{for_header}
use Rattle.service.proofs.Answers.{status_told, reading_of}
use Rattle.service.proofs.status.Goals as goal

pub returns : goal.returns
returns c = λ s. reading_of (λ h. for_header h s) c.of.ensures (status_told c.status.result ∙ ap told.status (sym c.ended.ensures)) (reading _ _ (status c.status.result c.status.ensures))
