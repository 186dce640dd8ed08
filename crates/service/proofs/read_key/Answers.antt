-- `service::read_key` meets its contract.
use mathlib.Core.Path.{sym, ap, ◌∙◌}
use Rattle.soundness.specs.Code.{reading, key}
use Rattle.service.specs.Told as told
use Rattle.service.specs.Lent.{for_key_reading}
use Rattle.service.proofs.Answers.{key_told, reading_of}
use Rattle.service.proofs.read_key.Goals as goal

pub returns : goal.returns
returns c = λ s. reading_of (λ h. for_key_reading h c.args.constants.now s) c.of.ensures (key_told c.key.result ∙ ap told.key (sym c.key-2.ensures)) (reading _ _ (key c.args.constant c.key.result c.key.ensures))
