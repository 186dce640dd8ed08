-- `service::read_argument` meets its contract.
use mathlib.Core.Path.{sym, ap, ◌∙◌}
use Rattle.soundness.specs.Code.{reading, argument}
use Rattle.service.specs.Told as told
use Rattle.service.specs.Lent.{for_argument_reading}
use Rattle.service.proofs.Answers.{value_told, reading_of}
use Rattle.service.proofs.read_argument.Goals as goal

pub returns : goal.returns
returns c = λ s. reading_of (λ h. for_argument_reading h c.args.arguments.now s) c.of.ensures (value_told c.argument.result ∙ ap told.value (sym c.value.ensures)) (reading _ _ (argument c.args.argument c.argument.result c.argument.ensures))
