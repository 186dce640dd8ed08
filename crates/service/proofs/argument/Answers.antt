-- `service::argument` meets its contract.
use mathlib.Core.Path.{sym, ap, ◌∙◌}
use Rattle.soundness.specs.Code.{argument}
use Rattle.service.specs.Told as told
use Rattle.service.specs.Lent.{for_argument}
use Rattle.service.proofs.Answers.{id_told, reading_of}
use Rattle.service.proofs.argument.Goals as goal

pub returns : goal.returns
returns c = λ s. reading_of (λ h. for_argument h c.args.predicates.now s) c.of.ensures (id_told c.argument.result ∙ ap told.id (sym c.id.ensures)) (argument c.args.predicate c.args.position c.argument.result c.argument.ensures)
