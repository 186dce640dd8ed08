-- `service::fresh` meets its contract.
use mathlib.Core.Path.{sym, ap, ◌∙◌}
use Rattle.store.specs.Store.{fresh_of}
use Rattle.soundness.specs.Code.{fresh}
use Rattle.service.specs.Told as told
use Rattle.service.proofs.Answers.{done_told, enough, begins_of}
use Rattle.service.proofs.fresh.Goals as goal

pub returns : goal.returns
returns c = begins_of (c.put.ensures.back (enough c.told-words)) (done_told c.fresh-answer.result.1 ∙ ap told.done (sym c.done.ensures)) (fresh c.fresh-answer.result.1 c.fresh-answer.result.0 (c.fresh-answer.ensures ∙ ap fresh_of c.limits_of.ensures))
