-- `service::work` meets its contract.
use mathlib.Core.Path.{sym, ap, ◌∙◌}
use Rattle.soundness.specs.Code.{work}
use Rattle.service.specs.Told as told
use Rattle.service.specs.Lent.{for_header}
use Rattle.service.proofs.Answers.{done_told, enough, exchange_of}
use Rattle.service.proofs.work.Goals as goal

pub returns : goal.returns
returns c =
    λ s. exchange_of (λ h. for_header h s) (λ h. for_header h s) c.of-store.ensures (c.put.ensures.back (enough c.told-words)) (done_told c.work-answer.result ∙ ap told.done (sym c.done.ensures))
    (work c.args.amount c.work-answer.result c.work-answer.new.self c.work-answer.ensures)
