-- `service::predicate` meets its contract.
use mathlib.Core.Path.{sym, ap, ◌∙◌}
use Rattle.soundness.specs.Code.{predicate}
use Rattle.service.specs.Told as told
use Rattle.service.specs.Lent.{for_predicate}
use Rattle.service.proofs.Answers.{id_told, enough, exchange_of}
use Rattle.service.proofs.predicate.Goals as goal

pub returns : goal.returns
returns c =
    λ s. exchange_of (λ h. for_predicate h c.args.predicates.now c.args.seeds.now s) (λ h. for_predicate h c.predicate-answer.new.predicates c.predicate-answer.new.seeds s) c.of-store.ensures (c.put.ensures.back (enough c.told-words)) (id_told c.predicate-answer.result ∙ ap told.id (sym c.id.ensures))
    (predicate c.args.arity c.predicate-answer.result c.predicate-answer.new.self c.predicate-answer.new.predicates c.predicate-answer.new.seeds c.predicate-answer.ensures)
