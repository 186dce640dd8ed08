-- `service::run` meets its contract.
use mathlib.Core.Path.{sym, ap, ◌∙◌}
use Rattle.engine.specs.Call.{read, tables, working, run_leaves}
use Rattle.store.specs.declared.Store.{Store}
use Rattle.soundness.specs.Code.{run}
use Rattle.service.specs.Told as told
use Rattle.service.specs.Lent.{for_run}
use Rattle.service.proofs.Answers.{run_told, enough, exchange_of}
use Rattle.service.proofs.run.Goals as goal

pub returns-clause-exchange : goal.returns-clause-exchange
returns-clause-exchange c =
    λ s. exchange_of (λ h. for_run h c.args.nodes.now c.args.constants.now c.args.rules.now c.args.seeds.now c.args.thresholds.now c.args.arguments.now c.args.slots.now s) (λ h. for_run h c.args.nodes.now c.args.constants.now c.args.rules.now c.args.seeds.now c.run-answer.new.thresholds c.run-answer.new.arguments c.run-answer.new.slots s) c.of-store.ensures (c.put.ensures.back (enough c.told-words)) (run_told c.run-answer.result ∙ ap told.run (sym c.done.ensures))
    (run (working c.args.current.now c.args.growth.now c.args.scratch.now) c.run-answer.result c.run-answer.new.store c.run-answer.new.thresholds c.run-answer.new.arguments c.run-answer.new.slots c.run-answer.new.current c.run-answer.new.growth c.run-answer.ensures.run c.run-answer.ensures.left)

pub returns-clause-left : goal.returns-clause-left
returns-clause-left c =
    c.run-answer.ensures.left ∙ ap (λ (h : Store). run_leaves (read c.args.nodes.now c.args.constants.now c.args.rules.now c.args.seeds.now) (working c.args.current.now c.args.growth.now c.args.scratch.now) (tables h c.args.thresholds.now c.args.arguments.now c.args.slots.now)) c.of-store.ensures
