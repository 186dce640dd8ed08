-- `lattice::retained` meets its contract.
use mathlib.Core.Path.{ap, ◌∙◌}
use mathlib.Core.List.{[], ◌∷◌, ◌++◌}
use Rattle.limits.proofs.Seen.{seen_exits}
use Rattle.limits.proofs.Answering.{went, broke}
use Rattle.lattice.specs.Value.{value_of}
use Rattle.lattice.proofs.CodeLaws.{retained_none, retained_stopped, retained_one}
use Rattle.lattice.proofs.retained.Goals as goal

pub returns-then-width-eq0 : goal.returns-then-width-eq0
returns-then-width-eq0 c = retained_none c.args.id c.args.bound c.args.width c.args.meter.now c.if-width-eq0.true c.unlisted.ensures

pub returns-in_err-retain : goal.returns-in_err-retain
returns-in_err-retain c = seen_exits value_of c.from_residual.result c.from_residual.ensures.1 (retained_stopped c.args.id c.args.bound c.args.width c.args.meter.now c.if-width-eq0.false (broke c.retain.ensures c.in_err-retain.was))

pub returns : goal.returns
returns c = retained_one c.args.id c.args.bound c.args.width c.args.meter.now c.if-width-eq0.false (went c.retain.ensures c.in_ok-retain.was) (c.push.ensures ∙ ap (λ l. l ++ (c.args.id ∷ [])) c.new-list.ensures) c.listed.ensures
