-- `lattice::Meeting::permitted` meets its contract.
use mathlib.Core.Path.{ap, ◌∙◌}
use Rattle.std.proofs.Common.{Ok}
use Rattle.limits.proofs.Answering.{went, broke, exits}
use Rattle.lattice.proofs.CodeLaws.{both_stopped, both_no, both_yes}
use Rattle.lattice.proofs.Meeting.permitted.Goals as goal

pub returns-in_err-permits : goal.returns-in_err-permits
returns-in_err-permits c = exits c.from_residual.result c.from_residual.ensures.1 (both_stopped _ _ _ _ (broke c.permits.ensures c.in_err-permits.was))

pub returns-then-not-branch : goal.returns-then-not-branch
returns-then-not-branch c = both_no _ _ _ _ (went c.permits.ensures (c.in_ok-permits.was ∙ ap Ok c.if-not-branch.true))

pub returns : goal.returns
returns c = both_yes _ _ _ _ (went c.permits.ensures (c.in_ok-permits.was ∙ ap Ok c.if-not-branch.false)) c.permits-2.ensures
