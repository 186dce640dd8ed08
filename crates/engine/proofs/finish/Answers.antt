-- `engine::finish` meets its contract.
use borrow.Author.Tests.{eq-eqb, ne_eqb}
use Rattle.limits.proofs.Answering.{answered_through}
use Rattle.limits.proofs.Monad.{yes_on, no_on}
use Rattle.results.specs.Result.{closing}
use Rattle.engine.specs.Run.{finish}
use Rattle.engine.proofs.finish.Goals as goal

pub returns-then-given-eq0 : goal.returns-then-given-eq0
unfolding finish closing
returns-then-given-eq0 c = yes_on _ _ _ (eq-eqb _ 0 c.if-given-eq0.true) (answered_through _ _ _ _ _ _ (answered_through _ _ _ _ _ _ c.close.ensures))

pub returns : goal.returns
unfolding finish
returns c = no_on _ _ _ (ne_eqb _ 0 c.if-given-eq0.false) c.ascend_and_end.ensures
