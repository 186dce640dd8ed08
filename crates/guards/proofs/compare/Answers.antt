-- `guards::compare` meets its contract.
use mathlib.Core.Path.{sym}
use Rattle.limits.proofs.Monad.{yes_on, no_on, pure_is}
use Rattle.guards.specs.Guards.{compared}
use Rattle.guards.proofs.compare.Goals as goal

pub returns-then-not-is_narrowing : goal.returns-then-not-is_narrowing
unfolding compared
returns-then-not-is_narrowing c = no_on _ _ _ (sym c.if-not-is_narrowing.ensures) (pure_is _ _)

pub returns : goal.returns
unfolding compared
returns c = yes_on _ _ _ (sym c.if-not-is_narrowing.ensures) (rw (c.restricted.ensures, c.restricted-2.ensures, c.flipped.ensures) at c.refine_both.ensures)
