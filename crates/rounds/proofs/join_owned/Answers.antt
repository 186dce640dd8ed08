-- `rounds::join_owned` meets its contract.
use Rattle.limits.proofs.Answering.{answered_through}
use Rattle.rounds.specs.Round.{join_owned}
use Rattle.rounds.proofs.join_owned.Goals as goal

pub returns : goal.returns
unfolding join_owned
returns c = rw (c.release.ensures, c.entries_of.ensures) (answered_through _ _ _ _ _ _ c.join_into-joined.ensures)
