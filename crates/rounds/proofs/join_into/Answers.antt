-- `rounds::join_into` meets its contract.
use Rattle.limits.proofs.Answering.{exits}
use Rattle.slots.proofs.CodeLaws.{replaced_stop, replaced_on}
use Rattle.rounds.proofs.join_into.Goals as goal

pub returns-in_err-new : goal.returns-in_err-new
returns-in_err-new c = exits c.from_residual.result c.from_residual.ensures.1 (replaced_stop _ _ _ _ c.abstract_at-old.ensures c.in_err-new.ensures)

pub returns : goal.returns
returns c = replaced_on _ _ _ _ c.abstract_at-old.ensures c.in_ok-new.ensures (rw (c.release.ensures, c.put_abstract.ensures, c.entries_of.ensures, ← c.abstract_at-old.ensures))
