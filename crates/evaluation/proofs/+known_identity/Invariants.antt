-- `evaluation::known_identity` meets its contract.
use Rattle.evaluation.proofs.+known_identity.Given as goal

abbrev pub decreases-known_identity : goal.decreases-known_identity
decreases-known_identity l = l.id
