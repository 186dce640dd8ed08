-- `text::put_wide` meets its contract.
use Rattle.text.proofs.+put_wide.Given as goal

abbrev pub decreases-put_wide : goal.decreases-put_wide
decreases-put_wide l = l.n
