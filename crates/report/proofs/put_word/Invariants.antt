-- `report::put_word` meets its contract.
use mathlib.Core.Path.{◌≡◌}
use lib.Seq.{sets}
use lib.ListN.{length}
use Rattle.integers.proofs.Stores.{Writing}
use Rattle.report.proofs.put_word.Given as goal

abbrev pub invariant-loop-i : goal.invariant-loop-i
invariant-loop-i l = (length l.line ≡ length l.initial.line) × Writing (sets l.initial.line 0 l.word) l.line 0 l.word l.i
