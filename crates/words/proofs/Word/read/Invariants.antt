-- `words::Word::read` meets its contract.
use mathlib.Core.Path.{◌≡◌}
use lib.ListN.{drop}
use Rattle.words.specs.Words.{read}
use Rattle.words.proofs.Word.read.Given as goal

abbrev pub invariant-loop-byte : goal.invariant-loop-byte
invariant-loop-byte l = read l.word (drop l.byte-index l.part) ≡ read l.fn.self l.part
