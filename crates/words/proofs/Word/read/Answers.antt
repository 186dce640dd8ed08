-- `words::Word::read` meets its contract.
use mathlib.Core.Path.{sym, ◌∙◌}
use Rattle.words.proofs.Parts.{more_at, broken_at, end_at}
use Rattle.words.proofs.Word.read.Goals as goal

pub returns-in_err-word : goal.returns-in_err-word
returns-in_err-word c = c.from_residual.ensures ∙ (sym (broken_at c.loop-byte.word c.args.part.now c.loop-byte.byte-index c.loop-byte-test.true (sym c.push.ensures ∙ c.in_err-word.was)) ∙ c.loop-byte.invariant)

pub loop-byte-preserved : goal.loop-byte-preserved
loop-byte-preserved c = sym (more_at c.loop-byte.word c.args.part.now c.loop-byte.byte-index c.loop-byte-test.true (sym c.push.ensures ∙ c.in_ok-word.was)) ∙ c.loop-byte.invariant

pub returns : goal.returns
returns c = sym (end_at c.loop-byte.word c.args.part.now c.loop-byte.byte-index c.loop-byte-test.false) ∙ c.loop-byte.invariant
