-- `words::word_length` meets its contract.
use native.Mathlib.Omega.{arith}
use mathlib.Core.Path.{sym, ◌∙◌}
use Rattle.words.proofs.Parts.{length_here, length_more, length_end}
use Rattle.words.proofs.word_length.Goals as goal

pub returns-then-is_gap : goal.returns-then-is_gap
returns-then-is_gap c = omega (arith, c.loop-i.invariant, length_here c.args.text.now c.loop-i.i c.loop-i-test.true (sym c.is_gap.ensures ∙ c.if-is_gap.true))

pub loop-i-preserved : goal.loop-i-preserved
loop-i-preserved c = omega (arith, c.loop-i.invariant, length_more c.args.text.now c.loop-i.i c.loop-i-test.true (sym c.is_gap.ensures ∙ c.if-is_gap.false))

pub returns : goal.returns
returns c = omega (arith, c.loop-i.invariant, c.loop-i.auto, length_end c.args.text.now c.loop-i.i c.loop-i-test.false)
