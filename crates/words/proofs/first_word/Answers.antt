-- `words::first_word` meets its contract.
use native.Mathlib.Omega.{arith}
use lib.ListN.{length-take}
use Rattle.words.proofs.Parts.{length_within}
use Rattle.words.proofs.first_word.Goals as goal

pub slice_bounds-result-end : goal.slice_bounds-result-end
slice_bounds-result-end c = let n = length_within c.args.text.now in omega (arith, c.word_length.ensures, length-take c.word_length.result c.args.text.now)
