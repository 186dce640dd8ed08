-- What writing text into a line leaves.
use Rattle.std.specs.Prelude.{ℕ, ◌+◌, ◌≡◌, List, length}
use Rattle.std.proofs.lemmas.List.Edits.{sets}

-- the text stands at its place, and the answer is the place behind it
pub record Puts (text : List ℕ) (at : ℕ) (before : List ℕ) (next : ℕ) (after : List ℕ) : Type 0 where
  pub place : next ≡ at + length text
  pub line : after ≡ sets before at text
