-- The values that a row holds exactly: numbers of 32 bits that ascend, and at most 16 ids of 16 bits.
use Rattle.std.specs.Prelude.{ℕ, ◌≤◌, ◌<◌, ◌^◌, List, length}
use Rattle.sizes.specs.Sizes as size
use Rattle.std.proofs.Math.Option.{Option, some, none}
use Rattle.integers.specs.Lists.{All}
pub use Rattle.interval.specs.Proper.{Proper}
use Rattle.lattice.specs.Value.{Value}

abbrev pub Short : Option (List ℕ) → Type 0
Short none = Unit {0}
Short (some l) = (length l ≤ size.width) × All (λ n. n < 2 ^ 16) l

pub record WellFormed (v : Value) : Type 0 where
  pub interval : Proper v.bound.interval
  pub list : Short v.values
