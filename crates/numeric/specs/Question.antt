-- Readings as questions: what may be asked of a store and its lent tables, and what is shown.
use Rattle.std.specs.Prelude.{ℕ, Bool, List}
use Rattle.interval.specs.declared.Bound.{Bound}
use Rattle.lattice.specs.Value.{Value}
use Rattle.numeric.specs.Reading.{Reading, given, refused, Kind, Status}

pub data Question : Type 0 where
  argument : ℕ → Question
  context_count : ℕ → Question
  context : ℕ → ℕ → Question
  slot : ℕ → ℕ → Bool → Question
  key : ℕ → Question
  name : ℕ → Question
  status : Question

pub data Shown : Type 0 where
  value : Value → Shown
  number : ℕ → Shown
  bound : Bound → Shown
  kind : Kind → Shown
  bytes : List ℕ → Shown
  ended : Status → Shown

abbrev pub showing : {A : Type 0} → (A → Shown) → Reading A → Reading Shown
showing f (given a) = given (f a)
showing f (refused e) = refused e
