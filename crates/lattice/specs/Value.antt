-- Abstract values as lattice.rs has them: a bound, perhaps a list of constant ids, and perhaps the reason why there is none.
use Rattle.std.specs.Prelude.{ℕ, cond, List, take, Some, None}
use Rattle.std.specs.Prelude as prelude
use Rattle.std.proofs.Math.Option.{Option, some, none}
use Rattle.interval.specs.declared.Bound.{Bound}
use Rattle.lattice.specs.declared.Widening.{Widening}
use Rattle.lattice.specs.declared.Widening.TheVariants.{HeadForm, HeadTerm, UnboundVariable, SymbolSize, ValueWidth, Dependency}
use Rattle.lattice.specs.declared.Abstract.{Abstract}

-- why there is no list, if there is a reason
abbrev pub Reason : Type 0
Reason = prelude.Option Widening

pub record Value : Type 0 where
  pub bound : Bound
  pub values : Option (List ℕ)
  pub widening : Reason

abbrev pub value : Bound → Option (List ℕ) → Reason → Value
value b l r = record { bound = b; values = l; widening = r }

-- 01: "reason (0 none, else 1 to 6 in the order of `Widening`)"
abbrev pub widening_number : Widening → ℕ
widening_number HeadForm = 1
widening_number HeadTerm = 2
widening_number UnboundVariable = 3
widening_number SymbolSize = 4
widening_number ValueWidth = 5
widening_number Dependency = 6

abbrev pub reason_number : Reason → ℕ
reason_number None = 0
reason_number (Some w) = widening_number w

-- what a value in hand stands for: 01, "a fixed array of 16 ids with a length and a kept mark"
abbrev pub value_of : Abstract → Value
value_of v = value v.bound (cond v.kept (some (take v.len v.ids)) none) v.reason
