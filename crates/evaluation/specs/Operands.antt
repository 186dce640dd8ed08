-- What the code works on, as the definitions have it, and what it sees of a value.
use Rattle.std.specs.Prelude.{ℕ, List}
use Rattle.limits.specs.declared.Stop.{Stop}
use Rattle.limits.specs.Metered.{Run, going, stopped, Metered, pure, ◌>>=◌, ◌>>◌}
use Rattle.limits.specs.declared.Meter.{Meter}
use Rattle.limits.specs.Meter.{work, dropping}
use Rattle.interval.specs.declared.Interval.{Interval}
use Rattle.interval.specs.Bound.{numeric_bound}
use Rattle.lattice.specs.Value.{Value}
use Rattle.lattice.specs.Lattice.{numeric}
use Rattle.rows.specs.Row.{entries_of}
use Rattle.nodes.specs.declared.BinaryOp.{BinaryOp}
use Rattle.refinements.specs.Refinement.{Refinement, refinements_of}
use Rattle.evaluation.specs.declared.Input as code
use Rattle.evaluation.specs.declared.Scene.{Scene}
use Rattle.evaluation.specs.declared.Operand.{Operand}
use Rattle.evaluation.specs.Evaluation.{Input, input, combined, Values}

abbrev pub input_in : code.Input → Input
input_in i = input i.nodes.now i.constants.now i.width

-- what is known of expressions
abbrev pub known_of : Scene → List Refinement
known_of s = refinements_of s.refinements.now s.count

-- ---- operands

-- what is asked of a value that is an operand
abbrev pub operand : Value → Operand
operand v = record { bound = v.bound; entries = entries_of v }

-- a numeric value has no list
abbrev pub numeral : Interval → Operand
numeral i = record { bound = numeric_bound i; entries = 0 }

-- the same run with its value as f shows it
abbrev pub shown : {A B : Type 0} → (A → B) → Run Stop Meter A → Run Stop Meter B
shown f (going a m) = going (f a) m
shown f (stopped s m) = stopped s m

abbrev pub sees : Run Stop Meter Value → Run Stop Meter Operand
sees x = shown operand x

abbrev pub sees_both : Run Stop Meter Values → Run Stop Meter (Operand × Operand)
sees_both x = shown (λ p. (operand p.first, operand p.second)) x

-- ---- a node with children, of what is seen of them: both are dropped, whichever way it ends

-- a unit of work, and then the interval of two
abbrev pub combining : List ℕ → List ℕ → BinaryOp → ℕ → ℕ → Interval → Interval → Metered Stop Meter Interval
combining nodes constants op l r x y = work 1 >> combined nodes constants op l r x y

abbrev pub one_left : Interval → ℕ → Metered Stop Meter Value
one_left i listed = dropping listed (work 1 >> pure (numeric i))

abbrev pub two_left : List ℕ → List ℕ → BinaryOp → ℕ → ℕ → Operand → Operand → Metered Stop Meter Value
two_left nodes constants op l r a b =
    dropping a.entries (dropping b.entries (work 1 >> (combined nodes constants op l r a.bound.interval b.bound.interval >>= (λ i. pure (numeric i)))))
