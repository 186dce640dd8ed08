-- The values of a rule's slots before guards: the three passes of `rule` of transfer.rs over the bindings. 01: "Bindings, guards and heads
-- follow transfer.rs in order."
use Rattle.std.specs.Prelude.{ℕ, List, []}
use Rattle.limits.specs.declared.Stop.{Stop}
use Rattle.limits.specs.Metered.{Metered, pure, ◌>>=◌, ◌>>◌}
use Rattle.limits.specs.declared.Meter.{Meter}
use Rattle.limits.specs.Meter.{dropping}
use Rattle.interval.specs.declared.Interval.TheVariants.{Unbounded}
use Rattle.lattice.specs.declared.Widening.TheVariants.{HeadTerm}
use Rattle.std.specs.Prelude.{Some}
use Rattle.lattice.specs.Value.{Value}
use Rattle.lattice.specs.Lattice.{top, numeric}
use Rattle.rows.specs.Row.{entries_of}
use Rattle.rules.specs.declared.AggregateFunction.{AggregateFunction}
use Rattle.rules.specs.declared.AggregateFunction.TheVariants.{Count, Sum, SumPlus, Min, Max}
use Rattle.rules.specs.declared.Binding.{Binding}
use Rattle.rules.specs.declared.Binding.TheVariants.{Positive, Assign, Range, Aggregate}
use Rattle.slots.specs.Slots.{Slots, paying, holding_rows, meet_owned, each, tops, meet_argument, mark_dependent}
use Rattle.operators.specs.Arithmetic.{span}
use Rattle.evaluation.specs.Evaluation.{Input, expression, Values, both}

-- an expression over the slots' values as they stand: no guard has been seen yet
unfoldable pub assigned : Input → List ℕ → ℕ → Metered Stop Meter Value
assigned i rows id = expression i rows [] id

-- counts and sums are numbers, minimum and maximum any value
abbrev pub aggregate : AggregateFunction → Value
aggregate Count = numeric Unbounded
aggregate Sum = numeric Unbounded
aggregate SumPlus = numeric Unbounded
aggregate Min = top (Some HeadTerm)
aggregate Max = top (Some HeadTerm)

-- from the low end of one to the high end of another; both are dropped before the value is used
unfoldable pub spanning : Values → Metered Stop Meter Value
spanning p = dropping (entries_of p.first) (dropping (entries_of p.second) (pure (numeric (span p.first.bound.interval p.second.bound.interval))))

unfoldable pub ranged : Input → List ℕ → ℕ → ℕ → Metered Stop Meter Value
ranged i rows low high = both i rows [] low high >>= spanning

-- a value that is worked out over the rows as they stand meets a slot
unfoldable pub meeting : List ℕ → ℕ → (List ℕ → Metered Stop Meter Value) → Metered Stop Slots (Unit {0})
meeting constants slot f s = (paying (f s.rows) >>= meet_owned constants slot) s

abbrev pub meet_binding : Input → Binding → Metered Stop Slots (Unit {0})
meet_binding i (Positive slot argument) = pure tt
meet_binding i (Assign slot value) = meeting i.constants slot (λ rows. assigned i rows value)
meet_binding i (Range slot low high) = meeting i.constants slot (λ rows. ranged i rows low high)
meet_binding i (Aggregate slot function) = meet_owned i.constants slot (aggregate function)

-- positive bindings, their reasons, all other bindings
unfoldable pub three_passes : Input → List ℕ → List Binding → Metered Stop Slots (Unit {0})
three_passes i arguments bs = each (meet_argument i.constants arguments) bs >> each mark_dependent bs >> each (meet_binding i) bs

-- of a rule with n slots, of which nothing is known at first
unfoldable pub bind : Input → List ℕ → ℕ → List Binding → Metered Stop Slots (Unit {0})
bind i arguments n bs = tops 0 n >> holding_rows n (three_passes i arguments bs)
