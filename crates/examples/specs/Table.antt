-- The examples of 01 that are proved, one row each, with 01's words above it: a computation, and what it gives.
use Rattle.std.specs.Prelude.{ℕ, ◌*◌, ◌≡◌, List, [], ◌∷◌, pos, replicate}
use Rattle.sizes.specs.Sizes as size
use Rattle.std.proofs.Math.Option.{Option, some, none}
use Rattle.limits.specs.declared.Limits.{Limits}
use Rattle.limits.specs.declared.Stop.{Stop}
use Rattle.limits.specs.Refusal.{Told}
use Rattle.limits.specs.Metered.{Run, going, stopped, Metered}
use Rattle.limits.specs.declared.Meter.{Meter}
use Rattle.limits.specs.Meter.{meter}
use Rattle.interval.specs.declared.Interval.{Interval}
use Rattle.interval.specs.declared.Interval.TheVariants.{Bottom, Bounded}
use Rattle.interval.specs.Interval.{hull_of, meet_of, endpoints_of, checked_of}
use Rattle.interval.specs.Bound.{top_bound}
use Rattle.lattice.specs.declared.Widening.TheVariants.{ValueWidth}
use Rattle.std.specs.Prelude.{Option as Optional, None, Some}
use Rattle.lattice.specs.Value.{Value, value}
use Rattle.lattice.specs.Lattice.{join}
use Rattle.store.specs.declared.Phase.TheVariants.{Open}
use Rattle.store.specs.Store.{with_predicate, empty}
use Rattle.store.specs.Calls.{bottoms}
use Rattle.seeds.specs.Seed.{IntervalTables, interval_tables, seed_interval_call}
use Rattle.cells.specs.Cells.{to_cell}
use Rattle.nodes.specs.declared.BinaryOp.TheVariants.{Sub}
use Rattle.nodes.specs.declared.Expression.TheVariants.{Constant, Slot, Binary}
use Rattle.nodes.specs.Node.{node_of, put_node}
use Rattle.affine.specs.declared.Affine.{Affine}
use Rattle.affine.specs.Affine.{affine, solved}
use Rattle.widening.specs.declared.Wide.{Wide}
use Rattle.widening.specs.Widening.{growth, wide, widen}

infix 5 ◌is◌
pub data Example : Type 1 where
  ◌is◌ : {A : Type 0} → A → A → Example

abbrev pub Right : Example → Type 0
Right (x is y) = x ≡ y

-- what the theorem says of the table: each row's computation gives what stands beside it
abbrev pub Every : List Example → Type 0
Every [] = Unit {0}
Every (e ∷ l) = Right e × Every l

-- ---- the words of the rows

-- low..high
infix 50 ◌‥◌
abbrev pub ◌‥◌ : ℕ → ℕ → Interval
low ‥ high = Bounded (pos low) (pos high)

-- any value with this list
abbrev pub listed : List ℕ → Value
listed l = value top_bound (some l) None

abbrev pub completed : {A : Type 0} → Run Stop Meter A → Option A
completed (going a m) = some a
completed (stopped e m) = none

-- the value of a computation with ample limits
abbrev pub run : {A : Type 0} → Metered Stop Meter A → Option A
run c = completed (c (meter 0 1000 0 1000))

abbrev pub ample : Limits
ample = record { work = 1000; predicates = 1000; positions = 1000; links = 1000; width = 4; entries = 1000; rounds = 1000; bytes = 1000; symbol = 64 }

-- an open store with ample limits and one argument that nothing is seeded to; all else in the tables is 0
abbrev pub opened : IntervalTables
opened = interval_tables (with_predicate 1 (empty ample Open)) (bottoms (replicate size.argument_cells 0) 0 1) (replicate size.record_cells 0) (replicate size.thresholds (pos 0))

-- what a call is turned down with, if it is
abbrev pub turned_down : {S A : Type 0} → Run Told S A → Option Told
turned_down (going a s) = none
turned_down (stopped e s) = some e

-- low..high is seeded to that argument
abbrev pub seeding : ℕ → ℕ → Option Told
seeding low high = turned_down (seed_interval_call 0 (pos low) (pos high) opened)

abbrev pub accepted : Option Told
accepted = none

abbrev pub refused_by : ℕ → Option Told
refused_by n = some record { number = n; values = [] }

-- from the old interval to the new one by thresholds 2 and 9; the low side has not grown before, the high side so often
abbrev pub widening : Interval → Interval → ℕ → Option Wide
widening old new growths = run (widen (pos 2 ∷ pos 9 ∷ []) old new (growth 0 growths))

-- a table of constants whose first is 10, and one of expressions: 10, slot 3, and 10 − slot
abbrev pub ten : List ℕ
ten = 1 ∷ to_cell (pos 10) ∷ []

abbrev pub ten_less_slot : List ℕ
ten_less_slot = put_node (put_node (put_node (replicate (size.node_row * 3) 0) 0 (node_of (Constant 0)) 1) 1 (node_of (Slot 3)) 1) 2 (node_of (Binary Sub 0 1)) 2

-- the slot of an affine expression, and where it lies if the expression lies in an interval
abbrev pub solving : Optional Affine → Interval → Option (ℕ × Interval)
solving None x = none
solving (Some a) x = some (a.slot, solved a.shape a.constant (endpoints_of x))

-- ---- the table

abbrev pub table : List Example
table =
    -- K1 "hull of empty and 3..4 is 3..4"
    (hull_of Bottom (3 ‥ 4) is 3 ‥ 4) ∷
    -- K2 "meet of 1..2 and 3..4 is empty"
    (meet_of (1 ‥ 2) (3 ‥ 4) is Bottom) ∷
    -- K3 "checked 2147483648..2147483649 is empty"
    (checked_of (pos 2147483648) (pos 2147483649) is Bottom) ∷
    -- K4 "lists {1,3} and {3}, width 2: {1,3}"
    (run (join 2 (listed (1 ∷ 3 ∷ [])) (listed (3 ∷ []))) is some (listed (1 ∷ 3 ∷ []))) ∷
    -- K5 "{1,3} and {5}, width 2: none, ValueWidth"
    (run (join 2 (listed (1 ∷ 3 ∷ [])) (listed (5 ∷ []))) is some (value top_bound none (Some ValueWidth))) ∷
    -- K6 "seed 3..3 accepted"
    (seeding 3 3 is accepted) ∷
    -- K7 "4..3 refused by 5", and 02, CR 3: "K7 becomes 13"
    (seeding 4 3 is refused_by 13) ∷
    -- K8 "old 0..2, new 0..3, two growths, thresholds 2, 9: 0..9"
    (widening (0 ‥ 2) (0 ‥ 3) 2 is some (wide (0 ‥ 9) (growth 0 2))) ∷
    -- K9 "one growth: 0..3"
    (widening (0 ‥ 2) (0 ‥ 3) 1 is some (wide (0 ‥ 3) (growth 0 2))) ∷
    -- K10 "10 − slot in 0..4: slot 6..10"
    (solving (affine ten_less_slot ten 2) (0 ‥ 4) is some (3, 6 ‥ 10)) ∷
    []
