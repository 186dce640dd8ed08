-- The values of a rule's slots after guards: the rest of `rule` of transfer.rs, with `refine_comparison` and `refine_operand`.
use Rattle.std.specs.Prelude.{ℕ, Bool, cond, ◌&&◌, not, List, Option, Some, None}
use Rattle.limits.specs.declared.Stop.{Stop}
use Rattle.limits.specs.Metered.{Metered, pure, ◌>>=◌, ◌>>◌, fold_m, on_stop, finally, zoom}
use Rattle.limits.specs.declared.Meter.{Meter}
use Rattle.limits.specs.Meter.{work, released}
use Rattle.interval.specs.declared.Interval.{Interval}
use Rattle.interval.specs.Interval.{endpoints_of}
use Rattle.lattice.specs.Value.{Value}
use Rattle.rows.specs.Row.{entries_of, value_at}
use Rattle.rules.specs.declared.Relation.{Relation}
use Rattle.rules.specs.declared.Guard.{Guard}
use Rattle.rules.specs.declared.Guard.TheVariants.{Compare, Membership}
use Rattle.slots.specs.Slots.{Slots, slots, total, refine_into, copies}
use Rattle.refinements.specs.Refinement.{Notes, notes, refinements_of, integer?, note}
use Rattle.operators.specs.Arithmetic.{span}
use Rattle.evaluation.specs.Evaluation.{Input, known_identity, both}
use Rattle.affine.specs.declared.Affine.{Affine}
use Rattle.affine.specs.Affine.{flipped_of, restricted, neq?, affine, solved}

-- `Local`: the counts, the slots' values after guards, and what is known of expressions
pub record Local : Type 0 where
  pub meter : Meter
  pub produced : List ℕ
  pub refinements : List ℕ

abbrev pub local : Meter → List ℕ → List ℕ → Local
local m p r = record { meter = m; produced = p; refinements = r }

abbrev pub paying : {A : Type 0} → Metered Stop Meter A → Metered Stop Local A
paying = zoom (λ s. s.meter) (λ m s. local m s.produced s.refinements)

abbrev pub in_slots : {A : Type 0} → Metered Stop Slots A → Metered Stop Local A
in_slots = zoom (λ s. slots s.meter s.produced) (λ t s. local t.meter t.rows s.refinements)

abbrev pub in_notes : {A : Type 0} → Metered Stop Notes A → Metered Stop Local A
in_notes = zoom (λ s. notes s.meter s.refinements) (λ t s. local t.meter s.produced t.table)

abbrev pub fewer : ℕ → Local → Local
fewer n s = local (released n s.meter) s.produced s.refinements

-- m while a value in hand is live, which is dropped whichever way m ends
abbrev pub dropping : {A : Type 0} → Value → Metered Stop Local A → Metered Stop Local A
dropping v m = finally (fewer (entries_of v)) m

-- m while the first n produced values are live, which are dropped where m is stopped
abbrev pub holding_produced : {A : Type 0} → ℕ → Metered Stop Local A → Metered Stop Local A
holding_produced n m = on_stop (λ s. fewer (total s.produced n) s) m

-- ---- `refine_operand`: n refinements are recorded, and how many are then is the answer

abbrev pub narrow_slot : List ℕ → Option Affine → Interval → Metered Stop Slots (Unit {0})
narrow_slot constants None x = pure tt
narrow_slot constants (Some a) x = refine_into constants a.slot (solved a.shape a.constant (endpoints_of x))

-- what is known of an expression, and of a slot
unfoldable pub narrow_known : List ℕ → List ℕ → ℕ → ℕ → Interval → Metered Stop Local ℕ
narrow_known nodes constants n id x = in_notes (note n id x) >>= (λ k. in_slots (narrow_slot constants (affine nodes constants id) x) >> pure k)

-- an expression that holds an Unknown has not one value: what a guard says of it holds of no other occurrence
unfoldable pub refine_operand : List ℕ → List ℕ → ℕ → ℕ → Interval → Metered Stop Local ℕ
refine_operand nodes constants n id x = paying (known_identity nodes id) >>= (λ t. cond t (narrow_known nodes constants n id x) (pure n))

-- ---- `refine_comparison`

-- the left operand lies in x and the right one in y
unfoldable pub refine_both : List ℕ → List ℕ → ℕ → ℕ → Interval → ℕ → Interval → Metered Stop Local ℕ
refine_both nodes constants n left x right y = refine_operand nodes constants n left x >>= (λ k. refine_operand nodes constants k right y)

-- 01: "A comparison narrows only if both operands are integers and the relation is not ≠"
abbrev pub narrowing? : Relation → Value → Value → Bool
narrowing? relation a b = integer? a && (integer? b && not (neq? relation))

-- both restrictions come from the operands as they were worked out
unfoldable pub compared : List ℕ → List ℕ → ℕ → ℕ → Relation → ℕ → Value → Value → Metered Stop Local ℕ
compared nodes constants n left relation right a b =
    cond (narrowing? relation a b)
    (refine_both nodes constants n left (restricted relation a.bound.interval b.bound.interval) right (restricted (flipped_of relation) b.bound.interval a.bound.interval))
    (pure n)

-- ---- a membership guard: nothing is recorded of it

-- the slot and both values have numbers alone
abbrev pub spanning? : Value → Value → Value → Bool
spanning? own a b = integer? own && (integer? a && integer? b)

unfoldable pub member : List ℕ → ℕ → ℕ → Value → Value → Metered Stop Local ℕ
member constants n slot a b s =
    cond (spanning? (value_at s.produced slot) a b)
    ((in_slots (refine_into constants slot (span a.bound.interval b.bound.interval)) >> pure n) s) (pure n s)

-- ---- a guard of either kind

-- two expressions over the produced values, under what is known; f while both are live
unfoldable pub with_both : Input → ℕ → ℕ → ℕ → (Value → Value → Metered Stop Local ℕ) → Metered Stop Local ℕ
with_both i n left right f s =
    (paying (both i s.produced (refinements_of s.refinements n) left right) >>= (λ p. dropping p.first (dropping p.second (f p.first p.second)))) s

-- the two expressions that it works out
abbrev pub operands : Guard → ℕ × ℕ
operands (Compare left relation right) = (left, right)
operands (Membership slot low high) = (low, high)

-- what it does with their values
abbrev pub narrowed : Input → ℕ → Guard → Value → Value → Metered Stop Local ℕ
narrowed i n (Compare left relation right) = compared i.nodes i.constants n left relation right
narrowed i n (Membership slot low high) = member i.constants n slot

abbrev pub guard_one : Input → ℕ → Guard → Metered Stop Local ℕ
guard_one i n g = with_both i n (operands g).0 (operands g).1 (narrowed i n g)

-- ---- all guards, a unit of work before each

unfoldable pub guard_step : Input → ℕ → Guard → Metered Stop Local ℕ
guard_step i n g = paying (work 1) >> guard_one i n g

-- how many refinements are recorded is handed from guard to guard
unfoldable pub guard_all : Input → List Guard → Metered Stop Local ℕ
guard_all i gs = fold_m (guard_step i) 0 gs

-- of a rule with n slots: the values before guards are copied, then each guard narrows them
unfoldable pub guard : Input → List ℕ → ℕ → List Guard → Metered Stop Local ℕ
guard i domains n gs = in_slots (copies domains 0 n) >> holding_produced n (guard_all i gs)
