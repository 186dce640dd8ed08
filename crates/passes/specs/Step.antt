-- One argument of a pass (the inner loop of `run` in engine.rs): the old value is joined with its candidate, and its interval widened.
use Rattle.std.specs.Prelude.{ℕ, zero, suc, ◌+◌, Bool, cond, not, ◌||◌, List, ℤ}
use Rattle.limits.specs.declared.Stop.{Stop}
use Rattle.limits.specs.declared.Budget.{Budget}
use Rattle.limits.specs.Metered.{Run, going, stopped, Metered, pure, ◌>>=◌, ◌>>◌, on_stop}
use Rattle.limits.specs.Budget.{released, widened_once}
use Rattle.limits.specs.declared.Meter.{Meter}
use Rattle.limits.specs.Meter.{work, holding, meter_of, with_meter}
use Rattle.interval.specs.declared.Interval.{Interval}
use Rattle.lattice.specs.Value.{Value, value}
use Rattle.lattice.specs.Lattice.{join, same, loses}
use Rattle.rows.specs.Row.{entries_of, value_at, put}
use Rattle.slots.specs.Slots.{total}
use Rattle.widening.specs.declared.Growth.{Growth}
use Rattle.widening.specs.Widening.{widen, growth_at, put_growth}

-- the new value of an argument, its growth, and whether its bound or its list has changed
pub record Grown : Type 0 where
  pub value : Value
  pub growth : Growth
  pub changed : Bool

abbrev pub grown : Value → Growth → Bool → Grown
grown v g c = record { value = v; growth = g; changed = c }

-- the same value with another interval
abbrev pub within : Interval → Value → Value
within i v = value (record { integrality = v.bound.integrality; interval = i }) v.values v.widening

-- a new value compared with the old one, and dropped where this is stopped
unfoldable pub with_change : Value → Value → Growth → Metered Stop Meter Grown
with_change old v g = holding (entries_of v) (same old v) >>= (λ s. pure (grown v g (not s)))

-- a joined value widened and compared
unfoldable pub widen_value : List ℤ → Value → Value → Growth → Metered Stop Meter Grown
widen_value thresholds old v g = do
  w ← holding (entries_of v) (widen thresholds old.bound.interval v.bound.interval g)
  with_change old (within w.interval v) w.growth

-- 01: "each old value is joined with its new one and its interval widened"
unfoldable pub grow : ℕ → List ℤ → Value → Value → Growth → Metered Stop Meter Grown
grow width thresholds old candidate g = do
  work 1
  v ← join width old candidate
  widen_value thresholds old v g

-- ---- in tables

-- what the arguments of a pass change: the counts, the next values, and how often sides have grown
pub record Steps : Type 0 where
  pub budget : Budget
  pub next : List ℕ
  pub growth : List ℕ

abbrev pub steps : Budget → List ℕ → List ℕ → Steps
steps b n g = record { budget = b; next = n; growth = g }

-- an argument that has lost its list is counted
abbrev pub count_lost : Bool → Budget → Budget
count_lost lost b = cond lost (widened_once b) b

abbrev pub advanced : ℕ → Value → Steps → Run Stop Meter Grown → Run Stop Steps Bool
advanced k old s (going g m) =
    going g.changed
    (steps (count_lost (loses old.values g.value.values) (with_meter m s.budget)) (put s.next k g.value) (put_growth s.growth k g.growth))
advanced k old s (stopped e m) = stopped e (steps (with_meter m s.budget) s.next s.growth)

-- the k-th argument: its value and its candidate, joined and widened, and its growth
unfoldable pub advance_one : List ℤ → List ℕ → List ℕ → ℕ → Metered Stop Steps Bool
advance_one thresholds current candidates k s =
    advanced k (value_at current k) s
    (grow s.budget.limits.width thresholds (value_at current k) (value_at candidates k) (growth_at s.growth k) (meter_of s.budget))

-- m while the first n of the next values are live, which are dropped where m is stopped
abbrev pub holding_next : {A : Type 0} → ℕ → Metered Stop Steps A → Metered Stop Steps A
holding_next n m = on_stop (λ s. steps (released (total s.next n) s.budget) s.next s.growth) m

-- n arguments from k on: whether one of them has changed, or one before them
unfoldable pub advance : List ℤ → List ℕ → List ℕ → ℕ → ℕ → Bool → Metered Stop Steps Bool
advance thresholds current candidates k zero changed = pure changed
advance thresholds current candidates k (suc n) changed =
    holding_next k (advance_one thresholds current candidates k) >>= (λ moved. advance thresholds current candidates (k + 1) n (changed || moved))
