-- `run` of engine.rs over tables of its own. 01, "The run and one round".
use Rattle.std.specs.Prelude.{ℕ, cond, List, eqb, ℤ}
use Rattle.integers.specs.Order.{least32, greatest32}
use Rattle.limits.specs.declared.Stop.{Stop}
use Rattle.limits.specs.declared.Budget.{Budget}
use Rattle.limits.specs.Metered.{going, Metered, ◌>>◌, on_stop, zoom}
use Rattle.limits.specs.Budget.{work, released}
use Rattle.limits.specs.Meter.{meter_of, with_meter}
use Rattle.thresholds.specs.Thresholds.{Entry, entry, enter}
use Rattle.limits.specs.Context.{Context}
use Rattle.slots.specs.Slots.{slots, total, copies}
use Rattle.widening.specs.Widening.{no_growth}
use Rattle.rounds.specs.Round.{Given}
use Rattle.passes.specs.Pass.{Ascent, ascent, ascend}
use Rattle.results.specs.Result.{Ending, ending, closing, last}

-- ---- what a run begins with

-- `complete_thresholds`: both ends of 32 bits are thresholds
unfoldable pub enter_ends : Metered Stop Entry (Unit {0})
enter_ends = enter least32 >> enter greatest32

-- the counts, the current values, and how often sides have grown
pub record Start : Type 0 where
  pub budget : Budget
  pub current : List ℕ
  pub growth : List ℕ

abbrev pub start : Budget → List ℕ → List ℕ → Start
start b v g = record { budget = b; current = v; growth = g }

abbrev pub copying : List ℕ → ℕ → Metered Stop Start (Unit {0})
copying seeds n =
    zoom (λ s. slots (meter_of s.budget) s.current) (λ t s. start (with_meter t.meter s.budget) t.rows s.growth) (copies seeds 0 n)

-- a unit of work for each argument's growth; the copies are dropped where this is stopped
abbrev pub paying_growth : ℕ → Metered Stop Start (Unit {0})
paying_growth n =
    on_stop (λ s. start (released (total s.current n) s.budget) s.current s.growth)
    (zoom (λ s. s.budget) (λ b s. start b s.current s.growth) (work n))

abbrev pub clearing : ℕ → Metered Stop Start (Unit {0})
clearing n s = going tt (start s.budget s.current (no_growth s.growth n))

-- the seeds are the current values, and no side has grown
unfoldable pub seeded : List ℕ → ℕ → Metered Stop Start (Unit {0})
seeded seeds n = copying seeds n >> paying_growth n >> clearing n

-- what a run begins with: the thresholds with the budget, and both tables that it works in
pub record Beginning : Type 0 where
  pub entry : Entry
  pub current : List ℕ
  pub growth : List ℕ

abbrev pub beginning : Entry → List ℕ → List ℕ → Beginning
beginning e v g = record { entry = e; current = v; growth = g }

abbrev pub in_entry : {A : Type 0} → Metered Stop Entry A → Metered Stop Beginning A
in_entry = zoom (λ s. s.entry) (λ e s. beginning e s.current s.growth)

abbrev pub in_start : {A : Type 0} → Metered Stop Start A → Metered Stop Beginning A
in_start =
    zoom (λ s. start s.entry.budget s.current s.growth)
    (λ t s. beginning (entry t.budget s.entry.count s.entry.table) t.current t.growth)

unfoldable pub begin : List ℕ → ℕ → Metered Stop Beginning (Unit {0})
begin seeds n = in_entry enter_ends >> in_start (seeded seeds n)

-- ---- from there to the result

-- all that a run changes but thresholds: the counts, the context in force, the current values, how often sides have grown, and the bounds
-- of the rules' slots
pub record Progress : Type 0 where
  pub budget : Budget
  pub context : Context
  pub current : List ℕ
  pub growth : List ℕ
  pub bounds : List ℕ

abbrev pub progress : Budget → Context → List ℕ → List ℕ → List ℕ → Progress
progress b c v g t = record { budget = b; context = c; current = v; growth = g; bounds = t }

abbrev pub in_ascent : {A : Type 0} → Metered Stop Ascent A → Metered Stop Progress A
in_ascent =
    zoom (λ s. ascent s.budget s.context s.current s.growth)
    (λ t s. progress t.budget t.context t.current t.growth s.bounds)

abbrev pub in_ending : {A : Type 0} → Metered Stop Ending A → Metered Stop Progress A
in_ending =
    zoom (λ s. ending s.budget s.context s.current s.bounds)
    (λ t s. progress t.budget t.context t.current s.growth t.bounds)

unfoldable pub ascend_and_end : Given → List ℤ → Metered Stop Progress (Unit {0})
ascend_and_end g thresholds = in_ascent (ascend g thresholds) >> in_ending (last g)

-- 01: "With no rules the seeds are the result. Otherwise [..] this repeats until a pass changes no bound and no list; one last round gives the result."
unfoldable pub finish : Given → List ℤ → Metered Stop Progress (Unit {0})
finish g thresholds = cond (eqb g.count 0) (in_ending (closing g)) (ascend_and_end g thresholds)
