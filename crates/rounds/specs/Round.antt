-- `round` and `image` of engine.rs: all rules applied to given values, their heads joined into a copy of the seeds.
use Rattle.std.specs.Prelude.{ℕ, zero, suc, ◌+◌, List}
use Rattle.limits.specs.declared.Stop.{Stop}
use Rattle.limits.specs.declared.Budget.{Budget}
use Rattle.limits.specs.Metered.{Run, going, stopped, Metered, pure, ◌>>=◌, ◌>>◌, on_stop, zoom}
use Rattle.limits.specs.Budget.{round, released}
use Rattle.limits.specs.Meter.{meter_of, with_meter}
use Rattle.lattice.specs.Value.{Value}
use Rattle.lattice.specs.Lattice.{join}
use Rattle.limits.specs.Context.{Context}
use Rattle.rules.specs.declared.Head.{Head}
use Rattle.rules.specs.Read.{context_at, heads_at}
use Rattle.slots.specs.Slots.{Slots, slots, blank, total, paying, dropping, replace, each, copies}
use Rattle.refinements.specs.Refinement.{Refinement}
use Rattle.evaluation.specs.Evaluation.{Input}
use Rattle.transfer.specs.Transfer.{head}
use Rattle.rounds.specs.declared.Course.{Course}
use Rattle.rounds.specs.Locals.{with_locals}

-- what a run is given: the expressions, the constants and the width; the rules that it applies, and the seeds of its arguments
pub record Given : Type 0 where
  pub input : Input
  pub rules : List ℕ
  pub count : ℕ
  pub seeds : List ℕ
  pub positions : ℕ

abbrev pub given : Input → List ℕ → ℕ → List ℕ → ℕ → Given
given i r n s p = record { input = i; rules = r; count = n; seeds = s; positions = p }

-- where a run stands: the counts, the context in force, and the table that it fills
pub record Standing : Type 0 where
  pub budget : Budget
  pub context : Context
  pub rows : List ℕ

abbrev pub standing : Budget → Context → List ℕ → Standing
standing b c t = record { budget = b; context = c; rows = t }

abbrev pub charging : {A : Type 0} → Metered Stop Budget A → Metered Stop Standing A
charging = zoom (λ s. s.budget) (λ b s. standing b s.context s.rows)

abbrev pub in_table : {A : Type 0} → Metered Stop Slots A → Metered Stop Standing A
in_table = zoom (λ s. slots (meter_of s.budget) s.rows) (λ t s. standing (with_meter t.meter s.budget) s.context t.rows)

-- m while the first n rows are live, which are dropped where m is stopped
abbrev pub holding_rows : {A : Type 0} → ℕ → Metered Stop Standing A → Metered Stop Standing A
holding_rows n m = on_stop (λ s. standing (released (total s.rows n) s.budget) s.context s.rows) m

-- ---- rules

-- `input.context = producer.context`
abbrev pub set_context : Context → Metered Stop Standing (Unit {0})
set_context c s = going tt (standing s.budget c s.rows)

-- what f does with each rule, n of them from k on; a rule's context is in force from before its first charge
unfoldable pub each_rule : List ℕ → (ℕ → Metered Stop Slots (Unit {0})) → ℕ → ℕ → Metered Stop Standing (Unit {0})
each_rule rules f k zero = pure tt
each_rule rules f k (suc n) = set_context (context_at rules k) >> in_table (f k) >> each_rule rules f (k + 1) n

-- ---- heads

-- `result[argument] = result[argument].join(value)` with a value in hand
unfoldable pub join_owned : ℕ → ℕ → Value → Metered Stop Slots (Unit {0})
join_owned width argument v = dropping v (replace argument (λ old. join width old v))

-- a head's value, worked out under what the guards have recorded, joined into its argument
unfoldable pub join_head : Input → List ℕ → List Refinement → Head → Metered Stop Slots (Unit {0})
join_head i produced known h = paying (head i produced known h.value) >>= join_owned i.width h.argument

-- one rule of a round: its slots, and with them its heads, a unit of work before each
unfoldable pub apply : Input → List ℕ → List ℕ → ℕ → Metered Stop Slots (Unit {0})
apply i rules previous id = with_locals i rules id previous (λ l. each (join_head i l.produced l.known) (heads_at rules id))

-- ---- a round

-- the rules' heads, joined into a copy of the seeds; nothing of it stays live where this is stopped
unfoldable pub produce : Given → List ℕ → Metered Stop Standing (Unit {0})
produce g previous =
    in_table (copies g.seeds 0 g.positions) >> holding_rows g.positions (each_rule g.rules (apply g.input g.rules previous) 0 g.count)

unfoldable pub image : Given → List ℕ → Metered Stop Standing (Unit {0})
image g previous = charging round >> produce g previous

-- ---- in a table of its own

abbrev pub course : Budget → Context → Course
course b c = record { budget = b; context = c }

abbrev pub candidates_of : Run Stop Standing (Unit {0}) → Run Stop Course (List ℕ)
candidates_of (going tt s) = going s.rows (course s.budget s.context)
candidates_of (stopped e s) = stopped e (course s.budget s.context)

-- what a round makes of given values
unfoldable pub candidates : Given → List ℕ → Metered Stop Course (List ℕ)
candidates g previous c = candidates_of (image g previous (standing c.budget c.context (blank g.positions)))
