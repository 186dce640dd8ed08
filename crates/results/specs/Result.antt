-- The end of `run` in engine.rs: the last round, the bounds of the rules' slots before and after guards, and the closing charge.
use Rattle.std.specs.Prelude.{ℕ, zero, suc, ◌+◌, ◌*◌, Bool, true, false, cond, ◌&&◌, List, ltb}
use Rattle.sizes.specs.Sizes as size
use Rattle.std.proofs.lemmas.List.Edits.{sets}
use Rattle.limits.specs.declared.Stop.{Stop}
use Rattle.limits.specs.declared.Budget.{Budget}
use Rattle.limits.specs.Metered.{going, Metered, pure, ◌>>=◌, ◌>>◌, zoom}
use Rattle.limits.specs.Budget.{work, released}
use Rattle.interval.specs.declared.Bound.{Bound}
use Rattle.rows.specs.Row.{bound_cells, value_at, moved}
use Rattle.limits.specs.Context.{Context}
use Rattle.rules.specs.Read.{slots_at}
use Rattle.slots.specs.Slots.{Slots, slots, total, after_unit}
use Rattle.evaluation.specs.Evaluation.{Input}
use Rattle.rounds.specs.Locals.{with_locals}
use Rattle.rounds.specs.declared.Course.{Course}
use Rattle.rounds.specs.Round.{Given, Standing, standing, charging, each_rule, course, candidates}

-- ---- the bounds of the rules' slots: two for each slot of each rule

-- where a slot's bound stands: before guards, or after them
abbrev pub bound_place : ℕ → ℕ → Bool → ℕ
bound_place id slot after = size.bounds_row * id + size.slot_row * slot + cond after size.bound_row 0

-- a rule or a slot that the table has no place for is not written
unfoldable pub put_bound : List ℕ → ℕ → ℕ → Bool → Bound → List ℕ
put_bound cells id slot after b = cond (ltb id size.rules && ltb slot size.slots) (sets cells (bound_place id slot after) (bound_cells b)) cells

abbrev pub keeping : ℕ → ℕ → Bool → Bound → Metered Stop Slots (Unit {0})
keeping id slot after b s = going tt (slots s.meter (put_bound s.rows id slot after b))

-- n slots from k on, a unit of work before each
unfoldable pub keep_bounds : List ℕ → ℕ → Bool → ℕ → ℕ → Metered Stop Slots (Unit {0})
keep_bounds rows id after k zero = pure tt
keep_bounds rows id after k (suc n) = after_unit (keeping id k after (value_at rows k).bound) >> keep_bounds rows id after (k + 1) n

-- all before guards, then all after them
unfoldable pub keep_both : List ℕ → List ℕ → ℕ → ℕ → Metered Stop Slots (Unit {0})
keep_both domains produced n id = keep_bounds domains id false 0 n >> keep_bounds produced id true 0 n

-- one rule: its slots are made once more, over the values of the result, and their bounds kept
unfoldable pub bound : Input → List ℕ → List ℕ → ℕ → Metered Stop Slots (Unit {0})
bound i rules current id = with_locals i rules id current (λ l. keep_both l.domains l.produced (slots_at rules id) id)

-- all rules, and a unit of work for each argument
unfoldable pub close : Input → List ℕ → ℕ → ℕ → List ℕ → Metered Stop Standing (Unit {0})
close i rules count positions current = each_rule rules (bound i rules current) 0 count >> charging (work positions)

-- ---- the last round, over the current values

abbrev pub in_course : {A : Type 0} → Metered Stop Course A → Metered Stop Standing A
in_course = zoom (λ s. course s.budget s.context) (λ c s. standing c.budget c.context s.rows)

-- new values take the place of the current ones, which are dropped
abbrev pub taking : ℕ → List ℕ → Metered Stop Standing (Unit {0})
taking n new s = going tt (standing (released (total s.rows n) s.budget) s.context (moved new n s.rows))

-- 01: "one last round gives the result"
unfoldable pub last_round : Given → Metered Stop Standing (Unit {0})
last_round g s = (in_course (candidates g s.rows) >>= taking g.positions) s

-- ---- both

-- what the end of a run changes: the counts, the context in force, the current values, and the bounds of the rules' slots
pub record Ending : Type 0 where
  pub budget : Budget
  pub context : Context
  pub current : List ℕ
  pub bounds : List ℕ

abbrev pub ending : Budget → Context → List ℕ → List ℕ → Ending
ending b c v t = record { budget = b; context = c; current = v; bounds = t }

abbrev pub in_values : {A : Type 0} → Metered Stop Standing A → Metered Stop Ending A
in_values = zoom (λ s. standing s.budget s.context s.current) (λ t s. ending t.budget t.context t.rows s.bounds)

abbrev pub in_bounds : {A : Type 0} → Metered Stop Standing A → Metered Stop Ending A
in_bounds = zoom (λ s. standing s.budget s.context s.bounds) (λ t s. ending t.budget t.context s.current t.rows)

-- with the current values as they then stand
unfoldable pub closing : Given → Metered Stop Ending (Unit {0})
closing g s = in_bounds (close g.input g.rules g.count g.positions s.current) s

unfoldable pub last : Given → Metered Stop Ending (Unit {0})
last g = in_values (last_round g) >> closing g
