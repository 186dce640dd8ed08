-- One pass, and passes until one changes nothing. 01, "The run and one round".
use Rattle.limits.specs.Context.{Context}
use Rattle.std.specs.Prelude.{ℕ, zero, suc, ◌-◌, Bool, false, cond, List, ℤ}
use Rattle.limits.specs.declared.Stop.{Stop}
use Rattle.limits.specs.declared.Budget.{Budget}
use Rattle.limits.specs.Metered.{Run, going, stopped, Metered, pure, ◌>>=◌, zoom}
use Rattle.limits.specs.Budget.{released}
use Rattle.slots.specs.Slots.{blank, total}
use Rattle.rows.specs.Row.{moved}
use Rattle.rounds.specs.declared.Course.{Course}
use Rattle.rounds.specs.Round.{Given, course, candidates}
use Rattle.passes.specs.Step.{Steps, steps, advance}

-- what a run hands on from pass to pass: the counts, the context in force, the current values, and how often sides have grown
pub record Ascent : Type 0 where
  pub budget : Budget
  pub context : Context
  pub current : List ℕ
  pub growth : List ℕ

abbrev pub ascent : Budget → Context → List ℕ → List ℕ → Ascent
ascent b c v g = record { budget = b; context = c; current = v; growth = g }

abbrev pub in_course : {A : Type 0} → Metered Stop Course A → Metered Stop Ascent A
in_course = zoom (λ s. course s.budget s.context) (λ c s. ascent c.budget c.context s.current s.growth)

-- ---- a pass

-- the next values take the place of the current ones, which are dropped, as the candidates are
abbrev pub replaced : ℕ → List ℕ → Ascent → Run Stop Steps Bool → Run Stop Ascent Bool
replaced n cs s (going changed t) =
    going changed
    (ascent (released (total s.current n) (released (total cs n) t.budget)) s.context (moved t.next n s.current) t.growth)
replaced n cs s (stopped e t) = stopped e (ascent (released (total cs n) t.budget) s.context s.current t.growth)

-- each current value joined with its candidate and widened, in a table of their own
unfoldable pub renew : ℕ → List ℤ → List ℕ → Metered Stop Ascent Bool
renew n thresholds cs s = replaced n cs s (advance thresholds s.current cs 0 n false (steps s.budget (blank n) s.growth))

-- whether it has changed a bound or a list
unfoldable pub pass : Given → List ℤ → Metered Stop Ascent Bool
pass g thresholds s = (in_course (candidates g s.current) >>= renew g.positions thresholds) s

-- ---- the ascent

-- n passes at most
unfoldable pub passes : Given → List ℤ → ℕ → Metered Stop Ascent (Unit {0})
passes g thresholds zero = pure tt
passes g thresholds (suc n) = pass g thresholds >>= (λ changed. cond changed (passes g thresholds n) (pure tt))

-- passes until one changes nothing: each charges a round, so that one more than the rounds left are never reached (`ascend_any`)
unfoldable pub ascend : Given → List ℤ → Metered Stop Ascent (Unit {0})
ascend g thresholds s = passes g thresholds (suc (s.budget.limits.rounds - s.budget.statistics.rounds)) s
