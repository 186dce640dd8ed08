-- What the code of rounds answers is what the definitions say, over plain variables.
use Prim.Native.Nat.{ℕ, suc, ◌+◌, ◌-◌, ◌≤◌, ◌<◌}
use native.Mathlib.Omega.{arith}
use native.Mathlib.Nat.{min-le_right}
use mathlib.Core.Path.{◌≡◌, refl, sym, ap, ◌∙◌}
use mathlib.Core.List.{List}
use Rattle.std.proofs.Common.{Result, Ok, Err}
use Rattle.limits.specs.declared.Stop.{Stop}
use Rattle.limits.specs.declared.Budget.{Budget}
use Rattle.limits.specs.declared.Meter.{Meter}
use Rattle.limits.specs.Metered.{Run, going, stopped, answered, Metered, ◌>>◌, mapped, through, zoom}
use Rattle.limits.specs.Meter.{meter_of, with_meter}
use Rattle.limits.proofs.Answering.{went, broke, answered_through}
use Rattle.limits.proofs.Onward.{Onward, onward_begins, onward_ends, then_stops, then_goes}
use Rattle.rules.specs.Read.{context_at, slots_at}
use Rattle.limits.specs.Context.{Context}
use Rattle.slots.specs.Slots.{Slots, slots}
use Rattle.rounds.specs.declared.Course.{Course}
use Rattle.rounds.specs.Round.{Standing, standing, in_table, set_context, each_rule, course, candidates_of}
use Rattle.slots.specs.Lent.{in_budget}

-- ---- a rule's slots fit the cells that are lent for them

pub few_slots : (rules : List ℕ) (id : ℕ) → slots_at rules id ≤ 16
unfolding slots_at
few_slots rules id = min-le_right _ 16

-- ---- a table in a budget, in a state that has both among other things

module _ {S : Type 0} (budget_of : S → Budget) (rows_of : S → List ℕ) (put : Budget → List ℕ → S → S) (m : Metered Stop Slots (Unit {0})) (s : S) where
  pub answered_budget : (r : Result (Unit {0}) Stop) (b : Budget) (rows : List ℕ) → answered r (b, rows) ≡ in_budget m (budget_of s, rows_of s) →
      answered r (put b rows s) ≡ zoom (λ t. slots (meter_of (budget_of t)) (rows_of t)) (λ u t. put (with_meter u.meter (budget_of t)) u.rows t) m s
  unfolding through mapped
  answered_budget r b rows h = answered_through (λ t. (budget_of t, rows_of t)) (λ t p. put p.0 p.1 t) (in_budget m) s r (b, rows) h ∙ go (m (slots (meter_of (budget_of s)) (rows_of s)))
    where
      go : (y : Run Stop Slots (Unit {0})) →
          mapped (λ (p : Budget × List ℕ). put p.0 p.1 s) (λ p. put p.0 p.1 s) (λ e. e) (mapped (λ t. (with_meter t.meter (budget_of s), t.rows)) (λ t. (with_meter t.meter (budget_of s), t.rows)) (λ e. e) y) ≡
          mapped (λ u. put (with_meter u.meter (budget_of s)) u.rows s) (λ u. put (with_meter u.meter (budget_of s)) u.rows s) (λ e. e) y
      go (going a t) = refl
      go (stopped e t) = refl

pub answered_table : (m : Metered Stop Slots (Unit {0})) (s : Standing) (r : Result (Unit {0}) Stop) (b : Budget) (rows : List ℕ) → answered r (b, rows) ≡ in_budget m (s.budget, s.rows) →
    answered r (standing b s.context rows) ≡ in_table m s
answered_table m s r b rows h = answered_budget (λ s. s.budget) (λ s. s.rows) (λ b t s. standing b s.context t) m s r b rows h

-- ---- rules, one by one

module _ (rules : List ℕ) (f : ℕ → Metered Stop Slots (Unit {0})) (count : ℕ) (s : Standing) where
  abbrev pub Ruling : ℕ → Standing → Type 0
  Ruling k t = Onward (each_rule rules f 0 count) s (each_rule rules f k (count - k)) t

  pub ruling : Ruling 0 s
  ruling = let e : count ≡ count - 0 = omega arith in onward_begins s (ap (each_rule rules f 0) e)

  module _ {k : ℕ} {b : Budget} {c : Context} {rows : List ℕ} (h : Ruling k (standing b c rows)) where
    pub ruled : count ≤ k → going tt (standing b c rows) ≡ each_rule rules f 0 count s
    unfolding each_rule
    ruled l = let e : count - k ≡ 0 = omega arith in onward_ends h (ap (each_rule rules f k) e)

    module _ (l : k < count) where
      -- what follows a rule's context
      abbrev onward : Metered Stop Standing (Unit {0})
      onward = in_table (f k) >> each_rule rules f (k + 1) (count - (k + 1))

      rules_next : each_rule rules f k (count - k) ≡ (set_context (context_at rules k) >> onward)
      unfolding each_rule
      rules_next = let e : count - k ≡ suc (count - (k + 1)) = omega arith in ap (each_rule rules f k) e

      module _ {force : Context} (q : force ≡ context_at rules k) where
        entered : Onward (each_rule rules f 0 count) s onward (standing b force rows)
        entered = then_goes h (set_context (context_at rules k)) onward rules_next (rw q)

        module _ (r : Result (Unit {0}) Stop) (m : Meter) {paid : Meter} {left : Budget} (rows' : List ℕ) (o : paid ≡ meter_of b) (p : answered r (slots m rows') ≡ f k (slots paid rows)) (d : left ≡ with_meter m b) where
          one : answered r (standing left force rows') ≡ in_table (f k) (standing b force rows)
          one = rw d (answered_through (λ s. slots (meter_of s.budget) s.rows) (λ s t. standing (with_meter t.meter s.budget) s.context t.rows) (f k) (standing b force rows) r (slots m rows') (rw o at p))

          pub rule_stopped : {e : Stop} → r ≡ Err e → stopped e (standing left force rows') ≡ each_rule rules f 0 count s
          rule_stopped g = then_stops entered (in_table (f k)) (each_rule rules f (k + 1) (count - (k + 1))) refl (broke one g)

          pub rule_done : r ≡ Ok tt → Ruling (k + 1) (standing left force rows')
          rule_done g = then_goes entered (in_table (f k)) (each_rule rules f (k + 1) (count - (k + 1))) refl (went one g)

-- ---- what a round has made of given values, where its answer is taken apart

module _ {x : Result (Unit {0}) Stop} (s : Standing) {y : Run Stop Course (List ℕ)} (h : candidates_of (answered x s) ≡ y) where
  pub made_stopped : {e : Stop} → x ≡ Err e → stopped e (course s.budget s.context) ≡ y
  made_stopped q = ap (λ (r : Result (Unit {0}) Stop). candidates_of (answered r s)) (sym q) ∙ h

  pub made_on : x ≡ Ok tt → going s.rows (course s.budget s.context) ≡ y
  made_on q = ap (λ (r : Result (Unit {0}) Stop). candidates_of (answered r s)) (sym q) ∙ h
