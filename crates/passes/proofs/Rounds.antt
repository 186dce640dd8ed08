-- A pass that completes has charged one round, within the limit, so that passes come to an end: any number of them above the rounds left is the ascent.
use Prim.Native.Nat.{ℕ, zero, suc, ◌+◌, ◌-◌, ◌<◌}
use native.Mathlib.Omega.{arith}
use mathlib.Core.Path.{◌≡◌, refl, sym, ap, subst, ◌∙◌}
use mathlib.Core.Bool.{Bool, true, false, cond, ◌||◌}
use mathlib.Core.List.{List}
use lib.IntN.{ℤ}
use Rattle.limits.specs.declared.Limits.{Limits}
use Rattle.limits.specs.declared.Stop.{Stop}
use Rattle.limits.specs.declared.Budget.{Budget}
use Rattle.limits.specs.Metered.{Run, going, stopped, Metered, pure, after, ◌>>=◌}
use Rattle.limits.specs.Budget.{released}
use Rattle.limits.specs.declared.Meter.{Meter}
use Rattle.limits.specs.Meter.{meter_of, with_meter}
use Rattle.limits.proofs.Ends.{Ends, completes, stops, ends_pure, ends_as, on_bind, where_going}
use Rattle.rows.specs.Row.{value_at}
use Rattle.slots.specs.Slots.{blank, total}
use Rattle.lattice.specs.Lattice.{loses}
use Rattle.widening.specs.Widening.{growth_at}
use Rattle.rounds.specs.Round.{Given, course, candidates}
use Rattle.rounds.proofs.Pays.{Kept, Pays, kept_same, kept_metered, kept_released, kept_then, pays_then, candidates_pay}
use Rattle.passes.specs.Step.{Grown, Steps, steps, count_lost, advanced, grow, advance_one, advance}
use Rattle.passes.specs.Pass.{Ascent, ascent, replaced, renew, pass, passes, ascend}

-- ---- the arguments of a pass charge no round

kept_counting : (t : Bool) (b : Budget) → Kept b (count_lost t b)
kept_counting true b = record { limits = refl; rounds = refl }
kept_counting false b = kept_same b

abbrev Stays : {A : Type 0} → Budget → A → Steps → Type 0
Stays b a t = Kept b t.budget

module _ (thresholds : List ℤ) (current cs : List ℕ) where
  step_keeps : (k : ℕ) (s : Steps) → Ends (Stays s.budget) (Stays s.budget) (advance_one thresholds current cs k s)
  unfolding advance_one
  step_keeps k s = go (grow s.budget.limits.width thresholds (value_at current k) (value_at cs k) (growth_at s.growth k) (meter_of s.budget))
    where
      go : (x : Run Stop Meter Grown) → Ends (Stays s.budget) (Stays s.budget) (advanced k (value_at current k) s x)
      go (going g m) = completes (kept_then (kept_metered m s.budget) (kept_counting (loses (value_at current k).values g.value.values) (with_meter m s.budget)))
      go (stopped e m) = stops (kept_metered m s.budget)

  advance_keeps : (k n : ℕ) (changed : Bool) (s : Steps) → Ends (Stays s.budget) (Stays s.budget) (advance thresholds current cs k n changed s)
  unfolding advance
  advance_keeps k zero changed s = ends_pure changed s (kept_same s.budget)
  advance_keeps k (suc n) changed s =
      on_bind _ _ _ _ (advance_one thresholds current cs k) (λ moved. advance thresholds current cs (k + 1) n (changed || moved)) s (step_keeps k s)
      (λ moved t h. ends_as (advance_keeps (k + 1) n (changed || moved) t) (λ a u i. kept_then h i) (λ e u i. kept_then h i))
      (λ e t h. kept_then h (kept_released (total t.next k) t.budget))

-- ---- a pass charges one

renew_keeps : (n : ℕ) (thresholds : List ℤ) (cs : List ℕ) (s : Ascent) → Ends (λ _ t. Kept s.budget t.budget) (λ _ t. Kept s.budget t.budget) (renew n thresholds cs s)
unfolding renew
renew_keeps n thresholds cs s = go (advance_keeps thresholds s.current cs 0 n false (steps s.budget (blank n) s.growth))
  where
    go : {x : Run Stop Steps Bool} → Ends (Stays s.budget) (Stays s.budget) x → Ends (λ _ t. Kept s.budget t.budget) (λ _ t. Kept s.budget t.budget) (replaced n cs s x)
    go (completes {s = t} h) =
        completes (kept_then h (kept_then (kept_released (total cs n) t.budget) (kept_released (total s.current n) (released (total cs n) t.budget))))
    go (stops {s = t} h) = stops (kept_then h (kept_released (total cs n) t.budget))

module _ (g : Given) (thresholds : List ℤ) where
  -- however it ends the limits stay
  pub pass_ends : (s : Ascent) → Ends (λ _ t. Pays s.budget t.budget) (λ _ t. t.budget.limits ≡ s.budget.limits) (pass g thresholds s)
  unfolding pass
  pass_ends s =
      on_bind _ _ _ _ (candidates g s.current) (renew g.positions thresholds) s (candidates_pay g s.current (course s.budget s.context))
      (λ cs c h. ends_as (renew_keeps g.positions thresholds cs (ascent c.budget c.context s.current s.growth)) (λ a t i. pays_then h i) (λ e t i. i.limits ∙ h.limits))
      (λ e c h. h)

  module _ (s : Ascent) {changed : Bool} {t : Ascent} where
    pub pass_pays : going changed t ≡ pass g thresholds s → Pays s.budget t.budget
    pass_pays e = where_going (subst (Ends (λ _ t. Pays s.budget t.budget) (λ _ t. t.budget.limits ≡ s.budget.limits)) (sym e) (pass_ends s))

-- ---- the ascent

abbrev pub left : Budget → ℕ
left b = b.limits.rounds - b.statistics.rounds

pub fewer_left : {b c : Budget} → Pays b c → left c < left b
fewer_left {b} {c} h = let e : c.limits.rounds ≡ b.limits.rounds = ap (λ (l : Limits). l.rounds) h.limits in omega (arith, e, h.rounds, h.within)

module _ (g : Given) (thresholds : List ℤ) where
  any_number : (n m : ℕ) (s : Ascent) → left s.budget < n → left s.budget < m → passes g thresholds n s ≡ passes g thresholds m s
  unfolding passes ◌>>=◌ after
  any_number zero m s h k = absurd (omega arith)
  any_number (suc n) zero s h k = absurd (omega arith)
  any_number (suc n) (suc m) s h k = go (pass g thresholds s) refl (λ t p. any_number n m t (omega (arith, fewer_left p)) (omega (arith, fewer_left p)))
    where
      go : (x : Run Stop Ascent Bool) → x ≡ pass g thresholds s → ((t : Ascent) → Pays s.budget t.budget → passes g thresholds n t ≡ passes g thresholds m t) →
          after x (λ changed. cond changed (passes g thresholds n) (pure tt)) ≡ after x (λ changed. cond changed (passes g thresholds m) (pure tt))
      go (going true t) e f = f t (pass_pays g thresholds s e)
      go (going false t) e f = refl
      go (stopped e t) q f = refl

  pub ascend_any : (n : ℕ) (s : Ascent) → left s.budget < n → passes g thresholds n s ≡ ascend g thresholds s
  unfolding ascend
  ascend_any n s h = any_number n (suc (left s.budget)) s h (omega arith)

  -- one pass of it
  abbrev pub more : ℕ → Bool → Metered Stop Ascent (Unit {0})
  more n changed = cond changed (passes g thresholds n) (pure tt)

  pub ascend_first : (s : Ascent) → ascend g thresholds s ≡ (pass g thresholds >>= more (left s.budget)) s
  unfolding ascend passes
  ascend_first s = refl
