-- What a pass and an ascent make of the current values, and whether a pass has changed one, is the same from any two budgets of one width, where
-- both complete: counts, limits and the context in force decide only whether they are stopped.
use Prim.Native.Nat.{ℕ, zero, suc, ◌+◌}
use native.Mathlib.Omega.{arith}
use mathlib.Core.Path.{◌≡◌, refl, sym, ap, subst, ◌∙◌}
use mathlib.Core.Bool.{Bool, true, false, ◌||◌}
use mathlib.Core.List.{List}
use lib.IntN.{ℤ}
use Rattle.limits.specs.declared.Stop.{Stop}
use Rattle.limits.specs.declared.Budget.{Budget}
use Rattle.limits.specs.declared.Limits.{Limits}
use Rattle.limits.specs.Metered.{Run, going, stopped, ◌>>=◌}
use Rattle.limits.specs.declared.Meter.{Meter}
use Rattle.limits.specs.Meter.{meter_of}
use Rattle.limits.proofs.Monad.{Agree}
use Rattle.limits.proofs.Alike.{Alike, SteadyOn, on_pure, on_test, on_look, on_bind, on_through}
use Rattle.limits.proofs.Ends.{Ends, where_going}
use Rattle.lattice.specs.Value.{Value}
use Rattle.rows.specs.Row.{value_at, put, moved}
use Rattle.lattice.specs.Lattice.{loses}
use Rattle.widening.specs.Widening.{growth_at, put_growth}
use Rattle.rounds.specs.declared.Course.{Course}
use Rattle.slots.specs.Slots.{blank}
use Rattle.rounds.specs.Round.{Given, candidates}
use Rattle.rounds.proofs.Pays.{Pays, candidates_pay}
use Rattle.rounds.proofs.Steady.{candidates_steady}
use Rattle.passes.specs.Step.{Grown, grow, Steps, steps, count_lost, advanced, advance_one, advance}
use Rattle.passes.specs.Pass.{Ascent, in_course, replaced, renew, pass, passes, ascend}
use Rattle.passes.proofs.Growing.{grow_steady}
use Rattle.passes.proofs.Rounds.{left, ascend_any}

-- ---- one argument

-- what is looked at: the width, the next values, and how often sides have grown
abbrev shown : Steps → ℕ × (List ℕ × List ℕ)
shown s = (s.budget.limits.width, (s.next, s.growth))

same_width : (lost : Bool) (b : Budget) → (count_lost lost b).limits.width ≡ b.limits.width
same_width true b = refl
same_width false b = refl

stepped_alike : (k : ℕ) (old : Value) (s t : Steps) → shown s ≡ shown t → (x y : Run Stop Meter Grown) → Agree x y → Alike shown (advanced k old s x) (advanced k old t y)
stepped_alike k old s t e (going a m) (going b n) h = (
  ap (λ (g : Grown). g.changed) h,
  ap (λ (w : ℕ). (w, (put s.next k a.value, put_growth s.growth k a.growth))) (same_width (loses old.values a.value.values) _)
      ∙ ((λ j. ((e j).0, (put (e j).1.0 k (h j).value, put_growth (e j).1.1 k (h j).growth)))
      ∙ ap (λ (w : ℕ). (w, (put t.next k b.value, put_growth t.growth k b.growth))) (sym (same_width (loses old.values b.value.values) _))),
)
stepped_alike k old s t e (going a m) (stopped x n) h = tt
stepped_alike k old s t e (stopped x m) y h = tt

module _ (thresholds : List ℤ) (current candidates : List ℕ) where
  on_step : (k : ℕ) → SteadyOn shown (advance_one thresholds current candidates k)
  unfolding advance_one
  on_step k = record {
    same = λ s t e.
        stepped_alike k (value_at current k) s t e (made s) (made t)
        (subst (λ (v : ℕ × (List ℕ × List ℕ)). Agree (made s) (grow v.0 thresholds (value_at current k) (value_at candidates k) (growth_at v.1.1 k) (meter_of t.budget))) e
        ((grow_steady s.budget.limits.width thresholds (value_at current k) (value_at candidates k) (growth_at s.growth k)).same (meter_of s.budget) (meter_of t.budget)));
  }
    where
      made : Steps → Run Stop Meter Grown
      made s = grow s.budget.limits.width thresholds (value_at current k) (value_at candidates k) (growth_at s.growth k) (meter_of s.budget)

  pub on_advance : (k n : ℕ) (changed : Bool) → SteadyOn shown (advance thresholds current candidates k n changed)
  unfolding advance
  on_advance k zero changed = on_pure changed
  on_advance k (suc n) changed = on_bind (on_through _ _ _ _ (λ s t e. e) (λ s t u v _ e. e) (on_step k)) (λ moved. on_advance (k + 1) n (changed || moved))

-- ---- a pass

-- what is looked at: the width, the current values, and how often sides have grown
abbrev pub seen : Ascent → ℕ × (List ℕ × List ℕ)
seen s = (s.budget.limits.width, (s.current, s.growth))

replaced_alike : (n : ℕ) (cs : List ℕ) (s t : Ascent) → seen s ≡ seen t → (x y : Run Stop Steps Bool) → Alike shown x y → Alike seen (replaced n cs s x) (replaced n cs t y)
replaced_alike n cs s t e (going a u) (going b v) h = (h.0, λ j. ((h.1 j).0, (moved (h.1 j).1.0 n (e j).1.0, (h.1 j).1.1)))
replaced_alike n cs s t e (going a u) (stopped x v) h = tt
replaced_alike n cs s t e (stopped x u) y h = tt

on_renew : (n : ℕ) (thresholds : List ℤ) (cs : List ℕ) → SteadyOn seen (renew n thresholds cs)
unfolding renew
on_renew n thresholds cs =
    on_look {f = λ v s. replaced n cs s (advance thresholds v.1.0 cs 0 n false (steps s.budget (blank n) s.growth))}
    (λ v. record { same = λ s t e. replaced_alike n cs s t e (made v s) (made v t) ((on_advance thresholds v.1.0 cs 0 n false).same (steps s.budget (blank n) s.growth) (steps t.budget (blank n) t.growth) (λ j. ((e j).0, (blank n, (e j).1.1)))) })
  where
    made : ℕ × (List ℕ × List ℕ) → Ascent → Run Stop Steps Bool
    made v s = advance thresholds v.1.0 cs 0 n false (steps s.budget (blank n) s.growth)

-- a round keeps the width
on_candidates : (g : Given) (previous : List ℕ) → SteadyOn (λ c. c.budget.limits.width) (candidates g previous)
on_candidates g previous = record { same = λ s t e. go s t e (candidates g previous s) (candidates g previous t) ((candidates_steady g previous).same s t) (candidates_pay g previous s) (candidates_pay g previous t) }
  where
    width : {b c : Budget} → Pays b c → c.limits.width ≡ b.limits.width
    width p = ap (λ (l : Limits). l.width) p.limits

    go : (s t : Course) → s.budget.limits.width ≡ t.budget.limits.width → (x y : Run Stop Course (List ℕ)) → Agree x y → Ends (λ _ d. Pays s.budget d.budget) (λ _ d. d.budget.limits ≡ s.budget.limits) x →
        Ends (λ _ d. Pays t.budget d.budget) (λ _ d. d.budget.limits ≡ t.budget.limits) y → Alike (λ c. c.budget.limits.width) x y
    go s t e (going a u) (going b v) h p q = (h, width (where_going p) ∙ (e ∙ sym (width (where_going q))))
    go s t e (going a u) (stopped x v) h p q = tt
    go s t e (stopped x u) y h p q = tt

pub on_pass : (g : Given) (thresholds : List ℤ) → SteadyOn seen (pass g thresholds)
unfolding pass
on_pass g thresholds =
    on_look {f = λ v. in_course (candidates g v.1.0) >>= renew g.positions thresholds}
    (λ v. on_bind (on_through _ _ _ _ (λ s t e. ap (λ (w : ℕ × (List ℕ × List ℕ)). w.0) e) (λ s t u w e q j. (q j, (e j).1)) (on_candidates g v.1.0)) (λ cs. on_renew g.positions thresholds cs))

-- ---- the ascent

on_passes : (g : Given) (thresholds : List ℤ) (n : ℕ) → SteadyOn seen (passes g thresholds n)
unfolding passes
on_passes g thresholds zero = on_pure tt
on_passes g thresholds (suc n) = on_bind (on_pass g thresholds) (λ changed. on_test changed (λ _. on_passes g thresholds n) (λ _. on_pure tt))

-- with rounds enough for both
pub on_ascend : (g : Given) (thresholds : List ℤ) → SteadyOn seen (ascend g thresholds)
on_ascend g thresholds = record {
  same = λ s t e.
      let n = suc (left s.budget + left t.budget) in
      rw (← ascend_any g thresholds n s (omega arith), ← ascend_any g thresholds n t (omega arith)) ((on_passes g thresholds n).same s t e);
}
