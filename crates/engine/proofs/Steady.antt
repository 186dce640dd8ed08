-- A run's values and the bounds of its rules' slots are the same from any two budgets of one width, where both complete.
use Prim.Native.Nat.{ℕ}
use mathlib.Core.Path.{◌≡◌}
use mathlib.Core.Bool.{Bool, true, false, cond}
use mathlib.Core.List.{List}
use lib.Dec.{eqb}
use lib.IntN.{ℤ}
use Rattle.limits.specs.Metered.{Run, going, stopped, Metered, after, ◌>>=◌, ◌>>◌}
use Rattle.limits.proofs.Alike.{Alike, SteadyOn, on_through}
use Rattle.rounds.specs.Round.{Given}
use Rattle.passes.specs.Pass.{ascend}
use Rattle.passes.proofs.Steady.{on_ascend}
use Rattle.results.specs.Result.{closing, last}
use Rattle.results.proofs.Steady.{on_closing, on_last}
use Rattle.engine.specs.Run.{Progress, in_ascent, in_ending, ascend_and_end, finish}

-- the current values and the bounds
abbrev pub made : Progress → List ℕ × List ℕ
made s = (s.current, s.bounds)

-- and beside them the width and how often sides have grown
abbrev pub begun : Progress → ℕ × ((List ℕ × List ℕ) × List ℕ)
begun s = (s.budget.limits.width, ((s.current, s.growth), s.bounds))

-- a first step that keeps what is looked at, and a second that looks at less
alike_then : {E S L K A B : Type 0} (look : S → L) (view : S → K) (m : Metered E S A) (k : Metered E S B) → SteadyOn look m → ((s t : S) → look s ≡ look t → Alike view (k s) (k t)) →
    (s t : S) → look s ≡ look t → Alike view ((m >> k) s) ((m >> k) t)
unfolding ◌>>◌ ◌>>=◌ after
alike_then {E} {S} {L} {K} {A} {B} look view m k h f s t e = go (m s) (m t) (h.same s t e)
  where
    none : (x : Run E S B) (z : E) (w : S) → Alike view x (stopped z w)
    none (going b u) z w = tt
    none (stopped y u) z w = tt

    go : (x y : Run E S A) → Alike look x y → Alike view (after x (λ _. k)) (after y (λ _. k))
    go (going a u) (going b v) q = f u v q.1
    go (going a u) (stopped z v) q = none (k u) z v
    go (stopped z u) y q = tt

module _ (g : Given) (thresholds : List ℤ) where
  ending : SteadyOn made (in_ending (last g))
  ending = on_through _ _ _ _ (λ s t e. e) (λ s t u v _ e. e) (on_last g)

  pub finish_steady : (s t : Progress) → begun s ≡ begun t → Alike made (finish g thresholds s) (finish g thresholds t)
  unfolding finish ascend_and_end
  finish_steady s t e = go (eqb g.count 0)
    where
      less : (s t : Progress) → begun s ≡ begun t → made s ≡ made t
      less s t e j = ((e j).1.0.0, (e j).1.1)

      go : (b : Bool) → Alike made (cond b (in_ending (closing g)) (in_ascent (ascend g thresholds) >> in_ending (last g)) s) (cond b (in_ending (closing g)) (in_ascent (ascend g thresholds) >> in_ending (last g)) t)
      go true = closed.same s t (less s t e)
        where
          closed : SteadyOn made (in_ending (closing g))
          closed = on_through _ _ _ _ (λ s t e. e) (λ s t u v _ e. e) (on_closing g)
      go false =
          alike_then begun made (in_ascent (ascend g thresholds)) (in_ending (last g))
          (on_through _ _ _ _ (λ s t e j. ((e j).0, ((e j).1.0.0, (e j).1.0.1))) (λ s t u v e q j. ((q j).0, (((q j).1.0, (q j).1.1), (e j).1.1))) (on_ascend g thresholds))
          (λ u v q. ending.same u v (less u v q)) s t e
