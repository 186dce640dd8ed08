-- What the code answers of one argument is what the definitions say, over plain variables.
use Prim.Native.Nat.{ℕ, suc, ◌+◌, ◌-◌, ◌≤◌, ◌<◌}
use native.Mathlib.Omega.{arith}
use mathlib.Core.Path.{◌≡◌, ap, ◌∙◌}
use mathlib.Core.Bool.{Bool, true, false, ◌||◌}
use mathlib.Core.List.{List}
use lib.IntN.{ℤ}
use Rattle.std.proofs.Common.{Result, Ok, Err}
use Rattle.limits.specs.declared.Stop.{Stop}
use Rattle.limits.specs.declared.Budget.{Budget}
use Rattle.limits.specs.declared.Meter.{Meter}
use Rattle.limits.specs.Metered.{going, stopped, Metered, answered, ◌>>=◌, seen}
use Rattle.limits.specs.Meter.{holding, held_through, meter_of, with_meter}
use Rattle.limits.specs.Budget.{released, widened_once}
use Rattle.limits.proofs.Monad.{through_on, through_stop}
use Rattle.limits.proofs.Onward.{Onward, onward_begins, onward_ends, bind_stops, bind_goes}
use Rattle.limits.proofs.Answering.{held_is}
use Rattle.lattice.specs.Lattice.{loses}
use Rattle.lattice.specs.Value.{Value, value_of}
use Rattle.rows.specs.Row.{entries_of, value_at, put}
use Rattle.slots.specs.Slots.{total}
use Rattle.widening.specs.declared.Growth.{Growth}
use Rattle.widening.specs.Widening.{growth_at, put_growth}
use Rattle.passes.specs.declared.Grown as code
use Rattle.passes.specs.Step.{grow, Steps, steps, count_lost, advance_one, holding_next, advance}
use Rattle.passes.specs.Lent.{grown_in}

-- ---- what is done while a value is in hand

module _ {A : Type 0} (v : Value) (c : Metered Stop Meter A) (m : Meter) {n : ℕ} (p : n ≡ entries_of v) (x : Result A Stop) (t : Meter) (h : answered x t ≡ c m)
    (r : Result A Stop) (u : Meter) (k : answered r u ≡ held_through n x t) where
  pub held : answered r u ≡ holding (entries_of v) c m
  held = rw (← p) (k ∙ held_is n c m x t h)

-- ---- a lost list

module _ (b : Budget) {t l : Bool} (h : t ≡ l) where
  pub lost_counted : {r : Budget} → t ≡ true → r ≡ widened_once b → r ≡ count_lost l b
  lost_counted e p = rw (← h, e) p

  pub kept_counted : t ≡ false → b ≡ count_lost l b
  kept_counted e = rw (← h, e)

-- ---- in tables

module _ (thresholds : List ℤ) (current candidates : List ℕ) (k : ℕ) (b : Budget) (next growth : List ℕ) {old candidate : Value} {g : Growth} {start : Meter}
    (a : old ≡ value_at current k) (c : candidate ≡ value_at candidates k) (d : g ≡ growth_at growth k) (f : start ≡ meter_of b)
    {r : Result code.Grown Stop} (t : Meter) (h : seen grown_in r t ≡ grow b.limits.width thresholds old candidate g start) {left : Budget} (l : left ≡ with_meter t b) where
  pub step_stopped : {e : Stop} → r ≡ Err e → stopped e (steps left next growth) ≡ advance_one thresholds current candidates k (steps b next growth)
  unfolding advance_one
  step_stopped q = rw (l, ← a, ← c, ← d, ← f, ← h, q)

  pub step_done : {x : code.Grown} {left' : Budget} {next' growth' : List ℕ} → r ≡ Ok x → next' ≡ put next k (value_of x.value) → growth' ≡ put_growth growth k x.growth →
      left' ≡ count_lost (loses old.values (value_of x.value).values) left →
      going x.changed (steps left' next' growth') ≡ advance_one thresholds current candidates k (steps b next growth)
  unfolding advance_one
  step_done q p s w = rw (w, l, p, s, ← a, ← c, ← d, ← f, ← h, q)

-- ---- the arguments of a pass

module _ (thresholds : List ℤ) (current candidates : List ℕ) (count : ℕ) (s₀ : Steps) where
  abbrev one : ℕ → Metered Stop Steps Bool
  one k = holding_next k (advance_one thresholds current candidates k)

  abbrev others : ℕ → Bool → Bool → Metered Stop Steps Bool
  others k changed moved = advance thresholds current candidates (k + 1) (count - (k + 1)) (changed || moved)

  abbrev pub Advancing : ℕ → Bool → Steps → Type 0
  Advancing k changed s = Onward (advance thresholds current candidates 0 count false) s₀ (advance thresholds current candidates k (count - k) changed) s

  pub advancing : Advancing 0 false s₀
  advancing = let e : count ≡ count - 0 = omega arith in onward_begins s₀ (ap (λ (n : ℕ). advance thresholds current candidates 0 n false) e)

  module _ {k : ℕ} (changed : Bool) {b : Budget} {next growth : List ℕ} (h : Advancing k changed (steps b next growth)) where
    pub advanced : count ≤ k → going changed (steps b next growth) ≡ advance thresholds current candidates 0 count false s₀
    unfolding advance
    advanced l = let e : count - k ≡ 0 = omega arith in onward_ends h (ap (λ (n : ℕ). advance thresholds current candidates k n changed) e)

    module _ (l : k < count) where
      next_of : advance thresholds current candidates k (count - k) changed ≡ (one k >>= others k changed)
      unfolding advance
      next_of = let e : count - k ≡ suc (count - (k + 1)) = omega arith in ap (λ (n : ℕ). advance thresholds current candidates k n changed) e

      pub advance_stopped : {e : Stop} {kept left : Budget} {next' growth' : List ℕ} → stopped e (steps kept next' growth') ≡ advance_one thresholds current candidates k (steps b next growth) →
          left ≡ released (total next' k) kept → stopped e (steps left next' growth') ≡ advance thresholds current candidates 0 count false s₀
      advance_stopped p r = rw r (bind_stops h (one k) (others k changed) next_of (through_stop _ _ _ _ (advance_one thresholds current candidates k) (steps b next growth) p))

      pub advance_more : {moved : Bool} {u : Steps} → going moved u ≡ advance_one thresholds current candidates k (steps b next growth) → Advancing (k + 1) (changed || moved) u
      advance_more p = bind_goes h (one k) (others k changed) next_of (through_on _ _ _ _ (advance_one thresholds current candidates k) (steps b next growth) p)
