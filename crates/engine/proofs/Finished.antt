-- A run from its current values on: passes until one leaves them closed (U), and one more round over those (X). Live entries are those of the
-- current values beside e others, whichever way it ends.
use Prim.Native.Nat.{ℕ, ◌+◌, ◌<◌, ◌^◌}
use mathlib.Core.Path.{◌≡◌}
use mathlib.Core.Bool.{false}
use mathlib.Core.List.{List}
use borrow.Author.Tests.{eq-eqb, ne_eqb}
use lib.IntN.{ℤ}
use Rattle.integers.specs.Lists.{All}
use Rattle.limits.proofs.Ends.{Ends, ends_through, on_then}
use Rattle.slots.specs.Slots.{total}
use Rattle.slots.proofs.Live.{Formed}
use Rattle.rounds.specs.declared.Course.{Course}
use Rattle.rounds.specs.Round.{Given, candidates}
use Rattle.rounds.proofs.Live.{Fit, Room}
use Rattle.passes.specs.Pass.{Ascent, ascent, pass, ascend}
use Rattle.passes.proofs.Ascending.{ascend_ends}
use Rattle.results.specs.Result.{ending, closing, last}
use Rattle.results.proofs.Ended.{Rounded, closing_live, last_ends}
use Rattle.engine.specs.Run.{Progress, progress, in_ending, ascend_and_end, finish}

-- the values are those of a round over values that are closed
pub record Settled (U : List ℕ → Type 0) (X : List ℕ → List ℕ → Type 0) (e n entries : ℕ) (current : List ℕ) : Type 0 where
  pub values : List ℕ
  pub closed : U values
  pub rounded : Rounded (X values) e n entries current

module _ (g : Given) (thresholds : List ℤ) (small : All (λ c. c < 2 ^ 32) g.input.constants)
    (fits : (id : ℕ) → id < g.count → Fit g.positions g.input g.rules id) (e : ℕ) where
  -- beside e others the entries of the current values are live
  abbrev pub Live : ℕ → List ℕ → Type 0
  Live entries current = entries ≡ e + total current g.positions

  -- without rules the current values are the result
  pub finish_alone : g.count ≡ 0 → (s : Progress) → Formed s.current →
      Ends (λ _ t. (t.budget.statistics.entries ≡ s.budget.statistics.entries) × (t.current ≡ s.current)) (λ _ t. (t.budget.statistics.entries ≡ s.budget.statistics.entries) × (t.current ≡ s.current))
      (finish g thresholds s)
  unfolding finish
  finish_alone z s f =
      rw (eq-eqb g.count 0 z)
      (ends_through (λ t. ending t.budget t.context t.current t.bounds) (λ t u. progress u.budget u.context u.current t.growth u.bounds)
      (λ t u. progress u.budget u.context u.current t.growth u.bounds) (λ x. x) (closing g) s (closing_live g small fits (ending s.budget s.context s.current s.bounds) f) (λ _ u q. q) (λ _ u q. q))

  module _ (U : List ℕ → Type 0) (X : List ℕ → List ℕ → Type 0) (formed : (values rows : List ℕ) → X values rows → Formed rows)
      (passing : (s : Ascent) → Room g.positions s.current → Live s.budget.statistics.entries s.current →
      Ends (λ changed t. (Room g.positions t.current × Live t.budget.statistics.entries t.current) × (changed ≡ false → U t.current)) (λ _ t. Live t.budget.statistics.entries t.current) (pass g thresholds s))
      (rounding : (values : List ℕ) → Room g.positions values → U values → (c : Course) → Live c.budget.statistics.entries values →
      Ends (λ rows d. (d.budget.statistics.entries ≡ e + total values g.positions + total rows g.positions) × X values rows) (λ _ d. Live d.budget.statistics.entries values) (candidates g values c)) where
    pub finish_ends : (g.count ≡ 0 → ⊥) → (s : Progress) → Room g.positions s.current → Live s.budget.statistics.entries s.current →
        Ends (λ _ t. Settled U X e g.positions t.budget.statistics.entries t.current) (λ _ t. Live t.budget.statistics.entries t.current) (finish g thresholds s)
    unfolding finish ascend_and_end
    finish_ends z s r q =
        rw (ne_eqb g.count 0 z)
        (on_then (λ t. ascent t.budget t.context t.current t.growth) (λ t u. progress u.budget u.context u.current u.growth t.bounds) (λ t u. progress u.budget u.context u.current u.growth t.bounds)
        (λ x. x) (ascend g thresholds) (in_ending (last g)) s
        (ascend_ends g thresholds (λ t. Room g.positions t.current × Live t.budget.statistics.entries t.current) (λ t. U t.current) (λ _ t. Live t.budget.statistics.entries t.current)
        (λ t p. passing t p.0 p.1) (ascent s.budget s.context s.current s.growth) (r, q))
        (λ _ t p.
        ends_through (λ u. ending u.budget u.context u.current u.bounds) (λ u v. progress v.budget v.context v.current u.growth v.bounds)
        (λ u v. progress v.budget v.context v.current u.growth v.bounds) (λ x. x) (last g) (progress t.budget t.context t.current t.growth s.bounds)
        (last_ends g small fits (X t.current) (formed t.current) e (ending t.budget t.context t.current s.bounds) p.0.0 p.0.1 (rounding t.current p.0.0 p.1))
        (λ _ u k. record { values = t.current; closed = p.1; rounded = k }) (λ _ u k. k))
        (λ _ t p. p))
