-- One pass, from what its round gives (X of the candidates) and what is made of each argument (R). Where it is stopped, the current values stay.
use Prim.Native.Nat.{ℕ, ◌+◌}
use mathlib.Core.Path.{◌≡◌, refl}
use mathlib.Core.Bool.{Bool}
use mathlib.Core.List.{List}
use lib.IntN.{ℤ}
use Rattle.limits.proofs.Ends.{Ends, on_bind}
use Rattle.lattice.specs.Value.{Value}
use Rattle.rows.specs.Row.{value_at}
use Rattle.slots.specs.Slots.{total}
use Rattle.widening.specs.declared.Growth.{Growth}
use Rattle.rounds.specs.declared.Course.{Course}
use Rattle.rounds.specs.Round.{Given, course, candidates}
use Rattle.rounds.proofs.Live.{Room}
use Rattle.passes.specs.Step.{grow}
use Rattle.passes.specs.Pass.{Ascent, ascent, renew, pass}
use Rattle.passes.proofs.Renewed.{Advances, Passed, renew_ends}

module _ (g : Given) (thresholds : List ℤ) (s : Ascent) (room : Room g.positions s.current) (e : ℕ) (live : s.budget.statistics.entries ≡ e + total s.current g.positions)
    (X : List ℕ → Type 0) (R : ℕ → Value → Bool → Type 0) where
  pub pass_ends : ((c : Course) → c.budget.statistics.entries ≡ e + total s.current g.positions →
      Ends (λ rows d. (d.budget.statistics.entries ≡ e + total s.current g.positions + total rows g.positions) × X rows) (λ _ d. d.budget.statistics.entries ≡ e + total s.current g.positions) (candidates g s.current c)) →
      ((rows : List ℕ) → X rows → (j width : ℕ) (h : Growth) → Advances (R j) (grow width thresholds (value_at s.current j) (value_at rows j) h)) →
      Ends (λ changed t. Passed R e g.positions changed t) (λ _ t. (t.budget.statistics.entries ≡ e + total s.current g.positions) × (t.current ≡ s.current)) (pass g thresholds s)
  unfolding pass
  pass_ends image each =
      on_bind (λ t. course t.budget t.context) (λ t c. ascent c.budget c.context t.current t.growth) (λ t c. ascent c.budget c.context t.current t.growth) (λ x. x)
      (candidates g s.current) (renew g.positions thresholds) s (image (course s.budget s.context) live)
      (λ rows d p. renew_ends thresholds s.current rows R (each rows p.1) e g.positions d.budget d.context s.growth room p.0)
      (λ _ d p. (p, refl))
