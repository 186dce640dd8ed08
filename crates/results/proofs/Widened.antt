-- The end of a run counts no argument as widened.
use Prim.Native.Nat.{ℕ}
use mathlib.Core.Path.{◌≡◌, refl, ◌∙◌}
use mathlib.Core.List.{List}
use Rattle.limits.specs.declared.Resource.TheVariants.{Work}
use Rattle.limits.specs.declared.Budget.{Budget}
use Rattle.limits.specs.Budget.{work}
use Rattle.limits.proofs.Ends.{Ends, completes, ends_as, ends_then, ends_through, on_bind, on_then}
use Rattle.limits.proofs.Charging.{charge_ends}
use Rattle.rounds.specs.Round.{Given, Standing, standing, charging, each_rule, course, candidates}
use Rattle.rounds.proofs.Pays.{rules_keep, candidates_same}
use Rattle.results.specs.Result.{bound, close, taking, last_round, Ending, ending, closing, last}

-- as many are counted as before
abbrev pub Same : {A : Type 0} → Budget → A → Budget → Type 0
Same b a c = c.statistics.widened ≡ b.statistics.widened

module _ (g : Given) where
  close_same : (current : List ℕ) (s : Standing) → Ends (λ a t. Same s.budget a t.budget) (λ e t. Same s.budget e t.budget) (close g.input g.rules g.count g.positions current s)
  unfolding close
  close_same current s =
      ends_then (each_rule g.rules (bound g.input g.rules current) 0 g.count) (charging (work g.positions)) s
      (rules_keep (λ b. b.statistics.widened) (λ m c. refl) (λ n c. refl) g.rules (bound g.input g.rules current) 0 g.count s)
      (λ _ t h. ends_through _ _ _ _ (work g.positions) t (charge_ends Work g.positions t.budget) (λ _ b z. rw z h) (λ _ b z. rw z.1 h))
      (λ _ t h. h)

  pub closing_same : (s : Ending) → Ends (λ a t. Same s.budget a t.budget) (λ e t. Same s.budget e t.budget) (closing g s)
  unfolding closing
  closing_same s = ends_through _ _ _ _ (close g.input g.rules g.count g.positions s.current) s (close_same s.current (standing s.budget s.context s.bounds)) (λ _ t h. h) (λ _ t h. h)

  round_same : (s : Standing) → Ends (λ a t. Same s.budget a t.budget) (λ e t. Same s.budget e t.budget) (last_round g s)
  unfolding last_round
  round_same s = on_bind _ _ _ _ (candidates g s.rows) (taking g.positions) s (candidates_same g s.rows (course s.budget s.context)) (λ rows c h. completes h) (λ _ c h. h)

  pub last_same : (s : Ending) → Ends (λ a t. Same s.budget a t.budget) (λ e t. Same s.budget e t.budget) (last g s)
  unfolding last
  last_same s =
      on_then _ _ _ _ (last_round g) (closing g) s (round_same (standing s.budget s.context s.current))
      (λ _ t h. ends_as (closing_same (ending t.budget t.context t.rows s.bounds)) (λ _ u k. k ∙ h) (λ _ u k. k ∙ h)) (λ _ t h. h)
