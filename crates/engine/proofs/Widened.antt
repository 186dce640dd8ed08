-- A run counts at most as many arguments as widened as there are: what it begins with and its end count none.
use Prim.Native.Nat.{ℕ, ◌+◌, ◌*◌, ◌≤◌}
use native.Mathlib.Omega.{arith}
use mathlib.Core.Path.{refl, ◌∙◌}
use mathlib.Core.Bool.{Bool, true, false, cond}
use mathlib.Core.List.{List}
use lib.Dec.{eqb}
use lib.IntN.{ℤ}
use lib.ListN.{length}
use Rattle.integers.specs.Order.{Number}
use Rattle.integers.specs.Lists.{All}
use Rattle.limits.specs.declared.Resource.TheVariants.{Work}
use Rattle.limits.specs.Metered.{◌>>◌}
use Rattle.limits.specs.Meter.{meter_of}
use Rattle.limits.specs.Budget.{work}
use Rattle.limits.proofs.Ends.{Ends, completes, ends_then, ends_through, on_then, in_some_way}
use Rattle.limits.proofs.Charging.{charge_ends}
use Rattle.sizes.specs.Sizes.{value_row}
use Rattle.thresholds.proofs.Sorted.{Rises}
use Rattle.slots.specs.Slots.{slots, copies}
use Rattle.rounds.specs.Round.{Given}
use Rattle.passes.specs.Pass.{ascent, ascend}
use Rattle.passes.proofs.Widened.{most, ascend_few}
use Rattle.results.specs.Result.{ending, closing, last}
use Rattle.results.proofs.Widened.{Same, closing_same, last_same}
use Rattle.engine.specs.Run.{enter_ends, Start, start, paying_growth, clearing, seeded, Beginning, beginning, in_start, begin, Progress, progress, in_ending, ascend_and_end, finish}
use Rattle.engine.proofs.Begun.{ends_enter}

-- ---- what a run begins with

module _ (seeds : List ℕ) (n : ℕ) where
  seeded_same : (s : Start) → Ends (λ a t. Same s.budget a t.budget) (λ e t. Same s.budget e t.budget) (seeded seeds n s)
  unfolding seeded
  seeded_same s =
      on_then _ _ _ _ (copies seeds 0 n) (paying_growth n >> clearing n) s (in_some_way (copies seeds 0 n (slots (meter_of s.budget) s.current)))
      (λ _ u p.
      ends_then {P = λ a t. Same s.budget a t.budget} {Q = λ e t. Same s.budget e t.budget} (paying_growth n) (clearing n) _
      (ends_through _ _ _ _ {P = λ a t. Same s.budget a t.budget} {Q = λ e t. Same s.budget e t.budget} _ _
      (ends_through _ _ _ _ (work n) _ (charge_ends Work n _) (λ _ b z. rw z refl) (λ _ b z. rw z.1 refl)) (λ _ t z. z) (λ _ t z. z))
      (λ _ t z. completes z) (λ _ t z. z))
      (λ _ u p. refl)

  pub begin_same : (s : Beginning) → Rises s.entry.count s.entry.table → All Number s.entry.table → s.entry.count + 2 ≤ length s.entry.table →
      Ends (λ a t. Same s.entry.budget a t.entry.budget) (λ e t. Same s.entry.budget e t.entry.budget) (begin seeds n s)
  unfolding begin
  begin_same s r a l =
      on_then _ _ _ _ enter_ends (in_start (seeded seeds n)) s (ends_enter s.entry r a l)
      (λ _ x p. ends_through _ _ _ _ (seeded seeds n) (beginning x s.current s.growth) (seeded_same (start x.budget s.current s.growth)) (λ _ v k. k ∙ p.1.widened) (λ _ v k. k ∙ p.1.widened))
      (λ _ x p. p.1.widened)

-- ---- from there to the result

module _ (g : Given) (thresholds : List ℤ) where
  pub finish_few : (s : Progress) → s.budget.statistics.widened ≤ most → value_row * g.positions ≤ length s.current →
      Ends (λ _ t. t.budget.statistics.widened ≤ s.budget.statistics.widened + g.positions) (λ _ t. t.budget.statistics.widened ≤ s.budget.statistics.widened + g.positions) (finish g thresholds s)
  unfolding finish ascend_and_end
  finish_few s below room = go (eqb g.count 0)
    where
      ended : Ends (λ _ t. t.budget.statistics.widened ≤ s.budget.statistics.widened + g.positions) (λ _ t. t.budget.statistics.widened ≤ s.budget.statistics.widened + g.positions) (in_ending (closing g) s)
      ended = ends_through _ _ _ _ (closing g) s (closing_same g (ending s.budget s.context s.current s.bounds)) (λ _ t h. omega (arith, h)) (λ _ t h. omega (arith, h))

      go : (t : Bool) → Ends (λ _ t. t.budget.statistics.widened ≤ s.budget.statistics.widened + g.positions) (λ _ t. t.budget.statistics.widened ≤ s.budget.statistics.widened + g.positions) (cond t (in_ending (closing g)) (ascend_and_end g thresholds) s)
      go true = ended
      go false =
          on_then _ _ _ _ (ascend g thresholds) (in_ending (last g)) s (ascend_few g thresholds (ascent s.budget s.context s.current s.growth) below room)
          (λ _ t p. ends_through _ _ _ _ (last g) (progress t.budget t.context t.current t.growth s.bounds) (last_same g (ending t.budget t.context t.current s.bounds)) (λ _ u h. omega (arith, h, p)) (λ _ u h. omega (arith, h, p)))
          (λ _ t p. p)
