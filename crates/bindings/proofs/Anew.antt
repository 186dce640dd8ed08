-- What the table of a rule's slots held before does not matter: from two tables of exactly n rows `bind` ends alike.
use Prim.Native.Nat.{ℕ, ◌*◌}
use mathlib.Core.Path.{◌≡◌, refl}
use mathlib.Core.List.{List}
use lib.ListN.{length}
use Rattle.limits.specs.declared.Meter.{Meter}
use Rattle.sizes.specs.Sizes.{value_row}
use Rattle.rules.specs.declared.Binding.{Binding}
use Rattle.slots.specs.Slots.{slots, holding_rows, tops}
use Rattle.slots.proofs.Likewise.{Likewise, like_equal, like_then}
use Rattle.slots.proofs.Anew.{Paid, tops_anew}
use Rattle.evaluation.specs.Evaluation.{Input}
use Rattle.bindings.specs.Bindings.{three_passes, bind}

module _ (i : Input) (arguments : List ℕ) (n : ℕ) (bs : List Binding) (m : Meter) (t t' : List ℕ) (size : length t ≡ value_row * n) (same : length t' ≡ length t) where
  -- both go on with the same counts and the same table, or both are stopped with the same stop and the same counts
  pub bind_anew : Likewise (λ _ s s'. s ≡ s') Paid (bind i arguments n bs (slots m t)) (bind i arguments n bs (slots m t'))
  unfolding bind
  bind_anew =
      like_then (tops 0 n) (holding_rows n (three_passes i arguments bs)) (slots m t) (slots m t') (tops_anew n m t t' size same)
      (λ _ u v e. like_equal (holding_rows n (three_passes i arguments bs)) e (λ _ _. refl) (λ _. refl)) (λ u v h. h)
