-- What the heads of a rule bring about.
use Prim.Native.Nat.{ℕ, ◌*◌, ◌≤◌, ◌<◌}
use native.Mathlib.Omega.{arith}
use mathlib.Core.List.{List}
use lib.ListN.{length}
use Rattle.limits.proofs.Monad.{Ensures}
use Rattle.limits.proofs.Ends.{on_bind}
use Rattle.limits.proofs.Live.{live_as, live_ends}
use Rattle.lattice.specs.Value.{Value}
use Rattle.lattice.specs.Lattice.{join}
use Rattle.lattice.proofs.LiveLaws.{join_lives}
use Rattle.sizes.specs.Sizes.{value_row}
use Rattle.rows.specs.Row.{value_at, put}
use Rattle.rows.specs.WellFormed.{WellFormed}
use Rattle.rows.proofs.RowLaws.{size_is}
use Rattle.rules.specs.declared.Head.{Head}
use Rattle.slots.specs.Slots.{slots, replace}
use Rattle.refinements.specs.Refinement.{Refinement}
use Rattle.evaluation.specs.Evaluation.{Input}
use Rattle.transfer.specs.Transfer.{head}
use Rattle.transfer.proofs.Live.{head_lives}
use Rattle.rounds.specs.Round.{join_owned, join_head}
use Rattle.rounds.proofs.Brings.{Brings, brings_replace, owned_brings, rows_of}

module _ (n : ℕ) (F G : List ℕ → Type 0) (W : Value → Type 0) (room : (rows : List ℕ) → F rows → value_row * n ≤ length rows) where
  -- a value that is joined into a row
  pub brings_join : (width a : ℕ) → a < n → (v : Value) → ((rows : List ℕ) → F rows → Ensures (λ w. WellFormed w × G (put rows a w)) (join width (value_at rows a) v)) → Brings (rows_of n) F G (replace a (λ old. join width old v))
  brings_join width a inside v gives = brings_replace a inside (λ old. join width old v) (λ old. live_as size_is (join_lives width old v)) F G room gives

  -- a head whose values are such that each of them does
  pub brings_head : (i : Input) (produced : List ℕ) (known : List Refinement) (h : Head) → h.argument < n → Ensures W (head i produced known h.value) →
      ((v : Value) → W v → (rows : List ℕ) → F rows → Ensures (λ w. WellFormed w × G (put rows h.argument w)) (join i.width (value_at rows h.argument) v)) → Brings (rows_of n) F G (join_head i produced known h)
  unfolding join_head join_owned
  brings_head i produced known h inside given gives = record {
    at = λ e s p q.
        on_bind (λ t. t.meter) (λ t m. slots m t.rows) (λ t m. slots m t.rows) (λ x. x) (head i produced known h.value) (join_owned i.width h.argument) s
        (live_ends (head_lives i produced known h.value) given s.meter)
        (λ v m z. owned_brings v (brings_join i.width h.argument inside v (gives v z.0)) e (slots m s.rows) (omega (arith, z.1)) q)
        (λ _ m z. omega arith);
  }
