-- Passes until one changes nothing: what each of them keeps, and what one that changes nothing brings about. An ascent ends because each pass
-- charges a round.
use Prim.Native.Nat.{ℕ, zero, suc, ◌<◌}
use native.Mathlib.Omega.{arith}
use mathlib.Core.Path.{◌≡◌, refl}
use mathlib.Core.Bool.{Bool, true, false, cond}
use mathlib.Core.List.{List}
use lib.IntN.{ℤ}
use Rattle.limits.specs.declared.Stop.{Stop}
use Rattle.limits.specs.Metered.{pure}
use Rattle.limits.proofs.Ends.{Ends, ends_pure, ends_bind, ends_both}
use Rattle.rounds.specs.Round.{Given}
use Rattle.rounds.proofs.Pays.{Pays}
use Rattle.passes.specs.Pass.{Ascent, pass, passes, ascend}
use Rattle.passes.proofs.Rounds.{left, fewer_left}
use Rattle.passes.proofs.Rounds as rounds

module _ (g : Given) (thresholds : List ℤ) where
  module _ (P U : Ascent → Type 0) (Q : Stop → Ascent → Type 0) (each : (s : Ascent) → P s → Ends (λ changed t. P t × (changed ≡ false → U t)) Q (pass g thresholds s)) where
    passes_end : (n : ℕ) (s : Ascent) → left s.budget < n → P s → Ends (λ _ t. P t × U t) Q (passes g thresholds n s)
    unfolding passes
    passes_end zero s l p = absurd (omega arith)
    passes_end (suc n) s l p =
        ends_bind (pass g thresholds) (λ changed. cond changed (passes g thresholds n) (pure tt)) s (ends_both (each s p) (rounds.pass_ends g thresholds s))
        (λ changed t q. go changed t q.0 q.1 (λ z. passes_end n t z q.0.0)) (λ x t q. q.0)
      where
        go : (changed : Bool) (t : Ascent) → P t × (changed ≡ false → U t) → Pays s.budget t.budget → (left t.budget < n → Ends (λ _ u. P u × U u) Q (passes g thresholds n t)) →
            Ends (λ _ u. P u × U u) Q (cond changed (passes g thresholds n) (pure tt) t)
        go true t q d more = more (omega (arith, fewer_left d))
        go false t q d more = ends_pure tt t (q.0, q.1 refl)

    pub ascend_ends : (s : Ascent) → P s → Ends (λ _ t. P t × U t) Q (ascend g thresholds s)
    unfolding ascend
    ascend_ends s p = passes_end (suc (left s.budget)) s (omega arith) p
