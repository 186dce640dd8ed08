-- What the table of the next values held before does not matter: each row is written before it is read, so from any table of exactly as many rows as
-- there are arguments the current values are renewed alike.
use Prim.Native.Nat.{ℕ, zero, suc, ◌+◌, ◌*◌, ◌<◌}
use native.Mathlib.Omega.{arith}
use mathlib.Core.Path.{◌≡◌, sym, ap, subst, ◌∙◌}
use mathlib.Core.Bool.{Bool, false, ◌||◌}
use mathlib.Core.List.{List}
use lib.IntN.{ℤ}
use lib.ListN.{length, length-replicate}
use Rattle.limits.specs.Context.{Context}
use Rattle.limits.specs.declared.Stop.{Stop}
use Rattle.limits.specs.declared.Budget.{Budget}
use Rattle.limits.specs.declared.Meter.{Meter}
use Rattle.limits.specs.Metered.{Run, going, stopped}
use Rattle.limits.specs.Meter.{meter_of, with_meter}
use Rattle.limits.specs.Budget.{released}
use Rattle.lattice.specs.Value.{Value}
use Rattle.lattice.specs.Lattice.{loses}
use Rattle.sizes.specs.Sizes.{value_row}
use Rattle.rows.specs.Row.{value_at, moved}
use Rattle.rows.proofs.RowLaws.{length_put}
use Rattle.slots.specs.Slots.{blank, total}
use Rattle.slots.proofs.Likewise.{Likewise, both_go, both_stop, like_pure, like_bind, like_through}
use Rattle.slots.proofs.Shared.{Shared, shared_none, shared_all}
use Rattle.slots.proofs.Anew.{shared_put, shared_total}
use Rattle.widening.specs.Widening.{growth_at, put_growth}
use Rattle.passes.specs.Step.{Grown, grow, Steps, steps, count_lost, advanced, advance_one, holding_next, advance}
use Rattle.passes.specs.Pass.{ascent, replaced}

-- of the same counts and growth, with tables of n rows of which the first k are the same
record Level (n k : ℕ) (s s' : Steps) : Type 0 where
  budget : s.budget ≡ s'.budget
  growth : s.growth ≡ s'.growth
  size : length s.next ≡ value_row * n
  shared : Shared (value_row * k) s.next s'.next

-- what a stop leaves of them
abbrev Paid : Steps → Steps → Type 0
Paid s s' = (s.budget ≡ s'.budget) × (s.growth ≡ s'.growth)

module _ (n : ℕ) (thresholds : List ℤ) (current cs : List ℕ) where
  one_level : (k : ℕ) → k < n → (s s' : Steps) → Level n k s s' →
      Likewise (λ _ t t'. Level n (k + 1) t t') (λ t t'. Level n k t t') (advance_one thresholds current cs k s) (advance_one thresholds current cs k s')
  unfolding advance_one
  one_level k l s s' h =
      subst (λ (x : Run Stop Meter Grown). Likewise (λ _ t t'. Level n (k + 1) t t') (λ t t'. Level n k t t') (advanced k old s (made s.budget s.growth)) (advanced k old s' x))
      (λ d. made (h.budget d) (h.growth d)) (go (made s.budget s.growth))
    where
      old : Value
      old = value_at current k

      made : Budget → List ℕ → Run Stop Meter Grown
      made b g = grow b.limits.width thresholds old (value_at cs k) (growth_at g k) (meter_of b)

      go : (x : Run Stop Meter Grown) → Likewise (λ _ t t'. Level n (k + 1) t t') (λ t t'. Level n k t t') (advanced k old s x) (advanced k old s' x)
      go (going g m) =
          both_go record {
            budget = λ d. count_lost (loses old.values g.value.values) (with_meter m (h.budget d));
            growth = λ d. put_growth (h.growth d) k g.growth;
            size = length_put s.next k g.value ∙ h.size;
            shared = shared_put k h.shared g.value (omega (arith, h.size));
          }
      go (stopped e m) = both_stop record { budget = λ d. with_meter m (h.budget d); growth = h.growth; size = h.size; shared = h.shared }

  all_level : (k j : ℕ) → k + j ≡ n → (changed : Bool) (s s' : Steps) → Level n k s s' →
      Likewise (λ _ t t'. Level n n t t') Paid (advance thresholds current cs k j changed s) (advance thresholds current cs k j changed s')
  unfolding advance
  all_level k zero e changed s s' h = like_pure changed s s' (let d : k ≡ n = omega arith in subst (λ (i : ℕ). Level n i s s') d h)
  all_level k (suc j) e changed s s' h =
      like_bind {P = λ _ t t'. Level n (k + 1) t t'} {Q = Paid} (holding_next k (advance_one thresholds current cs k)) (λ moved. advance thresholds current cs (k + 1) j (changed || moved)) s s'
      (like_through _ _ _ _ {P = λ _ t t'. Level n (k + 1) t t'} {Q = λ t t'. Level n k t t'} (advance_one thresholds current cs k) s s' (one_level k (omega arith) s s' h)
      (λ _ t t' q. q) (λ t t' q. (dropped t t' q, q.growth)))
      (λ moved t t' q. all_level (k + 1) j (omega arith) (changed || moved) t t' q) (λ t t' q. q)
    where
      dropped : (t t' : Steps) → Level n k t t' → released (total t.next k) t.budget ≡ released (total t'.next k) t'.budget
      dropped t t' q = λ d. released (shared_total q.shared k (omega arith) d) (q.budget d)

  module _ (b : Budget) (c : Context) (growth lent : List ℕ) (size : length lent ≡ value_row * n) where
    same_replaced : {x y : Run Stop Steps Bool} → Likewise (λ _ t t'. Level n n t t') Paid x y → replaced n cs (ascent b c current growth) x ≡ replaced n cs (ascent b c current growth) y
    same_replaced (both_go {a = changed} {s = t} {t = t'} h) =
        let rows : t.next ≡ t'.next = shared_all h.shared (omega (arith, h.size)) in
        λ d. going changed (ascent (released (total current n) (released (total cs n) (h.budget d))) c (moved (rows d) n current) (h.growth d))
    same_replaced (both_stop {e = e} q) = λ d. stopped e (ascent (released (total cs n) (q.0 d)) c current (q.1 d))

    -- in a table that held anything
    pub advance_anew : {x : Run Stop Steps Bool} → x ≡ advance thresholds current cs 0 n false (steps b lent growth) →
        replaced n cs (ascent b c current growth) x ≡ replaced n cs (ascent b c current growth) (advance thresholds current cs 0 n false (steps b (blank n) growth))
    advance_anew h =
        ap (replaced n cs (ascent b c current growth)) h
        ∙ same_replaced (all_level 0 n (omega arith) false (steps b lent growth) (steps b (blank n) growth) begins)
      where
        begins : Level n 0 (steps b lent growth) (steps b (blank n) growth)
        begins = record { budget = λ _. b; growth = λ _. growth; size = size; shared = shared_none (length-replicate {A = ℕ} (value_row * n) 0 ∙ sym size) }
