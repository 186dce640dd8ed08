-- What a pass makes of the current values, from what it makes of each: R of an argument, its new value, and whether it has changed. Live entries
-- are counted beside it: those of the current values, and while a pass is under way those of the candidates and of the next values.
use Prim.Native.Nat.{ℕ, zero, suc, ◌+◌, ◌*◌, ◌≤◌, ◌<◌}
use native.Mathlib.Omega.{arith}
use native.Mathlib.Decide.{dec_lt}
use native.Mathlib.Nat.{add-zero}
use native.Mathlib.Numerals.{add-one}
use mathlib.Core.Path.{◌≡◌, refl, ap}
use mathlib.Core.Bool.{Bool, true, false, ◌||◌}
use mathlib.Core.List.{List}
use lib.IntN.{ℤ}
use lib.ListN.{length-replicate}
use Rattle.limits.specs.declared.Stop.{Stop}
use Rattle.limits.specs.declared.Budget.{Budget}
use Rattle.limits.specs.Metered.{Run, going, stopped, Metered}
use Rattle.limits.specs.declared.Meter.{Meter}
use Rattle.limits.specs.Meter.{meter_of, with_meter}
use Rattle.limits.specs.Budget.{released}
use Rattle.limits.proofs.Monad.{Holds, Ensures}
use Rattle.limits.proofs.Ends.{Ends, completes, stops, ends_pure, ends_bind, ends_through}
use Rattle.limits.proofs.Live.{LiveIn, Lives}
use Rattle.lattice.specs.Value.{Value}
use Rattle.sizes.specs.Sizes.{value_row}
use Rattle.rows.specs.Row.{entries_of, value_at, put, moved}
use Rattle.rows.proofs.Good.{Good}
use Rattle.rows.proofs.RowLaws.{length_put, put_back, put_other}
use Rattle.slots.specs.Slots.{blank, total}
use Rattle.slots.proofs.Live.{formed_put, total_before}
use Rattle.limits.specs.Context.{Context}
use Rattle.lattice.specs.Lattice.{loses}
use Rattle.widening.specs.declared.Growth.{Growth}
use Rattle.widening.specs.Widening.{growth_at, put_growth}
use Rattle.rounds.proofs.Live.{Room, blank_formed}
use Rattle.slots.proofs.Moved.{length_moved, moved_row, moved_formed, moved_total}
use Rattle.passes.specs.Step.{Grown, grow, Steps, steps, count_lost, advanced, advance_one, holding_next, advance}
use Rattle.passes.specs.Pass.{Ascent, ascent, replaced, renew}

-- one argument: R of its new value, which is one that the engine makes, and the entries of that value are live
pub record Advances (R : Value → Bool → Type 0) (m : Metered Stop Meter Grown) : Type 0 where
  pub lives : Lives 0 (λ g. entries_of g.value) m
  pub gives : Ensures (λ g. Good g.value × R g.value g.changed) m

-- an argument whose value is as R says, changed only where one at all is
pub record Row (R : Value → Bool → Type 0) (v : Value) (changed : Bool) : Type 0 where
  pub own : Bool
  pub is : R v own
  pub told : changed ≡ false → own ≡ false

-- what a pass leaves of n arguments, beside e other entries
pub record Passed (R : ℕ → Value → Bool → Type 0) (e n : ℕ) (changed : Bool) (s : Ascent) : Type 0 where
  pub live : s.budget.statistics.entries ≡ e + total s.current n
  pub room : Room n s.current
  pub rows : (j : ℕ) → j < n → Row (R j) (value_at s.current j) changed

or_left : (a b : Bool) → (a || b) ≡ false → a ≡ false
or_left true b h = h
or_left false b h = refl

or_right : (a b : Bool) → (a || b) ≡ false → b ≡ false
or_right true b h = let z : ◌≡◌ {A = ℕ} 0 1 = cc in absurd (omega arith)
or_right false b h = h

-- in a table of `size` rows
module _ (size : ℕ) (thresholds : List ℤ) (current candidates : List ℕ) (R : ℕ → Value → Bool → Type 0)
    (each : (j width : ℕ) (g : Growth) → Advances (R j) (grow width thresholds (value_at current j) (value_at candidates j) g)) where
  -- k arguments are done
  pub record Done (e k : ℕ) (changed : Bool) (s : Steps) : Type 0 where
    pub live : s.budget.statistics.entries ≡ e + total s.next k
    pub room : Room size s.next
    pub rows : (j : ℕ) → j < k → Row (R j) (value_at s.next j) changed

  counted : (lost : Bool) (b : Budget) → (count_lost lost b).statistics.entries ≡ b.statistics.entries
  counted true b = refl
  counted false b = refl

  one : (e k : ℕ) → k < size → (changed : Bool) (s : Steps) → Done e k changed s → (x : Run Stop Meter Grown) → LiveIn s.budget.statistics.entries (λ g. entries_of g.value) x →
      Holds (λ g. Good g.value × R k g.value g.changed) x →
      Ends (λ moved t. Done e (k + 1) (changed || moved) t) (λ _ t. t.budget.statistics.entries ≡ e + total t.next k) (advanced k (value_at current k) s x)
  unfolding total
  one e k l changed s h (going g m) live w =
      let b = with_meter m s.budget in
      let back : value_at (put s.next k g.value) k ≡ g.value = put_back s.next k g.value (omega (arith, h.room.0)) w.0.formed in
      let c : (count_lost (loses (value_at current k).values g.value.values) b).statistics.entries ≡ m.entries = counted (loses (value_at current k).values g.value.values) b in
      let lists : entries_of (value_at (put s.next k g.value) k) ≡ entries_of g.value = ap entries_of back in
      completes {a = g.changed}
      {s = steps (count_lost (loses (value_at current k).values g.value.values) b) (put s.next k g.value) (put_growth s.growth k g.growth)}
      record {
        live = rw (add-one k) (omega (arith, total_before s.next k g.value k (omega arith), h.live));
        room = (omega (arith, length_put s.next k g.value, h.room.0), formed_put s.next k g.value (omega (arith, h.room.0)) w.0 h.room.1);
        rows = λ j q. row_of j q back;
      }
    where
      row_of : (j : ℕ) → j < k + 1 → value_at (put s.next k g.value) k ≡ g.value → Row (R j) (value_at (put s.next k g.value) j) (changed || g.changed)
      row_of j q back = elim (dec_lt j k) [
        | yes d ↦
            let o = h.rows j d in
            rw (put_other s.next k g.value j (λ z. omega arith)) record { own = o.own; is = o.is; told = λ z. o.told (or_left changed g.changed z) }
        | no d ↦
            let z : j ≡ k = omega arith in
            rw (z, back) record { own = g.changed; is = w.1; told = λ y. or_right changed g.changed y }
      ]
  one e k l changed s h (stopped x m) live w = stops {s = steps (with_meter m s.budget) s.next s.growth} (omega (arith, h.live))

  pub advance_ends : (e k n : ℕ) → k + n ≤ size → (changed : Bool) (s : Steps) → Done e k changed s →
      Ends (λ c t. Done e (k + n) c t) (λ _ t. t.budget.statistics.entries ≡ e) (advance thresholds current candidates k n changed s)
  unfolding advance advance_one
  advance_ends e k zero l changed s h = ends_pure changed s (rw (add-zero k) h)
  advance_ends e k (suc n) l changed s h =
      let q : k + suc n ≡ k + 1 + n = omega arith in
      rw q
      (ends_bind {P = λ moved t. Done e (k + 1) (changed || moved) t} {Q = λ _ t. t.budget.statistics.entries ≡ e} (holding_next k (advance_one thresholds current candidates k))
      (λ moved. advance thresholds current candidates (k + 1) n (changed || moved)) s
      (ends_through (λ t. t) (λ _ t. t) (λ _ t. steps (released (total t.next k) t.budget) t.next t.growth) (λ x. x)
      {P = λ moved t. Done e (k + 1) (changed || moved) t} {Q = λ _ t. t.budget.statistics.entries ≡ e + total t.next k}
      (advance_one thresholds current candidates k) s
      (one e k (omega arith) changed s h (grow s.budget.limits.width thresholds (value_at current k) (value_at candidates k) (growth_at s.growth k) (meter_of s.budget)) ((each k s.budget.limits.width (growth_at s.growth k)).lives.at s.budget.statistics.entries (meter_of s.budget) (omega arith))
      ((each k s.budget.limits.width (growth_at s.growth k)).gives.at (meter_of s.budget)))
      (λ _ t z. z) (λ _ t z. omega arith))
      (λ moved t z. advance_ends e (k + 1) n (omega arith) (changed || moved) t z) (λ _ t z. z))

-- ---- the whole of a pass but its round

module _ (thresholds : List ℤ) (current candidates : List ℕ) (R : ℕ → Value → Bool → Type 0)
    (each : (j width : ℕ) (g : Growth) → Advances (R j) (grow width thresholds (value_at current j) (value_at candidates j) g)) where
  pub renew_ends : (e n : ℕ) → (b : Budget) (c : Context) (growth : List ℕ) → Room n current → b.statistics.entries ≡ e + total current n + total candidates n →
      Ends (λ changed t. Passed R e n changed t) (λ _ t. (t.budget.statistics.entries ≡ e + total current n) × (t.current ≡ current)) (renew n thresholds candidates (ascent b c current growth))
  unfolding renew total
  renew_ends e n b c growth r q = go (advance_ends n thresholds current candidates R each (e + total current n + total candidates n) 0 n (omega arith) false (steps b (blank n) growth) begun)
    where
      begun : Done n thresholds current candidates R each (e + total current n + total candidates n) 0 false (steps b (blank n) growth)
      begun = record { live = omega arith; room = (rw (length-replicate {A = ℕ} (value_row * n) 0) (omega arith), blank_formed (value_row * n)); rows = λ j l. absurd (omega arith) }

      go : {x : Run Stop Steps Bool} → Ends (λ changed t. Done n thresholds current candidates R each (e + total current n + total candidates n) (0 + n) changed t) (λ _ t. t.budget.statistics.entries ≡ e + total current n + total candidates n) x →
          Ends (λ changed t. Passed R e n changed t) (λ _ t. (t.budget.statistics.entries ≡ e + total current n) × (t.current ≡ current)) (replaced n candidates (ascent b c current growth) x)
      go (completes {a = changed} {s = t} h) =
          let count : 0 + n ≡ n = omega arith in
          let same : total t.next (0 + n) ≡ total t.next n = ap (total t.next) count in
          completes {a = changed} {s = ascent (released (total current n) (released (total candidates n) t.budget)) c (moved t.next n current) t.growth} record {
            live = omega (arith, h.live, moved_total t.next current h.room.1 n r.0);
            room = (omega (arith, r.0, length_moved t.next current n), moved_formed t.next current h.room.1 n r.0 r.1);
            rows = λ j l. rw (moved_row t.next current h.room.1 n j r.0 l) (h.rows j (omega arith));
          }
      go (stops {e = x} {s = t} h) = stops {s = ascent (released (total candidates n) t.budget) c current t.growth} (omega arith, refl)
