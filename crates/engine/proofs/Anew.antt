-- What the tables of current values and growth held before does not matter to a run: the rows of the arguments are written before they are read,
-- and a run that is stopped in its beginning hands on nothing of them.
use Prim.Native.Nat.{ℕ, zero, suc, ◌*◌, ◌+◌, ◌≤◌}
use native.Mathlib.Omega.{arith}
use mathlib.Core.Path.{◌≡◌, refl, sym, ap, subst, ◌∙◌}
use mathlib.Core.List.{List, [], ◌∷◌}
use borrow.Author.Tests.{lt-ltb}
use lib.ListN.{length, replicate, length-replicate}
use lib.Seq.{sets, length-sets}
use Rattle.limits.specs.declared.Stop.{Stop}
use Rattle.limits.specs.declared.Budget.{Budget}
use Rattle.limits.specs.Metered.{Run, going, stopped, ◌>>◌, zoom}
use Rattle.limits.specs.Meter.{meter_of, with_meter}
use Rattle.limits.specs.Budget.{work, released}
use Rattle.thresholds.specs.Thresholds.{Entry, entry}
use Rattle.sizes.specs.Sizes.{value_row, growth_row}
use Rattle.slots.specs.Slots.{blank, total, copies}
use Rattle.slots.proofs.Likewise.{Likewise, both_go, both_stop, like_then, like_through, like_part}
use Rattle.slots.proofs.Shared.{Shared, shared_none, shared_all, shared_more}
use Rattle.slots.proofs.Anew.{copies_anew}
use Rattle.widening.specs.Widening.{put_growth, no_growth}
use Rattle.rounds.specs.Round.{Given}
use Rattle.engine.specs.Run.{enter_ends, Start, start, copying, paying_growth, clearing, seeded, Beginning, beginning, in_entry, in_start, begin}
use Rattle.engine.specs.Call.{Tables, begun, finished, ran_on}

-- ---- growth that is cleared

length_cleared : (cells : List ℕ) (n : ℕ) → n ≤ 256 → length (no_growth cells n) ≡ length cells
unfolding no_growth put_growth
length_cleared cells zero h = refl
length_cleared cells (suc n) h = rw (lt-ltb n 256 (omega arith)) (length-sets (no_growth cells n) (growth_row * n) (0 ∷ 0 ∷ []) ∙ length_cleared cells n (omega arith))

module _ (cells cells' : List ℕ) (same : length cells' ≡ length cells) where
  cleared_shared : (n : ℕ) → n ≤ 256 → growth_row * n ≤ length cells → Shared (growth_row * n) (no_growth cells n) (no_growth cells' n)
  unfolding no_growth put_growth
  cleared_shared zero h r = shared_none same
  cleared_shared (suc n) h r =
      let room : growth_row * n + 2 ≤ length (no_growth cells n) = omega (arith, length_cleared cells n (omega arith)) in
      let e : growth_row * n + 2 ≡ growth_row * suc n = omega arith in
      rw (lt-ltb n 256 (omega arith))
      (subst (λ (j : ℕ). Shared j (sets (no_growth cells n) (growth_row * n) (0 ∷ 0 ∷ [])) (sets (no_growth cells' n) (growth_row * n) (0 ∷ 0 ∷ []))) e (shared_more (cleared_shared n (omega arith) (omega arith)) (growth_row * n) (0 ∷ 0 ∷ []) (omega arith) room))

  cleared_same : (n : ℕ) → n ≤ 256 → length cells ≡ growth_row * n → no_growth cells n ≡ no_growth cells' n
  cleared_same n h size = shared_all (cleared_shared n h (omega arith)) (omega (arith, length_cleared cells n h))

-- ---- the beginning of a run

-- in the same states, or with the same counts and thresholds where both are stopped
abbrev Begins : Run Stop Beginning (Unit {0}) → Run Stop Beginning (Unit {0}) → Type 0
Begins x y = Likewise (λ _ s s'. s ≡ s') (λ s s'. s.entry ≡ s'.entry) x y

module _ (seeds : List ℕ) (n : ℕ) (few : n ≤ 256) (v v' w w' : List ℕ) (size : length v ≡ value_row * n) (same : length v' ≡ length v)
    (rows : length w ≡ growth_row * n) (alike : length w' ≡ length w) where
  -- the same counts and current values, before growth is cleared
  abbrev Sown : Start → Start → Type 0
  Sown s s' = (s ≡ start s.budget s.current w) × (s' ≡ start s.budget s.current w')

  abbrev Spent : Start → Start → Type 0
  Spent s s' = s.budget ≡ s'.budget

  paid_anew : (b : Budget) (c : List ℕ) → Likewise (λ _ s s'. s ≡ s') Spent ((paying_growth n >> clearing n) (start b c w)) ((paying_growth n >> clearing n) (start b c w'))
  paid_anew b c =
      like_then {P = λ _ s s'. Sown s s'} {Q = Spent} (paying_growth n) (clearing n) (start b c w) (start b c w')
      (like_through _ _ _ _ {P = λ _ s s'. Sown s s'} {Q = λ s s'. (s.budget ≡ s'.budget) × (s.current ≡ s'.current)} (zoom (λ s. s.budget) (λ b s. start b s.current s.growth) (work n))
      (start b c w) (start b c w')
      (like_part _ _ _ _ (work n) (start b c w) (start b c w') refl (λ _ u. (refl, refl)) (λ u. (refl, refl)))
      (λ _ s s' h. h) (λ s s' h d. released (total (h.1 d) n) (h.0 d)))
      (λ _ s s' h. both_go (cleared s s' h))
      (λ s s' h. h)
    where
      cleared : (s s' : Start) → Sown s s' → start s.budget s.current (no_growth s.growth n) ≡ start s'.budget s'.current (no_growth s'.growth n)
      cleared s s' h =
          ap (λ (t : Start). start t.budget t.current (no_growth t.growth n)) h.0
          ∙ ap (start s.budget s.current) (cleared_same w w' alike n few rows)
          ∙ sym (ap (λ (t : Start). start t.budget t.current (no_growth t.growth n)) h.1)

  seeded_anew : (b : Budget) → Likewise (λ _ s s'. s ≡ s') Spent (seeded seeds n (start b v w)) (seeded seeds n (start b v' w'))
  unfolding seeded
  seeded_anew b =
      like_then {P = λ _ s s'. Sown s s'} {Q = Spent} (copying seeds n) (paying_growth n >> clearing n) (start b v w) (start b v' w')
      (like_through _ _ _ _ (copies seeds 0 n) (start b v w) (start b v' w') (copies_anew n (meter_of b) v v' size same seeds)
      (λ _ t t' e. (refl, (λ d. start (with_meter (sym e d).meter b) (sym e d).rows w'))) (λ t t' e d. with_meter (e d) b))
      (λ _ s s' h.
      subst (λ (x : Start). Likewise (λ _ u u'. u ≡ u') Spent ((paying_growth n >> clearing n) x) ((paying_growth n >> clearing n) s')) (sym h.0)
      (subst (λ (y : Start). Likewise (λ _ u u'. u ≡ u') Spent ((paying_growth n >> clearing n) (start s.budget s.current w)) ((paying_growth n >> clearing n) y)) (sym h.1) (paid_anew s.budget s.current)))
      (λ s s' h. h)

  begin_anew : (e : Entry) → Begins (begin seeds n (beginning e v w)) (begin seeds n (beginning e v' w'))
  unfolding begin
  begin_anew e =
      like_then {P = λ _ s s'. (s ≡ beginning s.entry v w) × (s' ≡ beginning s.entry v' w')} {Q = λ s s'. s.entry ≡ s'.entry} (in_entry enter_ends) (in_start (seeded seeds n)) (beginning e v w) (beginning e v' w')
      (like_part _ _ _ _ enter_ends (beginning e v w) (beginning e v' w') refl (λ _ u. (refl, refl)) (λ u. refl))
      (λ _ s s' h.
      subst (λ (x : Beginning). Begins (in_start (seeded seeds n) x) (in_start (seeded seeds n) s')) (sym h.0)
      (subst (λ (y : Beginning). Begins (in_start (seeded seeds n) (beginning s.entry v w)) (in_start (seeded seeds n) y)) (sym h.1) (from s.entry)))
      (λ s s' h. h)
    where
      from : (f : Entry) → Begins (in_start (seeded seeds n) (beginning f v w)) (in_start (seeded seeds n) (beginning f v' w'))
      from f =
          like_through _ _ _ _ (seeded seeds n) (beginning f v w) (beginning f v' w') (seeded_anew f.budget)
          (λ _ s s' q d. beginning (entry (q d).budget f.count f.table) (q d).current (q d).growth) (λ s s' q d. entry (q d) f.count f.table)

-- ---- the run

module _ (g : Given) (t : Tables) where
  same_finish : {x y : Run Stop Beginning (Unit {0})} → Begins x y → finished g t x ≡ finished g t y
  same_finish (both_go e) = ap (λ (s : Beginning). finished g t (going tt s)) e
  same_finish (both_stop {e = e} q) = ap (λ (x : Entry). finished g t (stopped e (beginning x [] []))) q

  -- in tables that held anything
  pub ran_anew : g.positions ≤ 256 → (current growth : List ℕ) → length current ≡ value_row * g.positions → length growth ≡ growth_row * g.positions →
      finished g t (begun g t current growth) ≡ ran_on g t
  unfolding ran_on
  ran_anew few current growth size rows =
      same_finish
      (begin_anew g.seeds g.positions few current (blank g.positions) growth (replicate (growth_row * g.positions) 0) size (length-replicate {A = ℕ} (value_row * g.positions) 0 ∙ sym size) rows
      (length-replicate {A = ℕ} (growth_row * g.positions) 0 ∙ sym rows) (entry t.header.budget t.header.counts.thresholds t.thresholds))
