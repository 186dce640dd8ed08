-- Refinements: one that was put reads back and the others stay; a value that is restricted is the same from any two meters, well-formed, and
-- has the live entries of its own list alone. What is noted leaves the same table from any two meters, of cells of 32 bits, and no entries.
use Prim.Native.Nat.{ℕ, zero, suc, ◌+◌, ◌*◌, ◌/◌, ◌%◌, ◌^◌, ◌≤◌, ◌<◌}
use native.Mathlib.Omega.{arith}
use native.Mathlib.Nat.{add-zero}
use mathlib.Core.Path.{◌≡◌, refl, subst, ◌∙◌}
use mathlib.Core.Bool.{Bool, true, false, cond}
use mathlib.Core.List.{List, [], ◌∷◌}
use lib.Dec.{ltb, eqb}
use lib.ListN.{length, get_or}
use lib.Seq.{sets, length-sets}
use Rattle.integers.specs.Lists.{All, from}
use Rattle.integers.proofs.ListLaws.{Compared, less, more, same, compared}
use Rattle.integers.proofs.Stores.{sets_before, sets_after, sets_in, all_get_d, all_sets}
use Rattle.limits.specs.declared.Stop.{Stop}
use Rattle.limits.specs.Metered.{going, ◌>>=◌, zoom}
use Rattle.limits.specs.Meter.{work, holding}
use Rattle.limits.proofs.Monad.{Ensures, any_value, by_pure, by_test, by_through, then, Steady, steady_pure, steady_test, steady_unit, steady_then, steady_through}
use Rattle.limits.proofs.Alike.{Alike, SteadyOn, on_look, on_bind, on_through, steady_on}
use Rattle.limits.proofs.Ends as ends
use Rattle.limits.proofs.Ends.{Ends, completes, ends_test, ends_as}
use Rattle.limits.proofs.Live.{Lives, live_pure, live_test, live_then, live_work, live_as, live_beside, live_dropping, live_ends}
use Rattle.interval.specs.declared.Interval.{Interval}
use Rattle.interval.specs.declared.Interval.TheVariants.{Bottom, Bounded, Unbounded}
use Rattle.cells.specs.Cells.{of_cell}
use Rattle.cells.proofs.CellLaws.{cell_small, of_number}
use Rattle.lattice.specs.Value.{Value}
use Rattle.lattice.proofs.LiveLaws.{refine_lives}
use Rattle.lattice.proofs.Steadiness.{refine_steady}
use Rattle.rows.specs.Row.{case_cell, low_cell, high_cell, entries_of}
use Rattle.rows.specs.WellFormed.{Proper}
use Rattle.rows.proofs.RowLaws.{size_is, interval_proper, interval_back}
use Rattle.rows.proofs.Formed.{proper_meet}
use Rattle.rows.proofs.Good.{Good, refine_good}
use Rattle.sizes.specs.Sizes.{refinement_row}
use Rattle.refinements.specs.Refinement.{Refinement, refinement_at, refinements_of, put_refinement, integer?, narrow, restrict, position, Notes, notes, noted, note}

-- ---- rows

pub length_refinement : (cells : List ℕ) (k id : ℕ) (i : Interval) → length (put_refinement cells k id i) ≡ length cells
unfolding put_refinement
length_refinement cells k id i = length-sets cells (refinement_row * k) (id % 2 ^ 32 ∷ case_cell i ∷ low_cell i ∷ high_cell i ∷ [])

module _ (cells : List ℕ) (k id : ℕ) (i : Interval) where
  put_cell : refinement_row * k + refinement_row ≤ length cells → (j : ℕ) → j < 4 → get_or (put_refinement cells k id i) (refinement_row * k + j) 0 ≡ get_or (id % 2 ^ 32 ∷ case_cell i ∷ low_cell i ∷ high_cell i ∷ []) j 0
  unfolding put_refinement
  put_cell room j h = sets_in 0 (id % 2 ^ 32 ∷ case_cell i ∷ low_cell i ∷ high_cell i ∷ []) cells (refinement_row * k) j h room

  -- it reads back
  pub refinement_back : refinement_row * k + refinement_row ≤ length cells → id < 2 ^ 32 → Proper i → refinement_at (put_refinement cells k id i) k ≡ record { expression = id; restriction = i }
  unfolding refinement_at
  refinement_back room small p =
      let e : get_or (put_refinement cells k id i) (refinement_row * k) 0 ≡ id =
      subst (λ (n : ℕ). get_or (put_refinement cells k id i) n 0 ≡ id) (add-zero (refinement_row * k)) (put_cell room 0 (omega arith) ∙ omega arith) in
      rw (e, put_cell room 1 (omega arith), put_cell room 2 (omega arith), put_cell room 3 (omega arith), interval_back i p)

  cell_kept : (j m : ℕ) → (j ≡ k → ⊥) → m < 4 → get_or (put_refinement cells k id i) (refinement_row * j + m) 0 ≡ get_or cells (refinement_row * j + m) 0
  unfolding put_refinement
  cell_kept j m other h = go (compared j k)
    where
      new : List ℕ
      new = id % 2 ^ 32 ∷ case_cell i ∷ low_cell i ∷ high_cell i ∷ []

      go : Compared j k → get_or (sets cells (refinement_row * k) new) (refinement_row * j + m) 0 ≡ get_or cells (refinement_row * j + m) 0
      go (less b) = sets_before 0 new cells (refinement_row * k) (refinement_row * j + m) (omega arith)
      go (more b) = sets_after 0 new cells (refinement_row * k) (refinement_row * j + m) (omega arith)
      go (same b) = absurd (other b)

  -- the others stay, whatever the table holds
  pub refinement_kept : (j : ℕ) → (j ≡ k → ⊥) → refinement_at (put_refinement cells k id i) j ≡ refinement_at cells j
  unfolding refinement_at
  refinement_kept j other =
      let e : get_or (put_refinement cells k id i) (refinement_row * j) 0 ≡ get_or cells (refinement_row * j) 0 =
      subst (λ (n : ℕ). get_or (put_refinement cells k id i) n 0 ≡ get_or cells n 0) (add-zero (refinement_row * j)) (cell_kept j 0 other (omega arith)) in
      rw (e, cell_kept j 1 other (omega arith), cell_kept j 2 other (omega arith), cell_kept j 3 other (omega arith))

-- any contents read as an interval of numbers of 32 bits
pub refinement_proper : (cells : List ℕ) (k : ℕ) → All (λ n. n < 2 ^ 32) cells → Proper (refinement_at cells k).restriction
unfolding refinement_at
refinement_proper cells k h = interval_proper (get_or cells (refinement_row * k + 1) 0) (of_cell (get_or cells (refinement_row * k + 2) 0)) (of_cell (get_or cells (refinement_row * k + 3) 0)) (of_number _ (small (refinement_row * k + 2))) (of_number _ (small (refinement_row * k + 3)))
  where
    small : (m : ℕ) → get_or cells m 0 < 2 ^ 32
    small m = all_get_d (λ n. n < 2 ^ 32) cells m 0 h (omega arith)

-- cells of 32 bits stay such
pub refinement_small : (cells : List ℕ) (k id : ℕ) (i : Interval) → All (λ n. n < 2 ^ 32) cells → Proper i → All (λ n. n < 2 ^ 32) (put_refinement cells k id i)
unfolding put_refinement
refinement_small cells k id i h p = all_sets (λ n. n < 2 ^ 32) cells (refinement_row * k) (id % 2 ^ 32 ∷ case_cell i ∷ low_cell i ∷ high_cell i ∷ []) h (new i p)
  where
    new : (i : Interval) → Proper i → All (λ n. n < 2 ^ 32) (id % 2 ^ 32 ∷ case_cell i ∷ low_cell i ∷ high_cell i ∷ [])
    new Bottom p = (omega arith, (omega arith, (omega arith, (omega arith, tt))))
    new (Bounded low high) p = (omega arith, (omega arith, (cell_small low p.0, (cell_small high p.1.0, tt))))
    new Unbounded p = (omega arith, (omega arith, (omega arith, (omega arith, tt))))

pub refinements_proper : (cells : List ℕ) (k n : ℕ) → All (λ n. n < 2 ^ 32) cells → All (λ r. Proper r.restriction) (from (refinement_at cells) k n)
unfolding from
refinements_proper cells k zero h = tt
refinements_proper cells k (suc n) h = (refinement_proper cells k h, refinements_proper cells (k + 1) n h)

-- ---- from any two meters the same

pub narrow_steady : (constants : List ℕ) (i : Interval) (v : Value) → Steady (narrow constants i v)
narrow_steady constants i v = steady_test (integer? v) (λ _. steady_through _ _ _ _ (refine_steady constants v i)) (λ _. steady_pure v)

pub restrict_steady : (constants : List ℕ) (rs : List Refinement) (id : ℕ) (v : Value) → Steady (restrict constants rs id v)
unfolding restrict
restrict_steady constants [] id v = steady_pure v
restrict_steady constants (r ∷ rs) id v =
    steady_then (steady_unit (holding (entries_of v) (work 1))) (steady_test (eqb r.expression id) (λ _. narrow_steady constants r.restriction v) (λ _. restrict_steady constants rs id v))

pub position_steady : (k : ℕ) (rs : List Refinement) (id : ℕ) → Steady (position k rs id)
unfolding position
position_steady k [] id = steady_pure k
position_steady k (r ∷ rs) id = steady_then (steady_unit (work 1)) (steady_test (eqb r.expression id) (λ _. steady_pure k) (λ _. position_steady (k + 1) rs id))

noted_steady : (n id : ℕ) (i : Interval) (k : ℕ) → SteadyOn (λ s. s.table) (noted n id i k)
noted_steady n id i k =
    record { same = λ s t e. rw e (go (ltb k n) (ltb k (length t.table / refinement_row)) (notes s.meter _) (notes t.meter _) (notes s.meter _) (notes t.meter _) (notes s.meter t.table) t refl refl refl) }
  where
    go : (b d : Bool) (x x' y y' z z' : Notes) → x.table ≡ x'.table → y.table ≡ y'.table → z.table ≡ z'.table →
        Alike {E = Stop} (λ s. s.table) (cond b (going n x) (cond d (going (n + 1) y) (going n z))) (cond b (going n x') (cond d (going (n + 1) y') (going n z')))
    go true d x x' y y' z z' p q r = (refl, p)
    go false true x x' y y' z z' p q r = (refl, q)
    go false false x x' y y' z z' p q r = (refl, r)

pub note_steady : (n id : ℕ) (i : Interval) → SteadyOn (λ s. s.table) (note n id i)
unfolding note
note_steady n id i =
    on_look {f = λ t. zoom (λ s. s.meter) (λ m s. notes m s.table) (position 0 (refinements_of t n) id) >>= noted n id i}
    (λ t. on_bind (on_through _ _ _ _ (λ _ _ _. refl) (λ s t u v e _. e) (steady_on (position_steady 0 (refinements_of t n) id))) (noted_steady n id i))

-- ---- live entries

pub narrow_lives : (constants : List ℕ) (i : Interval) (v : Value) → Lives (entries_of v) entries_of (narrow constants i v)
narrow_lives constants i v =
    live_test (integer? v) (λ _. live_dropping (entries_of v) (live_as size_is (refine_lives constants v i))) (λ _. live_pure (entries_of v) v refl)

pub restrict_lives : (constants : List ℕ) (rs : List Refinement) (id : ℕ) (v : Value) → Lives (entries_of v) entries_of (restrict constants rs id v)
unfolding restrict
restrict_lives constants [] id v = live_pure (entries_of v) v refl
restrict_lives constants (r ∷ rs) id v =
    live_then (live_beside (entries_of v) (live_work 1)) (live_test (eqb r.expression id) (λ _. narrow_lives constants r.restriction v) (λ _. restrict_lives constants rs id v))

pub position_lives : (k : ℕ) (rs : List Refinement) (id : ℕ) → Lives 0 (λ _. 0) (position k rs id)
unfolding position
position_lives k [] id = live_pure 0 k refl
position_lives k (r ∷ rs) id = live_then (live_work 1) (live_test (eqb r.expression id) (λ _. live_pure 0 k refl) (λ _. position_lives (k + 1) rs id))

-- entries and cells that stay: what is noted of a proper interval
module _ (n id : ℕ) (i : Interval) (proper : Proper i) where
  noted_ends : (k : ℕ) (s : Notes) → All (λ c. c < 2 ^ 32) s.table → Ends {E = Stop} (λ _ t. (t.meter.entries ≡ s.meter.entries) × All (λ c. c < 2 ^ 32) t.table) (λ _ _. ⊥) (noted n id i k s)
  noted_ends k s h =
      ends_test (ltb k n) (λ _. completes (refl, refinement_small s.table k id _ h (proper_meet _ i (refinement_proper s.table k h) proper)))
      (λ _. ends_test (ltb k (length s.table / refinement_row)) (λ _. completes (refl, refinement_small s.table k id i h proper)) (λ _. completes (refl, h)))

  pub note_ends : (s : Notes) → All (λ c. c < 2 ^ 32) s.table →
      Ends (λ _ t. (t.meter.entries ≡ s.meter.entries) × All (λ c. c < 2 ^ 32) t.table) (λ _ t. (t.meter.entries ≡ s.meter.entries) × All (λ c. c < 2 ^ 32) t.table) (note n id i s)
  unfolding note
  note_ends s h =
      ends.on_bind (λ t. t.meter) (λ t m. notes m t.table) (λ t m. notes m t.table) (λ e. e) (position 0 (refinements_of s.table n) id) (noted n id i) s
      (live_ends (position_lives 0 (refinements_of s.table n) id) (any_value _) s.meter)
      (λ k m p. ends_as (noted_ends k (notes m s.table) h) (λ _ t q. (omega (arith, q.0, p.1), q.1)) (λ _ _ q. absurd q))
      (λ _ m p. (p, h))

-- ---- values that a row holds exactly

module _ (constants : List ℕ) (small : All (λ n. n < 2 ^ 32) constants) where
  pub narrow_good : (i : Interval) (v : Value) → Proper i → Good v → Ensures Good (narrow constants i v)
  narrow_good i v p w = by_test (integer? v) (λ _. by_through Good _ _ _ _ (refine_good constants small v i w p)) (λ _. by_pure v w)

  pub restrict_good : (rs : List Refinement) (id : ℕ) (v : Value) → All (λ r. Proper r.restriction) rs → Good v → Ensures Good (restrict constants rs id v)
  unfolding restrict
  restrict_good [] id v p w = by_pure v w
  restrict_good (r ∷ rs) id v p w =
      then (holding (entries_of v) (work 1)) (by_test (eqb r.expression id) (λ _. narrow_good r.restriction v p.0 w) (λ _. restrict_good rs id v p.1 w))
