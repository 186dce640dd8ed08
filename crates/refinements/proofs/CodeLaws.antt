-- What the code of refinements answers is what the definitions say, over plain variables.
use Prim.Native.Nat.{ℕ, zero, suc, min, ◌+◌, ◌-◌, ◌*◌, ◌/◌, ◌%◌, ◌^◌, ◌≤◌, ◌<◌}
use native.Mathlib.Omega.{arith}
use native.Mathlib.Nat.{add-zero, sub-zero}
use native.Mathlib.Numerals.{towards_suc}
use mathlib.Core.Path.{◌≡◌, refl, sym, ap, subst, ◌∙◌}
use mathlib.Core.Bool.{Bool, true, false, cond}
use mathlib.Core.List.{List, [], ◌∷◌}
use mathlib.Core.Option.{some, none}
use borrow.Author.Tests.{lt-ltb, le-ltb, eq-eqb, ne_eqb}
use lib.Dec.{ltb, eqb}
use lib.ListN.{length, get_or, set}
use lib.Seq.{sets}
use Rattle.integers.specs.Lists.{from}
use Rattle.integers.proofs.Stores.{sets_min, get_or_min}
use Rattle.limits.specs.declared.Stop.{Stop}
use Rattle.limits.specs.Metered.{Run, going, stopped, Metered, pure, after, ◌>>=◌, ◌>>◌, fold_m, mapped, through}
use Rattle.limits.specs.declared.Meter.{Meter}
use Rattle.limits.specs.Meter.{work, released, with_entries, holding, dropping}
use Rattle.limits.proofs.Monad.{bind_stop, bind_on, then_stop, then_on, through_on, through_stop, pure_is, yes_on, no_on, Ensures, by_pure, by_test, by_through, then}
use Rattle.limits.proofs.Onward.{Onward, onward_begins, onward_is, onward_ends, onward_yes, onward_no, then_stops, then_goes}
use Rattle.limits.proofs.CodeLaws.{drop_on, drop_stop}
use Rattle.interval.specs.declared.Interval.{Interval}
use Rattle.interval.specs.declared.Interval.TheVariants.{Bottom, Bounded, Unbounded}
use Rattle.interval.specs.Interval.{meet_of}
use Rattle.interval.specs.Bound.{bottom_bound, numeric_bound, meet_bound, same_bound}
use Rattle.cells.specs.Cells.{of_cell}
use Rattle.std.specs.Prelude.{None}
use Rattle.std.proofs.Common.{Result, Ok, Err}
use Rattle.lattice.specs.Value.{Value, value}
use Rattle.lattice.specs.Lattice.{numeric, sift, reduce, source, meet_lists, meet, refine}
use Rattle.lattice.specs.declared.Abstract.{Abstract}
use Rattle.lattice.specs.Answers.{answered_value}
use Rattle.rows.specs.Row.{case_cell, low_cell, high_cell, interval_of, entries_of}
use Rattle.rows.proofs.RowLaws.{numeric_none}
use Rattle.sizes.specs.Sizes.{refinement_row}
use Rattle.refinements.specs.Refinement.{Refinement, refinement_at, refinements_of, put_refinement, integer?, narrow, restrict, position, notes, note}
use Rattle.refinements.specs.Refinement as refinements

-- ---- a row

module _ (cells : List ℕ) (k at : ℕ) (start : at ≡ min (refinement_row * k) (length cells)) where
  reached : (j : ℕ) → get_or cells (at + j) 0 ≡ get_or cells (refinement_row * k + j) 0
  reached j = ap (λ (n : ℕ). get_or cells (n + j) 0) start ∙ get_or_min 0 cells (refinement_row * k) j

  pub expression_read : {n : ℕ} → n ≡ get_or cells at 0 → n ≡ (refinement_at cells k).expression
  unfolding refinement_at
  expression_read e = e ∙ ap (λ (n : ℕ). get_or cells n 0) (sym (add-zero at)) ∙ reached 0 ∙ ap (λ (n : ℕ). get_or cells n 0) (add-zero (refinement_row * k))

  pub restriction_read : {a b c : ℕ} {i : Interval} → a ≡ get_or cells (at + 1) 0 → b ≡ get_or cells (at + 2) 0 → c ≡ get_or cells (at + 3) 0 → i ≡ interval_of a (of_cell b) (of_cell c) →
      i ≡ (refinement_at cells k).restriction
  unfolding refinement_at
  restriction_read p q r e = e ∙ rw (p, q, r, reached 1, reached 2, reached 3)

  pub refinement_put : (id : ℕ) (i : Interval) {a b c d : ℕ} {l₁ l₂ l₃ l : List ℕ} → a ≡ id % 2 ^ 32 → b ≡ case_cell i → c ≡ low_cell i → d ≡ high_cell i →
      l₁ ≡ set cells at a → l₂ ≡ set l₁ (at + 1) b → l₃ ≡ set l₂ (at + 2) c → l ≡ set l₃ (at + 3) d → l ≡ put_refinement cells k id i
  unfolding put_refinement
  refinement_put id i ea eb ec ed p₁ p₂ p₃ p =
      p ∙ rw (p₃, p₂, p₁, ea, eb, ec, ed)
      (stores (id % 2 ^ 32) (case_cell i) (low_cell i) (high_cell i) ∙ ap (λ (n : ℕ). sets cells n (id % 2 ^ 32 ∷ case_cell i ∷ low_cell i ∷ high_cell i ∷ [])) start
      ∙ sets_min (id % 2 ^ 32 ∷ case_cell i ∷ low_cell i ∷ high_cell i ∷ []) cells (refinement_row * k))
    where
      stores : (a b c d : ℕ) → set (set (set (set cells at a) (at + 1) b) (at + 2) c) (at + 3) d ≡ sets cells at (a ∷ b ∷ c ∷ d ∷ [])
      stores a b c d = simp towards_suc

-- ---- a value is narrowed

module _ (constants : List ℕ) (i : Interval) (v : Value) (m : Meter) {t : Bool} (ask : t ≡ integer? v) where
  pub narrow_yes : (r : Result Abstract Stop) (u : Meter) {n : ℕ} {left : Meter} → t ≡ true → answered_value r u ≡ refine constants v i m → n ≡ entries_of v → left ≡ released n u →
      answered_value r left ≡ narrow constants i v m
  narrow_yes r u p h q l = yes_on _ _ m (sym ask ∙ p) (rw (l, q) (go r h))
    where
      go : (r : Result Abstract Stop) → answered_value r u ≡ refine constants v i m → answered_value r (released (entries_of v) u) ≡ dropping (entries_of v) (refine constants v i) m
      go (Ok a) h = drop_on (entries_of v) (refine constants v i) m h
      go (Err s) h = drop_stop (entries_of v) (refine constants v i) m h

  pub narrow_no : t ≡ false → going v m ≡ narrow constants i v m
  narrow_no p = no_on _ _ m (sym ask ∙ p) (pure_is v m)

-- ---- the place of the first

module _ (g : ℕ → Refinement) (id count : ℕ) (m : Meter) where
  abbrev pub Seeking : ℕ → Meter → Type 0
  Seeking k t = Onward (position 0 (from g 0 count) id) m (position k (from g k (count - k)) id) t

  pub seeking : Seeking 0 m
  seeking = let e : count ≡ count - 0 = omega arith in onward_begins m (ap (λ (n : ℕ). position 0 (from g 0 n) id) e)

  -- what follows the unit of work
  abbrev here : ℕ → Metered Stop Meter ℕ
  here k = cond (eqb (g k).expression id) (pure k) (position (k + 1) (from g (k + 1) (count - (k + 1))) id)

  module _ {k : ℕ} {t : Meter} (h : Seeking k t) where
    pub seek_none : k ≡ count → going count t ≡ position 0 (from g 0 count) id m
    unfolding position from
    seek_none q = let e : count - k ≡ 0 = omega arith in ap (λ (n : ℕ). going n t) (sym q) ∙ onward_ends h (ap (λ (n : ℕ). position k (from g k n) id) e)

    module _ (l : k < count) where
      next : position k (from g k (count - k)) id ≡ (work 1 >> here k)
      unfolding position from
      next = let e : count - k ≡ suc (count - (k + 1)) = omega arith in ap (λ (n : ℕ). position k (from g k n) id) e

      pub seek_stopped : {s : Stop} {u : Meter} → stopped s u ≡ work 1 t → stopped s u ≡ position 0 (from g 0 count) id m
      seek_stopped w = then_stops h (work 1) (here k) next w

      module _ {u : Meter} (w : going tt u ≡ work 1 t) {f : ℕ} (s : f ≡ (g k).expression) where
        paid_for : Onward (position 0 (from g 0 count) id) m (here k) u
        paid_for = then_goes h (work 1) (here k) next w

        pub seek_found : f ≡ id → going k u ≡ position 0 (from g 0 count) id m
        seek_found p = onward_is (onward_yes (pure k) (position (k + 1) (from g (k + 1) (count - (k + 1))) id) paid_for (eq-eqb _ id (sym s ∙ p))) (pure_is k u)

        pub seek_more : (f ≡ id → ⊥) → Seeking (k + 1) u
        seek_more p = onward_no (pure k) (position (k + 1) (from g (k + 1) (count - (k + 1))) id) paid_for (ne_eqb _ id (λ z. p (s ∙ z)))

-- ---- one is recorded

module _ (n id : ℕ) (i : Interval) (m : Meter) (table : List ℕ) {t : Meter} where
  pub note_stopped : {s : Stop} → stopped s t ≡ position 0 (refinements_of table n) id m → stopped s (notes t table) ≡ note n id i (notes m table)
  unfolding note
  note_stopped h = bind_stop _ (notes m table) (refinements.noted n id i) (through_stop _ _ _ _ (position 0 (refinements_of table n) id) (notes m table) h)

  module _ {k : ℕ} (h : going k t ≡ position 0 (refinements_of table n) id m) where
    note_at : {y : Run Stop refinements.Notes ℕ} → y ≡ refinements.noted n id i k (notes t table) → y ≡ note n id i (notes m table)
    unfolding note
    note_at f = bind_on _ (notes m table) (refinements.noted n id i) (through_on _ _ _ _ (position 0 (refinements_of table n) id) (notes m table) h) f

    pub note_old : {o j : Interval} {table' : List ℕ} → k < n → o ≡ (refinement_at table k).restriction → j ≡ meet_of o i → table' ≡ put_refinement table k id j →
        going n (notes t table') ≡ note n id i (notes m table)
    note_old l p r d = note_at (rw (lt-ltb k n l, d, r, p))

  module _ (h : going n t ≡ position 0 (refinements_of table n) id m) where
    pub note_new : {table' : List ℕ} → n < length table / refinement_row → table' ≡ put_refinement table n id i → going (n + 1) (notes t table') ≡ note n id i (notes m table)
    note_new l d = note_at h (rw (le-ltb n n (omega arith), lt-ltb n (length table / refinement_row) l, d))

    pub note_full : length table / refinement_row ≤ n → going n (notes t table) ≡ note n id i (notes m table)
    note_full l = note_at h (rw (le-ltb n n (omega arith), le-ltb n (length table / refinement_row) l))

-- ---- a value is narrowed by the first

module _ (constants : List ℕ) (g : ℕ → Refinement) (id : ℕ) (v : Value) where
  -- with the k-th, if there are more
  abbrev pub chosen : ℕ → ℕ → Metered Stop Meter Value
  chosen count k = cond (ltb k count) (narrow constants (g k).restriction v) (pure v)

  abbrev pub held : {A : Type 0} → Run Stop Meter A → Run Stop Meter A
  held x = mapped (λ m. m) (released (entries_of v)) (λ s. s) x

  -- `restrict` is a search and then one narrowing
  pub restrict_by : (n k : ℕ) (m : Meter) → after (held (position k (from g k n) id m)) (chosen (k + n)) ≡ restrict constants (from g k n) id v m
  unfolding restrict position from ◌>>◌ ◌>>=◌ after through mapped pure
  restrict_by zero k m = rw (le-ltb k (k + 0) (omega arith)) refl
  restrict_by (suc n) k m = step (work 1 m) (eqb (g k).expression id) (restrict_by n (k + 1))
    where
      step : (x : Run Stop Meter (Unit {0})) (t : Bool) →
          ((m' : Meter) → after (held (position (k + 1) (from g (k + 1) n) id m')) (chosen (k + 1 + n)) ≡ restrict constants (from g (k + 1) n) id v m') →
          after (held (after x (λ _. cond t (pure k) (position (k + 1) (from g (k + 1) n) id)))) (chosen (k + suc n))
          ≡ after (held x) (λ _. cond t (narrow constants (g k).restriction v) (restrict constants (from g (k + 1) n) id v))
      step (stopped s m') t h = refl
      step (going u m') true h = rw (lt-ltb k (k + suc n) (omega arith)) refl
      step (going u m') false h = let e : k + suc n ≡ k + 1 + n = omega arith in rw e (h m')

  module _ (count : ℕ) (m : Meter) where
    by_place : {y : Run Stop Meter ℕ} → y ≡ position 0 (from g 0 count) id m → after (held y) (chosen count) ≡ restrict constants (from g 0 count) id v m
    by_place h = let z : 0 + count ≡ count = omega arith in ap (λ (y : Run Stop Meter ℕ). after (held y) (chosen count)) h ∙ (rw z at (restrict_by count 0 m))

    module _ {t : Meter} where
      pub restrict_stopped : {s : Stop} {left : Meter} {n : ℕ} → stopped s t ≡ position 0 (from g 0 count) id m → n ≡ entries_of v → left ≡ released n t → stopped s left ≡ restrict constants (from g 0 count) id v m
      unfolding after mapped
      restrict_stopped h q r = rw (r, q) (by_place h)

      pub restrict_one : {k : ℕ} {j : Interval} {y : Run Stop Meter Value} → going k t ≡ position 0 (from g 0 count) id m → k < count → j ≡ (g k).restriction → y ≡ narrow constants j v t →
          y ≡ restrict constants (from g 0 count) id v m
      unfolding after mapped
      restrict_one {k} h l d a = a ∙ ap (λ (j : Interval). narrow constants j v t) d ∙ (rw (lt-ltb k count l) at (by_place h))

      pub restrict_none : going count t ≡ position 0 (from g 0 count) id m → going v t ≡ restrict constants (from g 0 count) id v m
      unfolding after mapped
      restrict_none h = pure_is v t ∙ (rw (le-ltb count count (omega arith)) at (by_place h))

-- ---- a numeric value

plain : (x : Interval) → value (numeric_bound x) (cond (same_bound (numeric_bound x) bottom_bound) (some []) none) None ≡ numeric x
plain Bottom = refl
plain (Bounded low high) = refl
plain Unbounded = refl

-- what it has in common with an interval is numeric
meet_numeric : (constants : List ℕ) (i j : Interval) →
    pure {E = Stop} {S = Meter} (numeric (meet_of i j)) ≡ meet_lists (numeric i) (numeric j) (meet_bound (numeric i).bound (numeric j).bound) constants (source (numeric i).values (numeric j).values)
unfolding meet_of sift reduce fold_m ◌>>=◌ after pure
meet_numeric constants Bottom Bottom = refl
meet_numeric constants Bottom (Bounded c d) = refl
meet_numeric constants Bottom Unbounded = refl
meet_numeric constants (Bounded a b) Bottom = refl
meet_numeric constants (Bounded a b) (Bounded c d) = ap (λ (v : Value). pure {E = Stop} {S = Meter} v) (sym (plain (meet_of (Bounded a b) (Bounded c d))))
meet_numeric constants (Bounded a b) Unbounded = ap (λ (v : Value). pure {E = Stop} {S = Meter} v) (sym (plain (meet_of (Bounded a b) Unbounded)))
meet_numeric constants Unbounded Bottom = refl
meet_numeric constants Unbounded (Bounded c d) = ap (λ (v : Value). pure {E = Stop} {S = Meter} v) (sym (plain (meet_of Unbounded (Bounded c d))))
meet_numeric constants Unbounded Unbounded = refl

pub refine_numeric : (constants : List ℕ) (i j : Interval) (m : Meter) → (work 1 >> pure (numeric (meet_of i j))) m ≡ refine constants (numeric i) j m
unfolding refine meet
refine_numeric constants i j m = ap (λ (k : Metered Stop Meter Value). (work 1 >> k) m) (meet_numeric constants i j)

pub numeric_integer : (i : Interval) → integer? (numeric i) ≡ true
numeric_integer Bottom = refl
numeric_integer (Bounded low high) = refl
numeric_integer Unbounded = refl

module _ (constants : List ℕ) (i j : Interval) (m : Meter) where
  -- no entries are dropped
  narrow_numeric : {y : Run Stop Meter Value} → y ≡ dropping 0 (refine constants (numeric i) j) m → y ≡ narrow constants j (numeric i) m
  narrow_numeric h = yes_on _ _ m (numeric_integer i) (rw (← numeric_none i) h)

  pub numeric_stopped : {s : Stop} {t : Meter} → stopped s t ≡ work 1 m → stopped s t ≡ narrow constants j (numeric i) m
  numeric_stopped {s} {t} q =
      narrow_numeric
      (ap (λ (k : ℕ). stopped s (with_entries k t)) (sym (sub-zero t.entries))
      ∙ drop_stop 0 (refine constants (numeric i) j) m (then_stop (work 1) m (pure (numeric (meet_of i j))) q ∙ refine_numeric constants i j m))

  pub numeric_met : {t : Meter} {k : Interval} → going tt t ≡ work 1 m → k ≡ meet_of i j → going (numeric k) t ≡ narrow constants j (numeric i) m
  numeric_met {t} q p =
      narrow_numeric
      (ap (λ (k : Interval). going (numeric k) t) p ∙ ap (λ (k : ℕ). going (numeric (meet_of i j)) (with_entries k t)) (sym (sub-zero t.entries))
      ∙ drop_on 0 (refine constants (numeric i) j) m
      (then_on (work 1) m (pure (numeric (meet_of i j))) q (pure_is _ _) ∙ refine_numeric constants i j m))

-- ---- narrowed by the first

module _ (g : ℕ → Refinement) (id count : ℕ) (i : Interval) (m : Meter) {t : Meter} where
  pub interval_stopped : {s : Stop} → stopped s t ≡ position 0 (from g 0 count) id m → (constants : List ℕ) → stopped s t ≡ restrict constants (from g 0 count) id (numeric i) m
  interval_stopped {s} h constants = restrict_stopped constants g id (numeric i) count m h (numeric_none i) (ap (λ (k : ℕ). with_entries k t) (sym (sub-zero t.entries)))

  pub interval_free : going count t ≡ position 0 (from g 0 count) id m → (constants : List ℕ) → going (numeric i) t ≡ restrict constants (from g 0 count) id (numeric i) m
  interval_free h constants = restrict_none constants g id (numeric i) count m h

  module _ {k : ℕ} (h : going k t ≡ position 0 (from g 0 count) id m) (l : k < count) {u : Meter} where
    pub interval_refused : {s : Stop} → stopped s u ≡ work 1 t → (constants : List ℕ) → stopped s u ≡ restrict constants (from g 0 count) id (numeric i) m
    interval_refused p constants = restrict_one constants g id (numeric i) count m h l refl (numeric_stopped constants i (g k).restriction t p)

    pub interval_met : {r z : Interval} → going tt u ≡ work 1 t → r ≡ (g k).restriction → z ≡ meet_of i r → (constants : List ℕ) → going (numeric z) u ≡ restrict constants (from g 0 count) id (numeric i) m
    interval_met p d f constants = restrict_one constants g id (numeric i) count m h l refl (numeric_met constants i (g k).restriction t p (f ∙ ap (meet_of i) d))

-- ---- what is numeric stays so

abbrev pub Numeric : Value → Type 0
Numeric v = (i : Interval) × (v ≡ numeric i)

narrow_stays : (constants : List ℕ) (i j : Interval) → Ensures Numeric (narrow constants j (numeric i))
unfolding refine meet
narrow_stays constants i j =
    by_test (integer? (numeric i))
    (λ _. by_through Numeric _ _ _ _ (then (work 1) (subst (λ (m : Metered Stop Meter Value). Ensures Numeric m) (meet_numeric constants i j) (by_pure (numeric (meet_of i j)) (meet_of i j, refl)))))
    (λ _. by_pure (numeric i) (i, refl))

pub restrict_numeric : (constants : List ℕ) (known : List Refinement) (id : ℕ) (v : Value) → Numeric v → Ensures Numeric (restrict constants known id v)
unfolding restrict
restrict_numeric constants [] id v h = by_pure v h
restrict_numeric constants (r ∷ known) id v h =
    then (holding (entries_of v) (work 1))
    (by_test (eqb r.expression id) (λ _. subst (λ (u : Value). Ensures Numeric (narrow constants r.restriction u)) (sym h.1) (narrow_stays constants h.0 r.restriction))
    (λ _. restrict_numeric constants known id v h))
