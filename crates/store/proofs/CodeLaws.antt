-- What the code's answers are, over plain variables.
use Rattle.sizes.specs.Sizes as size
use Prim.Native.Nat.{ℕ, ◌+◌, ◌*◌, ◌<◌, ◌≤◌}
use native.Mathlib.Omega.{arith}
use native.Mathlib.Numerals.{add-one}
use mathlib.Core.Path.{◌≡◌, refl, sym, ap, ◌∙◌}
use mathlib.Core.Bool.{Bool, true, false}
use mathlib.Core.List.{List}
use borrow.Author.Tests.{leb-true, le-leb, ltb-true, lt-ltb, eq-eqb}
use lib.Dec.{leb, ltb}
use lib.IntN.{ℤ}
use lib.ListN.{length, set}
use Rattle.limits.specs.declared.Stop.{Stop}
use Rattle.limits.specs.declared.Budget.{Budget}
use Rattle.limits.specs.declared.Refusal.TheVariants.{Limit}
use Rattle.limits.specs.declared.Refusal.{Refusal}
use Rattle.limits.specs.Refusal.{Told, told}
use Rattle.limits.specs.Metered.{Run, going, stopped, Metered, pure, after, ◌>>=◌, ◌>>◌, mapped, through}
use Rattle.limits.specs.Budget.{work, predicates, positions}
use Rattle.limits.proofs.Monad.{then_on, then_stop, through_on, through_stop, came}
use Rattle.thresholds.specs.Thresholds.{Entry, entry}
use Rattle.integers.proofs.Tests.{and_left, and_right}
use Rattle.lattice.specs.Value.{Value}
use Rattle.lattice.specs.Lattice.{bottom}
use Rattle.rows.specs.Row.{put}
use Rattle.store.specs.declared.Store.{Store}
use Rattle.store.specs.declared.Kind.TheVariants.{Building}
use Rattle.store.specs.Store.{admits, with_budget, with_thresholds, with_predicate}
use Rattle.store.specs.Calls.{unless, billing, marks, entering, declared, bottoms, room_for, tables, predicate_call, first_argument, arity_of, argument_call}

-- ---- a test that refuses

module _ {S A : Type 0} (p : S → Bool) (r : Refusal) (m : Metered Told S A) (s : S) where
  pub refused : p s ≡ false → stopped (told r) s ≡ unless p r m s
  refused h = rw h

  pub passed : p s ≡ true → {y : Run Told S A} → y ≡ m s → y ≡ unless p r m s
  passed h k = rw h k

-- ---- what a call charges

module _ {A : Type 0} (m : Metered Stop Budget A) (s : Store) where
  pub charge_on : {a : A} {b : Budget} → going a b ≡ m s.budget → going a (with_budget b s) ≡ billing m s
  unfolding through mapped
  charge_on h = rw (← h)

  pub charge_off : {e : Stop} {b : Budget} → stopped e b ≡ m s.budget → stopped (told (Limit e)) (with_budget b s) ≡ billing m s
  unfolding through mapped
  charge_off h = rw (← h)

-- one charge after another
module _ {A B : Type 0} (m : Metered Stop Budget A) (n : Metered Stop Budget B) (s : Store) where
  pub charged_then_stop : {f : Told} {u : Store} → stopped f u ≡ billing m s → stopped f u ≡ billing (m >> n) s
  unfolding through mapped ◌>>◌ ◌>>=◌ after
  charged_then_stop {f} {u} h = go (m s.budget) h
    where
      go : (y : Run Stop Budget A) → stopped f u ≡ mapped (λ v. v) (λ v. v) (λ e. told (Limit e)) (mapped (λ b. with_budget b s) (λ b. with_budget b s) (λ e. e) y) →
          stopped f u ≡ mapped (λ v. v) (λ v. v) (λ e. told (Limit e)) (mapped (λ b. with_budget b s) (λ b. with_budget b s) (λ e. e) (after y (λ _. n)))
      go (going a b) q = let z : ◌≡◌ {A = ℕ} 0 1 = cc in absurd (omega arith)
      go (stopped t b) q = cc

  pub charged_then_on : {a : A} {u : Store} → going a u ≡ billing m s → {y : Run Told Store B} → y ≡ billing n u → y ≡ billing (m >> n) s
  unfolding through mapped ◌>>◌ ◌>>=◌ after
  charged_then_on {a} {u} h {y} k = go (m s.budget) h
    where
      go : (z : Run Stop Budget A) → going a u ≡ mapped (λ v. v) (λ v. v) (λ e. told (Limit e)) (mapped (λ b. with_budget b s) (λ b. with_budget b s) (λ e. e) z) →
          y ≡ mapped (λ v. v) (λ v. v) (λ e. told (Limit e)) (mapped (λ b. with_budget b s) (λ b. with_budget b s) (λ e. e) (after z (λ _. n)))
      go (going a b) q = let w : u ≡ with_budget b s = cc in k ∙ rw w
      go (stopped t b) q = let z : ◌≡◌ {A = ℕ} 0 1 = cc in absurd (omega arith)

-- all of a new predicate's charges, or none
module _ (arity : ℕ) (b : Budget) where
  pub declare_all : {t : Budget} → going tt t ≡ (predicates 1 >> positions arity >> work arity) b → going tt t ≡ declared arity b
  unfolding declared
  declare_all h = through_on _ _ _ _ (predicates 1 >> positions arity >> work arity) b h

  pub declare_none : {e : Stop} {t : Budget} → stopped e t ≡ (predicates 1 >> positions arity >> work arity) b → stopped e b ≡ declared arity b
  unfolding declared
  declare_none h = through_stop _ _ _ _ (predicates 1 >> positions arity >> work arity) b h

-- ---- thresholds in a call

module _ (m : Metered Stop Entry (Unit {0})) (s : Store) (t : List ℤ) {t' : List ℤ} {b : Budget} {n : ℕ} where
  pub entered_on : going tt (entry b n t') ≡ m (entry s.budget s.counts.thresholds t) → going tt (marks (with_thresholds n (with_budget b s)) t') ≡ entering m (marks s t)
  unfolding through mapped
  entered_on h = rw (← h)

  pub entered_off : {e : Stop} → stopped e (entry b n t') ≡ m (entry s.budget s.counts.thresholds t) → stopped (told (Limit e)) (marks (with_thresholds n (with_budget b s)) t') ≡ entering m (marks s t)
  unfolding through mapped
  entered_off h = rw (← h)

-- ---- seeds

pub bottoms_more : (seeds cells : List ℕ) (from j : ℕ) {v : Value} {r : List ℕ} → cells ≡ bottoms seeds from j → v ≡ bottom → r ≡ put cells (from + j) v → r ≡ bottoms seeds from (j + 1)
unfolding bottoms
bottoms_more seeds cells from j p q e = rw (e, q, p, add-one)

pub bottoms_none : (seeds : List ℕ) (from : ℕ) → seeds ≡ bottoms seeds from 0
unfolding bottoms
bottoms_none seeds from = refl

-- ---- an argument

module _ (p i : ℕ) (rows : List ℕ) (s : Store) (n : length rows ≡ size.predicate_cells) {t : Bool} (h : t ≡ admits Building s.phase) (o : t ≡ true) (e : s.counts.predicates ≤ 64) (f : p < s.counts.predicates) where
  pub argument_id : {arity first : ℕ} → arity ≡ arity_of rows p → i < arity → first ≡ first_argument rows p → going (first + i) s ≡ argument_call p i rows s
  unfolding argument_call pure
  argument_id {arity} a g q = rw (eq-eqb (length rows) size.predicate_cells n, ← h, o, le-leb s.counts.predicates 64 e, lt-ltb p s.counts.predicates f, ← a, lt-ltb i arity g, q)

-- ---- room for a predicate

pub room_yes : (p n arity : ℕ) {t : Bool} → t ≡ room_for p n arity → t ≡ true → (p < 64) × (n + arity ≤ 256)
room_yes p n arity q e =
    let h : room_for p n arity ≡ true = sym q ∙ e in
    (ltb-true p 64 (and_left (ltb p 64) (leb (n + arity) 256) h), leb-true (n + arity) 256 (and_right (ltb p 64) (leb (n + arity) 256) h))

-- ---- a predicate

-- a charge leaves a header with another budget, so the counts of rows and the context as they were
module _ (m : Metered Stop Budget (Unit {0})) (s : Store) {t : Store} (h : going tt t ≡ billing m s) where
  charged_budget : (b : Budget) × (t ≡ with_budget b s)
  charged_budget =
      let o = came (λ u. u) (λ _ u. u) (λ _ u. u) (λ e. told (Limit e)) _ s h in
      let i = came (λ u. u.budget) (λ u b. with_budget b u) (λ u b. with_budget b u) (λ e. e) m s o.from in
      (i.part, o.is ∙ i.is)

  pub charged_counts : t.counts ≡ s.counts
  charged_counts = ap (λ (u : Store). u.counts) charged_budget.1

  pub charged_context : t.context ≡ s.context
  charged_context = ap (λ (u : Store). u.context) charged_budget.1

module _ (arity : ℕ) (s : Store) (rows seeds : List ℕ) where
  module _ (n : length rows ≡ size.predicate_cells) where
    module _ (k : length seeds ≡ size.argument_cells) {t : Bool} (h : t ≡ admits Building s.phase) where
      module _ (o : t ≡ true) {f : Bool} (q : f ≡ room_for s.counts.predicates s.counts.positions arity) where
        module _ (y : f ≡ true) where
          pub predicate_work : (r : Refusal) {u : Store} → stopped (told r) u ≡ billing (work 1) s → stopped (told r) (tables u rows seeds) ≡ predicate_call arity (tables s rows seeds)
          unfolding predicate_call
          predicate_work r p = rw (eq-eqb (length rows) size.predicate_cells n, eq-eqb (length seeds) size.argument_cells k, ← h, o, ← q, y) (then_stop _ _ _ (through_stop _ _ _ _ (billing (work 1)) (tables s rows seeds) p))

          module _ {u : Store} (p : going tt u ≡ billing (work 1) s) where
            pub predicate_declare : (r : Refusal) {v : Store} → stopped (told r) v ≡ billing (declared arity) u → stopped (told r) (tables v rows seeds) ≡ predicate_call arity (tables s rows seeds)
            unfolding predicate_call
            predicate_declare r d =
                rw (eq-eqb (length rows) size.predicate_cells n, eq-eqb (length seeds) size.argument_cells k, ← h, o, ← q, y)
                (then_on _ _ _ (through_on _ _ _ _ (billing (work 1)) (tables s rows seeds) p) (then_stop _ _ _ (through_stop _ _ _ _ (billing (declared arity)) (tables u rows seeds) d)))

            pub predicate_id : {v w : Store} {rows₁ rows₂ seeds' : List ℕ} → going tt v ≡ billing (declared arity) u → w ≡ with_predicate arity v →
                rows₁ ≡ set rows (2 * s.counts.predicates) s.counts.positions → rows₂ ≡ set rows₁ (2 * s.counts.predicates + 1) arity →
                seeds' ≡ bottoms seeds s.counts.positions arity → going s.counts.predicates (tables w rows₂ seeds') ≡ predicate_call arity (tables s rows seeds)
            unfolding predicate_call
            predicate_id {v} {w} {rows₁} {rows₂} {seeds'} d e r₁ r₂ g =
                let c : v.counts ≡ s.counts = charged_counts (declared arity) u d ∙ charged_counts (work 1) s p in
                rw (eq-eqb (length rows) size.predicate_cells n, eq-eqb (length seeds) size.argument_cells k, ← h, o, ← q, y)
                (then_on _ _ _ (through_on _ _ _ _ (billing (work 1)) (tables s rows seeds) p) (then_on _ _ _ (through_on _ _ _ _ (billing (declared arity)) (tables u rows seeds) d) (rw (e, r₂, r₁, g, c, add-one (2 * s.counts.predicates)))))
