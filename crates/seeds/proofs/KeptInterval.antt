-- What `seed_interval` leaves: as `seed_value`, and thresholds that rise still, with both ends among them where it is accepted.
use Rattle.sizes.specs.Sizes as size
use Prim.Native.Nat.{ℕ, ◌+◌, ◌*◌, ◌≤◌, ◌<◌}
use native.Mathlib.Omega.{arith}
use mathlib.Core.Path.{◌≡◌, refl, ap, ◌∙◌}
use mathlib.Core.Logic.{◌⊎◌, inl, inr}
use mathlib.Core.Bool.{true, ◌&&◌}
use mathlib.Core.List.{List}
use borrow.Author.Tests.{leb-true, eqb-true}
use lib.Dec.{leb, eqb}
use lib.IntN.{ℤ}
use lib.Signed.{le_z}
use lib.ListN.{length}
use Rattle.integers.specs.Order.{Le, Number}
use Rattle.integers.proofs.Tests.{and_left, and_right}
use Rattle.integers.proofs.OrderLaws.{le_yes}
use Rattle.limits.specs.declared.Stop.{Stop}
use Rattle.limits.specs.declared.Budget.{Budget}
use Rattle.limits.specs.declared.Refusal.TheVariants.{Limit, Descending}
use Rattle.limits.specs.Refusal.{Told, told}
use Rattle.limits.specs.Metered.{Run, going, stopped, Metered, ◌>>◌}
use Rattle.limits.specs.Budget.{work}
use Rattle.limits.proofs.ChargeLaws.{late}
use Rattle.limits.proofs.Ends.{Ends, completes, stops, ends_as, ends_both, ends_test, ends_then, ends_through}
use Rattle.interval.specs.declared.Interval.TheVariants.{Bounded}
use Rattle.lattice.specs.Lattice.{numeric}
use Rattle.lattice.proofs.Joins.{joined_value}
use Rattle.sizes.specs.Sizes.{value_row}
use Rattle.rows.specs.Row.{value_at}
use Rattle.std.proofs.Common.{None}
use Rattle.store.specs.declared.Store.{Store}
use Rattle.store.specs.Store.{with_budget}
use Rattle.store.specs.Calls.{billing, Marks, marks, entering}
use Rattle.store.proofs.Opened.{open?}
use Rattle.store.proofs.Frame.{Spent, spends_work, Marking, entering_left, ending_ends}
use Rattle.thresholds.specs.Thresholds.{Entry, entry, around}
use Rattle.thresholds.proofs.Sorted.{Rises, Has, Kept, Near, Surrounded, around_keeps}
use Rattle.provenance.specs.Provenance.{records, provenance, recordable}
use Rattle.seeds.specs.Seed.{rows, seed, sized, spacious, tables, in_header, in_records, ends, seed_ends, IntervalTables, interval_tables, in_tables, in_ends, seed_interval_call}
use Rattle.seeds.proofs.Seeded.{regular_numeric}
use Rattle.seeds.proofs.Beside.{Standing, Beside, beside_more, Quiet, quiet_more, quiet_wider, wider, same_count, same_marks, standing_quiet, same_bill, quiet_bill, spent_bill, charged_ends}
use Rattle.seeds.proofs.Kept.{seed_ends_lem, Noted, noted_fits, Notes, Unnoted, provenance_ends}

-- ---- thresholds

-- those of a store
abbrev pub marks_of : Store → List ℤ → Entry
marks_of s table = entry s.budget s.counts.thresholds table

-- they rise still, those that stood stand, and none is new that New does not name
pub record Marked (New : ℤ → Type 0) (s : Store) (table : List ℤ) (s' : Store) (table' : List ℤ) : Type 0 where
  pub rises : Rises s'.counts.thresholds table'
  pub old : (z : ℤ) → Has (marks_of s table) z → Has (marks_of s' table') z
  pub fresh : (z : ℤ) → Has (marks_of s' table') z → Has (marks_of s table) z ⊎ New z
  pub size : length table' ≡ length table

-- next to one of two numbers
abbrev pub NearEither : ℤ → ℤ → ℤ → Type 0
NearEither low high z = Near low z ⊎ Near high z

marked_none : {New : ℤ → Type 0} (s : Store) {s' : Store} (table : List ℤ) → s'.counts.thresholds ≡ s.counts.thresholds → Rises s.counts.thresholds table → Marked New s table s' table
marked_none s table e r = record { rises = rw e r; old = λ z h. rw e h; fresh = λ z h. inl (rw e at h); size = refl }

-- what is done behind it leaves the count alone
marked_on : {New : ℤ → Type 0} {s s' s'' : Store} {table table' : List ℤ} → s''.counts.thresholds ≡ s'.counts.thresholds → Marked New s table s' table' → Marked New s table s'' table'
marked_on e h = record { rises = rw e h.rises; old = λ z k. rw e (h.old z k); fresh = λ z k. h.fresh z (rw e at k); size = h.size }

-- a step that enters thresholds and leaves the seeds alone
record Entered (New : ℤ → Type 0) (n : ℕ) (s : Store) (table : List ℤ) (s' : Store) (table' : List ℤ) : Type 0 where
  pub quiet : Quiet 0 n s s'
  pub marked : Marked New s table s' table'

any_end : {E S A : Type 0} (x : Run E S A) → Ends (λ _ _. Unit {0}) (λ _ _. Unit {0}) x
any_end (going a s) = completes tt
any_end (stopped e s) = stops tt

-- refused with a number of its own, as a charge is
entering_late : (m : Metered Stop Entry (Unit {0})) (t : Marks) → Ends (λ _ _. Unit {0}) (λ x _. 3 ≤ x.number) (entering m t)
entering_late m t =
    ends_through (λ u. u) (λ _ u. u) (λ _ u. u) (λ e. told (Limit e)) _ t (any_end _) (λ _ u p. tt) (λ e u p. late e.resource)

entered : (v : ℤ) (t u : Marks) → Marking t u → Kept (Near v) 3 (marks_of t.header t.table) (marks_of u.header u.table) → Entered (Near v) 3 t.header t.table u.header u.table
entered v t u m k =
    let i = m.is in
    record {
      quiet = record {
        beside = record {
          predicates = ap (λ (x : Store). x.counts.predicates) i;
          positions = ap (λ (x : Store). x.counts.positions) i;
          constants = ap (λ (x : Store). x.counts.constants) i;
          keys = ap (λ (x : Store). x.counts.keys) i;
          expressions = ap (λ (x : Store). x.counts.expressions) i;
          rules = ap (λ (x : Store). x.counts.rules) i;
          fewest_records = omega (arith, ap (λ (x : Store). x.counts.provenance) i);
          most_records = omega (arith, ap (λ (x : Store). x.counts.provenance) i);
          fewest_marks = k.fewest;
          most_marks = k.most;
          context = ap (λ (x : Store). x.context) i;
          phase = ap (λ (x : Store). x.phase) i;
          limits = ap (λ (x : Store). x.budget.limits) i ∙ m.spent.limits;
          charged_predicates = ap (λ (x : Store). x.budget.statistics.predicates) i ∙ m.spent.predicates;
          charged_positions = ap (λ (x : Store). x.budget.statistics.positions) i ∙ m.spent.positions;
          charged_rounds = ap (λ (x : Store). x.budget.statistics.rounds) i ∙ m.spent.rounds;
        };
        entries = ap (λ (x : Store). x.budget.statistics.entries) i ∙ m.spent.entries;
        widened = ap (λ (x : Store). x.budget.statistics.widened) i ∙ m.spent.widened;
      };
      marked = record { rises = k.rises; old = k.old; fresh = k.fresh; size = k.size };
    }

around_ends : (v : ℤ) (t : Marks) → Rises t.header.counts.thresholds t.table → t.header.counts.thresholds + 3 ≤ length t.table →
    Ends (λ _ u. Entered (Near v) 3 t.header t.table u.header u.table × Surrounded v (marks_of u.header u.table))
    (λ x u. Entered (Near v) 3 t.header t.table u.header u.table × (3 ≤ x.number)) (entering (around v) t)
around_ends v t r g =
    let s = marks_of t.header t.table in
    ends_as
    (ends_both (entering_late (around v) t)
    (entering_left {P = λ e. Kept (Near v) 3 s e × Surrounded v e} {Q = Kept (Near v) 3 s} (around v) t
    (ends_as (ending_ends (around v s) (around_keeps v s r g)) (λ _ e p. (p, p.0.charging)) (λ _ e p. (p, p.charging)))))
    (λ _ u p. (entered v t u p.1.0 p.1.1.0, p.1.1.1))
    (λ x u p. (entered v t u p.1.0 p.1.1, p.0))

either_new : {P Q R : Type 0} → P ⊎ Q → (P → R) → (Q → R) → R
either_new (inl p) f g = f p
either_new (inr q) f g = g q

module _ (low high : ℤ) where
  entered_first : {s s' : Store} {table table' : List ℤ} → Entered (Near low) 3 s table s' table' → Entered (NearEither low high) 6 s table s' table'
  entered_first h = record {
    quiet = quiet_wider {a = 0} {b = 3} (omega arith) (omega arith) h.quiet;
    marked = record {
      rises = h.marked.rises;
      old = h.marked.old;
      fresh = λ z m. either_new (h.marked.fresh z m) (λ p. inl p) (λ q. inr (inl q));
      size = h.marked.size;
    };
  }

  entered_both : {s s₁ s₂ : Store} {table table₁ table₂ : List ℤ} → Entered (Near low) 3 s table s₁ table₁ → Entered (Near high) 3 s₁ table₁ s₂ table₂ → Entered (NearEither low high) 6 s table s₂ table₂
  entered_both h k = record {
    quiet = quiet_more h.quiet k.quiet;
    marked = record {
      rises = k.marked.rises;
      old = λ z m. k.marked.old z (h.marked.old z m);
      fresh = λ z m. either_new (k.marked.fresh z m) (λ p. either_new (h.marked.fresh z p) (λ q. inl q) (λ q. inr (inl q))) (λ q. inr (inr q));
      size = k.marked.size ∙ h.marked.size;
    };
  }

  -- the thresholds of both ends
  ends_marked : (s : Store) (table : List ℤ) → Rises s.counts.thresholds table → s.counts.thresholds + 6 ≤ length table →
      Ends (λ _ u. Entered (NearEither low high) 6 s table u.header u.table × Surrounded low (marks_of u.header u.table) × Surrounded high (marks_of u.header u.table))
      (λ x u. Entered (NearEither low high) 6 s table u.header u.table × (3 ≤ x.number)) ((entering (around low) >> entering (around high)) (marks s table))
  ends_marked s table r g =
      ends_then _ _ (marks s table) (around_ends low (marks s table) r (omega arith))
      (λ _ u p.
      ends_as (around_ends high u p.0.marked.rises (omega (arith, p.0.quiet.beside.most_marks, p.0.marked.size)))
      (λ _ w q.
      let up = q.0.marked.old in
      (entered_both p.0 q.0, (up low p.1.0, (λ n. up _ (p.1.1 n)), (λ n. up _ (p.1.2 n))), q.1))
      (λ x w q. (entered_both p.0 q.0, q.1)))
      (λ x u p. (entered_first p.0, p.1))

-- ---- `seed_interval`

-- accepted
pub record IntervalTaken (constants : List ℕ) (a : ℕ) (low high : ℤ) (t t' : IntervalTables) : Type 0 where
  -- the seeds are regular, their entries are the live ones, and no more are widened than have no list
  pub standing : Standing constants t'.header t'.seeds
  -- the header, but for the budget, for one provenance record where a context is in force, and for up to six thresholds
  pub beside : Beside 1 6 t.header t'.header
  pub noted : Noted a t.header.context t.header.counts.provenance t.records t'.header.counts.provenance t'.records
  pub fits : t.header.counts.provenance ≤ 1024 → t'.header.counts.provenance ≤ 1024
  -- both ends stand among the thresholds, with their neighbours
  pub marked : Marked (NearEither low high) t.header t.thresholds t'.header t'.thresholds
  pub marks_fit : t.header.counts.thresholds ≤ size.thresholds_before_run → t'.header.counts.thresholds ≤ size.thresholds_before_run
  pub low_stands : Surrounded low (marks_of t'.header t'.thresholds)
  pub high_stands : Surrounded high (marks_of t'.header t'.thresholds)
  -- the ends ascend and the argument exists; its seed is joined with the interval, and the others are as they were
  pub ascends : Le low high
  pub inside : a < t.header.counts.positions
  pub joined : value_at t'.seeds a ≡ joined_value t.header.budget.limits.width (value_at t.seeds a) (numeric (Bounded low high))
  pub others : (i : ℕ) → (i ≡ a → ⊥) → value_at t'.seeds i ≡ value_at t.seeds i
  pub size : length t'.seeds ≡ length t.seeds

-- refused
pub record IntervalRefused (a : ℕ) (low high : ℤ) (x : Told) (t t' : IntervalTables) : Type 0 where
  -- the seeds, their live entries and the count of widened arguments
  pub same : t'.seeds ≡ t.seeds
  pub quiet : Quiet 1 6 t.header t'.header
  -- the provenance record and the thresholds that come before the seed stay
  pub noted : Noted a None t.header.counts.provenance t.records t'.header.counts.provenance t'.records ⊎ Noted a t.header.context t.header.counts.provenance t.records t'.header.counts.provenance t'.records
  pub fits : t.header.counts.provenance ≤ 1024 → t'.header.counts.provenance ≤ 1024
  pub marked : Marked (NearEither low high) t.header t.thresholds t'.header t'.thresholds
  pub marks_fit : t.header.counts.thresholds ≤ size.thresholds_before_run → t'.header.counts.thresholds ≤ size.thresholds_before_run
  -- a store that is closed or has no room, and tables of another size, are left whole
  pub whole : x.number ≤ 2 → t' ≡ t

module _ (constants : List ℕ) (a : ℕ) (low high : ℤ) (t : IntervalTables) (stands : Standing constants t.header t.seeds) (rises : Rises t.header.counts.thresholds t.thresholds) (low_number : Number low) (high_number : Number high) where
  -- nothing is entered yet
  unmarked : {n : ℕ} (s : Store) → Beside n 0 t.header s → Marked (NearEither low high) t.header t.thresholds s t.thresholds
  unmarked s h = marked_none t.header t.thresholds (same_marks h) rises

  six : {n : ℕ} {s : Store} → Quiet n 0 t.header s → Quiet n 6 t.header s
  six {n} h = quiet_wider {a = n} {b = 0} (omega arith) (omega arith) h

  early_interval : (x : Told) → Ends {A = Unit {0}} (λ _ u. IntervalTaken constants a low high t u) (λ y u. IntervalRefused a low high y t u) (stopped x t)
  early_interval x =
      let q = quiet_bill t.header (same_bill t.header.budget) in
      stops record { same = refl; quiet = six (wider q); noted = inl (refl, refl); fits = λ l. l; marked = unmarked t.header q.beside; marks_fit = λ l. l; whole = λ _. refl }

  -- only work was charged
  late_interval : (x : Told) (b : Budget) → Spent t.header.budget b → 3 ≤ x.number → IntervalRefused a low high x t (interval_tables (with_budget b t.header) t.seeds t.records t.thresholds)
  late_interval x b paid l =
      let q = quiet_bill t.header (spent_bill paid) in
      record { same = refl; quiet = six (wider q); noted = inl (refl, refl); fits = λ l. l; marked = unmarked (with_budget b t.header) q.beside; marks_fit = λ l. l; whole = λ m. absurd (omega arith) }

  module _ (b : Budget) (paid : Spent t.header.budget b) (ascending : Le low high) (cells : t.header.counts.thresholds + 6 ≤ length t.thresholds) (space : recordable t.header.context t.header.counts.provenance ≡ true)
      (few : t.header.counts.thresholds ≤ size.thresholds_before_call) (room : value_row * t.header.counts.positions ≤ length t.seeds) where
    abbrev charged_once : Store
    charged_once = with_budget b t.header

    -- the join behind the thresholds
    interval_joins : (r : List ℕ) (s : Store) → Quiet 1 0 t.header s → a < t.header.counts.positions → Noted a t.header.context t.header.counts.provenance t.records s.counts.provenance r →
        Ends (λ _ w. IntervalTaken constants a low high t (interval_tables w.header w.seeds r w.thresholds)) (λ x w. IntervalRefused a low high x t (interval_tables w.header w.seeds r w.thresholds))
        (seed_ends a low high (ends s t.seeds t.thresholds))
    unfolding seed_ends
    interval_joins r s q i n =
        let e : s.counts.thresholds ≡ t.header.counts.thresholds = same_marks q.beside in
        let fit = noted_fits a t.header.context t.header.counts.provenance s.counts.provenance t.records r n space in
        ends_then _ _ (ends s t.seeds t.thresholds)
        (ends_through (λ w. marks w.header w.thresholds) (λ w m. ends m.header w.seeds m.table) (λ w m. ends m.header w.seeds m.table) (λ y. y)
        {R = λ _ w. (Entered (NearEither low high) 6 s t.thresholds w.header w.thresholds × Surrounded low (marks_of w.header w.thresholds) × Surrounded high (marks_of w.header w.thresholds)) × (w.seeds ≡ t.seeds)}
        {U = λ x w. IntervalRefused a low high x t (interval_tables w.header w.seeds r w.thresholds)}
        (entering (around low) >> entering (around high)) (ends s t.seeds t.thresholds)
        (ends_marked low high s t.thresholds (rw e rises) (rw e cells))
        (λ _ m p. (p, refl))
        (λ x m p. record {
          same = refl;
          quiet = quiet_more q p.0.quiet;
          noted = inr (rw (same_count p.0.quiet.beside) n);
          fits = λ l. rw (same_count p.0.quiet.beside) (fit l);
          marked = over m p.0.marked;
          marks_fit = λ l. omega (arith, p.0.quiet.beside.most_marks);
          whole = λ l. absurd (omega (arith, p.1));
        }))
        (λ _ w p.
        let h : Quiet 1 6 t.header w.header = quiet_more q p.0.0.quiet in
        let f : w.seeds ≡ t.seeds = p.1 in
        let c = h.beside.positions in
        ends_through (λ u. rows u.header u.seeds) (λ u j. ends j.header j.seeds u.thresholds) (λ u j. ends j.header j.seeds u.thresholds) (λ y. y)
        (seed a (numeric (Bounded low high))) w
        (seed_ends_lem constants a w.header w.seeds (rw f (standing_quiet h stands)) (rw c i) (rw (c, f) room) (numeric (Bounded low high))
        (regular_numeric w.header.budget.limits.width w.header.counts.constants constants low high low_number high_number ascending) w.header.budget
        (record { kin = (same_bill w.header.budget).kin; entries = omega arith; widened = refl }))
        (λ _ u j.
        let d : u.header.counts.thresholds ≡ w.header.counts.thresholds = same_marks j.beside in
        record {
          standing = j.standing;
          beside = beside_more h.beside j.beside;
          noted = rw (same_count j.beside, same_count p.0.0.quiet.beside) n;
          fits = λ l. rw (same_count j.beside, same_count p.0.0.quiet.beside) (fit l);
          marked = marked_on d (over (marks w.header w.thresholds) p.0.0.marked);
          marks_fit = λ l. omega arith;
          low_stands = rw d p.0.1;
          high_stands = rw d p.0.2;
          ascends = ascending;
          inside = i;
          joined = rw (f, h.beside.limits) at j.joined;
          others = λ k d. rw f at (j.others k d);
          size = j.size ∙ ap length f;
        })
        (λ x u j. record {
          same = j.same ∙ f;
          quiet = quiet_more h j.quiet;
          noted = inr (rw (same_count j.quiet.beside, same_count p.0.0.quiet.beside) n);
          fits = λ l. rw (same_count j.quiet.beside, same_count p.0.0.quiet.beside) (fit l);
          marks_fit = λ l. omega (arith, h.beside.most_marks, same_marks j.quiet.beside);
          marked = marked_on (same_marks j.quiet.beside) (over (marks w.header w.thresholds) p.0.0.marked);
          whole = λ l. absurd (omega (arith, j.late));
        }))
        (λ x w p. p)
      where
        over : (m : Marks) → Marked (NearEither low high) s t.thresholds m.header m.table → Marked (NearEither low high) t.header t.thresholds m.header m.table
        over m h =
            let e : s.counts.thresholds ≡ t.header.counts.thresholds = same_marks q.beside in
            record { rises = h.rises; old = λ z k. h.old z (rw e k); fresh = λ z k. either_new (h.fresh z k) (λ p. inl (rw e at p)) (λ p. inr p); size = h.size }

    interval_notes : Ends (λ _ w. IntervalTaken constants a low high t w) (λ x w. IntervalRefused a low high x t w)
        ((in_tables (in_records (provenance a)) >> in_ends (seed_ends a low high)) (interval_tables charged_once t.seeds t.records t.thresholds))
    interval_notes =
        ends_then _ _ (interval_tables charged_once t.seeds t.records t.thresholds)
        (ends_through (λ w. tables w.header w.seeds w.records) (λ w u. interval_tables u.header u.seeds u.records w.thresholds) (λ w u. interval_tables u.header u.seeds u.records w.thresholds) (λ y. y)
        {R = λ _ w. Notes a charged_once t.records w.header w.records × (w.seeds ≡ t.seeds) × (w.thresholds ≡ t.thresholds)}
        {U = λ x w. IntervalRefused a low high x t w}
        (in_records (provenance a)) (interval_tables charged_once t.seeds t.records t.thresholds)
        (ends_through (λ w. records w.header w.records) (λ w r. tables r.header w.seeds r.table) (λ w r. tables r.header w.seeds r.table) (λ y. y)
        {R = λ _ u. Notes a charged_once t.records u.header u.records × (u.seeds ≡ t.seeds)}
        {U = λ x u. Unnoted x charged_once t.records u.header u.records × (u.seeds ≡ t.seeds)}
        (provenance a) (tables charged_once t.seeds t.records)
        (provenance_ends a charged_once t.records)
        (λ _ r h. (h, refl))
        (λ x r h. (h, refl)))
        (λ _ u h. (h.0, h.1, refl))
        (λ x u h.
        let q = quiet_more (quiet_bill t.header (spent_bill paid)) h.0.quiet in
        record {
          same = h.1;
          quiet = six (wider q);
          noted = inl (h.0.count, h.0.same);
          fits = λ l. rw h.0.count l;
          marks_fit = λ l. rw (same_marks q.beside) l;
          marked = unmarked u.header q.beside;
          whole = λ l. absurd (omega (arith, h.0.late));
        }))
        (λ _ w h.
        let q : Quiet 1 0 t.header w.header = quiet_more (quiet_bill t.header (spent_bill paid)) h.0.quiet in
        ends_through (λ u. ends u.header u.seeds u.thresholds) (λ u e. interval_tables e.header e.seeds u.records e.thresholds) (λ u e. interval_tables e.header e.seeds u.records e.thresholds) (λ y. y)
        (seed_ends a low high) w
        (rw (h.1, h.2) (interval_joins w.records w.header q h.0.inside h.0.noted))
        (λ _ e p. p)
        (λ x e p. p))
        (λ x w h. h)

  pub seed_interval_kept : Ends (λ _ u. IntervalTaken constants a low high t u) (λ x u. IntervalRefused a low high x t u) (seed_interval_call a low high t)
  unfolding seed_interval_call
  seed_interval_kept =
      ends_test (eqb (length t.thresholds) size.thresholds && sized (length t.seeds) (length t.records))
      (λ e.
      let y : length t.thresholds ≡ size.thresholds = eqb-true (length t.thresholds) size.thresholds (and_left _ (sized (length t.seeds) (length t.records)) e) in
      let z : length t.seeds ≡ size.argument_cells = eqb-true (length t.seeds) size.argument_cells (and_left _ (eqb (length t.records) size.record_cells) (and_right (eqb (length t.thresholds) size.thresholds) _ e)) in
      ends_test (open? t.header)
      (λ _.
      ends_test (leb t.header.counts.thresholds size.thresholds_before_call && spacious t.header)
      (λ f.
      let c : t.header.counts.thresholds ≤ size.thresholds_before_call = leb-true t.header.counts.thresholds size.thresholds_before_call (and_left _ (spacious t.header) f) in
      let o : spacious t.header ≡ true = and_right (leb t.header.counts.thresholds size.thresholds_before_call) _ f in
      let p : t.header.counts.positions ≤ 256 = leb-true t.header.counts.positions 256 (and_left _ (recordable t.header.context t.header.counts.provenance) o) in
      ends_then _ _ t
      (ends_through (λ w. tables w.header w.seeds w.records) (λ w u. interval_tables u.header u.seeds u.records w.thresholds) (λ w u. interval_tables u.header u.seeds u.records w.thresholds) (λ y. y)
      {R = λ _ u. (b : Budget) × Spent t.header.budget b × (u ≡ interval_tables (with_budget b t.header) t.seeds t.records t.thresholds)}
      {U = λ x u. IntervalRefused a low high x t u}
      (in_header (billing (work 1))) t
      (ends_through (λ w. w.header) (λ w s. tables s w.seeds w.records) (λ w s. tables s w.seeds w.records) (λ y. y)
      {R = λ _ u. (b : Budget) × Spent t.header.budget b × (u ≡ tables (with_budget b t.header) t.seeds t.records)}
      {U = λ x u. (3 ≤ x.number) × (b : Budget) × Spent t.header.budget b × (u ≡ tables (with_budget b t.header) t.seeds t.records)}
      (billing (work 1)) (tables t.header t.seeds t.records)
      (charged_ends (work 1) t.header ((spends_work 1).at t.header.budget))
      (λ _ s q. (q.0, q.1, rw q.2))
      (λ x s q. (q.0, q.2, q.3, rw q.4)))
      (λ _ u q. (q.0, q.1, rw q.2))
      (λ x u q. rw q.3 (late_interval x q.1 q.2 q.0)))
      (λ _ u q.
      rw q.2
      (ends_test (le_z low high)
      (λ g. interval_notes q.0 q.1 (le_yes low high g) (omega arith) (and_right (leb t.header.counts.positions 256) _ o) c (omega arith))
      (λ _. stops (late_interval (told Descending) q.0 q.1 (omega arith)))))
      (λ x u q. q))
      (λ _. early_interval _))
      (λ _. early_interval _))
      (λ _. early_interval _)
