-- What the answers of the two calls are, over plain variables: each way out of the tests, then each step behind them.
use Rattle.sizes.specs.Sizes as size
use Prim.Native.Nat.{ℕ, ◌<◌, ◌≤◌}
use native.Mathlib.Omega.{arith}
use mathlib.Core.Path.{◌≡◌, ◌∙◌}
use mathlib.Core.Bool.{true, false}
use mathlib.Core.List.{List}
use borrow.Author.Tests.{leb-true, lt-ltb, le-ltb, le-leb, eq-eqb}
use lib.Dec.{leb, ltb}
use lib.IntN.{ℤ}
use lib.Signed.{lt_z, le_z}
use lib.ListN.{length}
use Rattle.integers.proofs.Tests.{and_left, and_right}
use Rattle.integers.proofs.OrderLaws.{lt_yes, lt_no, yes_le, no_le}
use Rattle.limits.specs.declared.Refusal.TheVariants.{Missing, Descending}
use Rattle.limits.specs.Refusal.{Told, told}
use Rattle.limits.specs.Metered.{Run, going, stopped, Metered, ◌>>◌, mapped, through}
use Rattle.limits.specs.Budget.{work}
use Rattle.limits.proofs.Monad.{then_on, then_stop, through_on, through_stop}
use Rattle.limits.specs.Context.{Context}
use Rattle.std.proofs.Common.{None, Some}
use Rattle.store.specs.declared.Store.{Store}
use Rattle.store.specs.declared.Kind.TheVariants.{Feeding}
use Rattle.store.specs.Store.{admits}
use Rattle.store.specs.Calls.{unless, billing}
use Rattle.store.proofs.CodeLaws.{charged_counts, charged_context}
use Rattle.provenance.specs.Provenance.{Records, records, provenance, recordable, Room}
use Rattle.provenance.proofs.CodeLaws.{provenance_thresholds}
use Rattle.seeds.specs.Seed.{sized, spacious, Tables, tables, in_header, in_records, in_rows, seed_constant, seed_value_call, seed_ends, IntervalTables, interval_tables, in_tables, in_ends, seed_interval_call}

-- ---- room

room_one : (c : Context) (standing : ℕ) → recordable c standing ≡ true → Room 1 c standing
room_one None standing e = tt
room_one (Some c) standing e = omega (arith, leb-true standing size.records_before_call e)

-- what the test of the room gives the record that comes behind the charge
pub room_left : (s : Store) {u : Store} → spacious s ≡ true → going tt u ≡ billing (work 1) s → (u.counts.positions ≤ 256) × Room 1 u.context u.counts.provenance
room_left s {u} y h =
    let f : leb s.counts.positions 256 ≡ true = and_left (leb s.counts.positions 256) (recordable s.context s.counts.provenance) y in
    let g : recordable s.context s.counts.provenance ≡ true = and_right (leb s.counts.positions 256) (recordable s.context s.counts.provenance) y in
    let n : u.counts ≡ s.counts = charged_counts (work 1) s h in
    let c : u.context ≡ s.context = charged_context (work 1) s h in
    rw (n, c) (leb-true s.counts.positions 256 f, room_one s.context s.counts.provenance g)

-- and the thresholds
pub thresholds_left : (a : ℕ) (s : Store) (r : List ℕ) {u v : Store} {r' : List ℕ} → going tt u ≡ billing (work 1) s → going tt (records v r') ≡ provenance a (records u r) →
    v.counts.thresholds ≡ s.counts.thresholds
thresholds_left a s r {u} h w =
    let n : u.counts ≡ s.counts = charged_counts (work 1) s h in
    provenance_thresholds a u r w ∙ rw n

-- ---- the steps of `seed_value`

-- what the call does where the tests admit it
abbrev value_steps : List ℕ → ℕ → ℕ → Metered Told Tables (Unit {0})
value_steps constants a k =
    in_header (billing (work 1)) >>
    unless (λ t. ltb k t.header.counts.constants) Missing
    (in_records (provenance a) >> in_rows (seed_constant constants a k))

module _ (constants : List ℕ) (a k : ℕ) (s : Store) (t r : List ℕ) where
  pub value_open : {x : Run Told Tables (Unit {0})} → length constants ≡ size.constant_cells → sized (length t) (length r) ≡ true → admits Feeding s.phase ≡ true → s.counts.constants ≤ 1024 → spacious s ≡ true →
      x ≡ value_steps constants a k (tables s t r) → x ≡ seed_value_call constants a k (tables s t r)
  unfolding seed_value_call
  value_open n y g l e w = rw (eq-eqb (length constants) size.constant_cells n, y, g, le-leb s.counts.constants 1024 l, e) w

  pub value_unpaid : {x : Told} {u : Store} → stopped x u ≡ billing (work 1) s → stopped x (tables u t r) ≡ value_steps constants a k (tables s t r)
  value_unpaid e = then_stop _ (tables s t r) _ (through_stop (λ t. t.header) (λ t u. tables u t.seeds t.records) (λ t u. tables u t.seeds t.records) (λ e. e) (billing (work 1)) (tables s t r) e)

  module _ {u : Store} (p : going tt u ≡ billing (work 1) s) where
    then_paid : {x : Run Told Tables (Unit {0})} → x ≡ unless (λ t. ltb k t.header.counts.constants) Missing (in_records (provenance a) >> in_rows (seed_constant constants a k)) (tables u t r) →
        x ≡ value_steps constants a k (tables s t r)
    then_paid w = then_on _ (tables s t r) _ (through_on (λ t. t.header) (λ t u. tables u t.seeds t.records) (λ t u. tables u t.seeds t.records) (λ e. e) (billing (work 1)) (tables s t r) p) w

    pub value_missing : u.counts.constants ≤ k → stopped (told Missing) (tables u t r) ≡ value_steps constants a k (tables s t r)
    value_missing l = then_paid (rw (le-ltb k u.counts.constants l))

    module _ (l : k < u.counts.constants) where
      pub value_unrecorded : {x : Told} {v : Store} {r' : List ℕ} → stopped x (records v r') ≡ provenance a (records u r) → stopped x (tables v t r') ≡ value_steps constants a k (tables s t r)
      value_unrecorded w =
          then_paid
          (rw (lt-ltb k u.counts.constants l)
          (then_stop _ (tables u t r) _ (through_stop (λ t. records t.header t.records) (λ t r. tables r.header t.seeds r.table) (λ t r. tables r.header t.seeds r.table) (λ e. e) (provenance a) (tables u t r) w)))

      pub value_seeded : {v : Store} {r' : List ℕ} {x : Run Told Tables (Unit {0})} → going tt (records v r') ≡ provenance a (records u r) → x ≡ in_rows (seed_constant constants a k) (tables v t r') →
          x ≡ value_steps constants a k (tables s t r)
      value_seeded w i =
          then_paid
          (rw (lt-ltb k u.counts.constants l)
          (then_on _ (tables u t r) _ (through_on (λ t. records t.header t.records) (λ t r. tables r.header t.seeds r.table) (λ t r. tables r.header t.seeds r.table) (λ e. e) (provenance a) (tables u t r) w) i))

-- ---- the steps of `seed_interval`

module _ (s : Store) (t r : List ℕ) (h : List ℤ) where
  wide_header_on : (m : Metered Told Store (Unit {0})) {u : Store} → going tt u ≡ m s → going tt (interval_tables u t r h) ≡ in_tables (in_header m) (interval_tables s t r h)
  unfolding through mapped
  wide_header_on m e = rw (← e)

  wide_header_stop : (m : Metered Told Store (Unit {0})) {x : Told} {u : Store} → stopped x u ≡ m s → stopped x (interval_tables u t r h) ≡ in_tables (in_header m) (interval_tables s t r h)
  unfolding through mapped
  wide_header_stop m e = rw (← e)

  wide_records_on : (m : Metered Told Records (Unit {0})) {u : Store} {r' : List ℕ} → going tt (records u r') ≡ m (records s r) →
      going tt (interval_tables u t r' h) ≡ in_tables (in_records m) (interval_tables s t r h)
  unfolding through mapped
  wide_records_on m e = rw (← e)

  wide_records_stop : (m : Metered Told Records (Unit {0})) {x : Told} {u : Store} {r' : List ℕ} → stopped x (records u r') ≡ m (records s r) →
      stopped x (interval_tables u t r' h) ≡ in_tables (in_records m) (interval_tables s t r h)
  unfolding through mapped
  wide_records_stop m e = rw (← e)

-- what the call does where the tests admit it
abbrev interval_steps : ℕ → ℤ → ℤ → Metered Told IntervalTables (Unit {0})
interval_steps a low high =
    in_tables (in_header (billing (work 1))) >>
    unless (λ t. le_z low high) Descending
    (in_tables (in_records (provenance a)) >> in_ends (seed_ends a low high))

module _ (a : ℕ) (low high : ℤ) (s : Store) (t r : List ℕ) (h : List ℤ) where
  pub interval_open : {x : Run Told IntervalTables (Unit {0})} → length h ≡ size.thresholds → sized (length t) (length r) ≡ true → admits Feeding s.phase ≡ true → s.counts.thresholds ≤ size.thresholds_before_call → spacious s ≡ true →
      x ≡ interval_steps a low high (interval_tables s t r h) → x ≡ seed_interval_call a low high (interval_tables s t r h)
  unfolding seed_interval_call
  interval_open n y g l e w = rw (eq-eqb (length h) size.thresholds n, y, g, le-leb s.counts.thresholds size.thresholds_before_call l, e) w

  pub interval_unpaid : {x : Told} {u : Store} → stopped x u ≡ billing (work 1) s → stopped x (interval_tables u t r h) ≡ interval_steps a low high (interval_tables s t r h)
  interval_unpaid e = then_stop _ (interval_tables s t r h) _ (wide_header_stop s t r h (billing (work 1)) e)

  module _ {u : Store} (p : going tt u ≡ billing (work 1) s) where
    pub interval_descending : lt_z high low ≡ true → stopped (told Descending) (interval_tables u t r h) ≡ interval_steps a low high (interval_tables s t r h)
    interval_descending l = then_on _ (interval_tables s t r h) _ (wide_header_on s t r h (billing (work 1)) p) (rw (no_le low high (lt_yes high low l)))

    module _ (l : lt_z high low ≡ false) where
      pub interval_unrecorded : {x : Told} {v : Store} {r' : List ℕ} → stopped x (records v r') ≡ provenance a (records u r) → stopped x (interval_tables v t r' h) ≡ interval_steps a low high (interval_tables s t r h)
      interval_unrecorded w =
          then_on _ (interval_tables s t r h) _ (wide_header_on s t r h (billing (work 1)) p)
          (rw (yes_le low high (lt_no high low l)) (then_stop _ (interval_tables u t r h) _ (wide_records_stop u t r h (provenance a) w)))

      pub interval_seeded : {v : Store} {r' : List ℕ} {x : Run Told IntervalTables (Unit {0})} → going tt (records v r') ≡ provenance a (records u r) → x ≡ in_ends (seed_ends a low high) (interval_tables v t r' h) →
          x ≡ interval_steps a low high (interval_tables s t r h)
      interval_seeded w i =
          then_on _ (interval_tables s t r h) _ (wide_header_on s t r h (billing (work 1)) p)
          (rw (yes_le low high (lt_no high low l)) (then_on _ (interval_tables u t r h) _ (wide_records_on u t r h (provenance a) w) i))
