-- `Input::seed_value` and `Input::seed_interval`, on the header and the lent tables as they stand.
use Rattle.std.specs.Prelude.{ℕ, ◌+◌, Bool, cond, ◌&&◌, List, leb, ltb, eqb, ℤ, length}
use Rattle.sizes.specs.Sizes as size
use Rattle.std.specs.Int.Signed.{le_z}
use Rattle.limits.specs.declared.Stop.{Stop}
use Rattle.limits.specs.declared.Budget.{Budget}
use Rattle.limits.specs.declared.Refusal.TheVariants.{Closed, Shape, Full, Missing, Descending}
use Rattle.limits.specs.Refusal.{Told}
use Rattle.limits.specs.Metered.{going, Metered, ◌>>=◌, ◌>>◌, zoom}
use Rattle.limits.specs.Meter.{metered, holding}
use Rattle.limits.specs.Budget.{work, released, widened_once}
use Rattle.interval.specs.declared.Interval.TheVariants.{Bounded}
use Rattle.lattice.specs.Value.{Value}
use Rattle.lattice.specs.Constants.{constant_at}
use Rattle.lattice.specs.Lattice.{constant, numeric, join, loses}
use Rattle.rows.specs.Row.{entries_of, value_at, put}
use Rattle.thresholds.specs.Thresholds.{around}
use Rattle.store.specs.declared.Kind.TheVariants.{Feeding}
use Rattle.store.specs.declared.Store.{Store}
use Rattle.store.specs.Calls.{unless, admitting, billing, Marks, marks, entering}
use Rattle.provenance.specs.Provenance.{Records, records, provenance, recordable}

-- ---- a seed

-- after the join: an argument that lost its list is counted, and the old seed and the value are dropped
abbrev pub dropped : Value → Value → Value → Budget → Budget
dropped old v new b = released (entries_of old + entries_of v) (cond (loses old.values new.values) (widened_once b) b)

-- the old seed is joined with a value in hand, which is dropped where the join is stopped
unfoldable pub joined : Value → Value → Metered Stop Budget Value
joined old v b = (metered (holding (entries_of v) (join b.limits.width old v)) >>= (λ new b. going new (dropped old v new b))) b

pub record Rows : Type 0 where
  pub header : Store
  pub seeds : List ℕ

abbrev pub rows : Store → List ℕ → Rows
rows s t = record { header = s; seeds = t }

abbrev pub paying : {A : Type 0} → Metered Stop Budget A → Metered Told Rows A
paying m = zoom (λ t. t.header) (λ s t. rows s t.seeds) (billing m)

-- the seed of an argument
unfoldable pub seed : ℕ → Value → Metered Told Rows (Unit {0})
seed a v t = (paying (joined (value_at t.seeds a) v) >>= (λ new u. going tt (rows u.header (put u.seeds a new)))) t

-- ---- refusals 1 and 2, of both calls

abbrev pub sized : ℕ → ℕ → Bool
sized seeds pairs = eqb seeds size.argument_cells && eqb pairs size.record_cells

-- more rows than the tables have meet 2 as well
abbrev pub spacious : Store → Bool
spacious s = leb s.counts.positions size.positions && recordable s.context s.counts.provenance

-- ---- `seed_value`

pub record Tables : Type 0 where
  pub header : Store
  pub seeds : List ℕ
  pub records : List ℕ

abbrev pub tables : Store → List ℕ → List ℕ → Tables
tables s t r = record { header = s; seeds = t; records = r }

abbrev pub in_header : {A : Type 0} → Metered Told Store A → Metered Told Tables A
in_header = zoom (λ t. t.header) (λ s t. tables s t.seeds t.records)

abbrev pub in_records : {A : Type 0} → Metered Told Records A → Metered Told Tables A
in_records = zoom (λ t. records t.header t.records) (λ r t. tables r.header t.seeds r.table)

abbrev pub in_rows : {A : Type 0} → Metered Told Rows A → Metered Told Tables A
in_rows = zoom (λ t. rows t.header t.seeds) (λ r t. tables r.header r.seeds t.records)

-- the value of a constant, made in a budget
unfoldable pub constant_value : List ℕ → ℕ → Metered Stop Budget Value
constant_value constants k b = metered (constant k (constant_at constants k) b.limits.width) b

-- a constant becomes part of a seed
abbrev pub seed_constant : List ℕ → ℕ → ℕ → Metered Told Rows (Unit {0})
seed_constant constants a k = paying (constant_value constants k) >>= seed a

unfoldable pub seed_value_call : List ℕ → ℕ → ℕ → Metered Told Tables (Unit {0})
seed_value_call constants a k =
    unless (λ t. eqb (length constants) size.constant_cells && sized (length t.seeds) (length t.records)) Shape
    (admitting Feeding (λ t. t.header)
    (unless (λ t. leb t.header.counts.constants size.constants && spacious t.header) Full
    (in_header (billing (work 1)) >>
    unless (λ t. ltb k t.header.counts.constants) Missing
    (in_records (provenance a) >> in_rows (seed_constant constants a k)))))

-- ---- `seed_interval`

-- the seeds beside the thresholds
pub record Ends : Type 0 where
  pub header : Store
  pub seeds : List ℕ
  pub thresholds : List ℤ

abbrev pub ends : Store → List ℕ → List ℤ → Ends
ends s t h = record { header = s; seeds = t; thresholds = h }

-- the thresholds of an interval's ends
abbrev pub marking : ℤ → ℤ → Metered Told Marks (Unit {0})
marking low high = entering (around low) >> entering (around high)

-- an interval's thresholds, then its join
unfoldable pub seed_ends : ℕ → ℤ → ℤ → Metered Told Ends (Unit {0})
seed_ends a low high =
    zoom (λ t. marks t.header t.thresholds) (λ m t. ends m.header t.seeds m.table) (marking low high) >>
    zoom (λ t. rows t.header t.seeds) (λ r t. ends r.header r.seeds t.thresholds) (seed a (numeric (Bounded low high)))

pub record IntervalTables : Type 0 where
  pub header : Store
  pub seeds : List ℕ
  pub records : List ℕ
  pub thresholds : List ℤ

abbrev pub interval_tables : Store → List ℕ → List ℕ → List ℤ → IntervalTables
interval_tables s t r h = record { header = s; seeds = t; records = r; thresholds = h }

abbrev pub in_tables : {A : Type 0} → Metered Told Tables A → Metered Told IntervalTables A
in_tables = zoom (λ t. tables t.header t.seeds t.records) (λ u t. interval_tables u.header u.seeds u.records t.thresholds)

abbrev pub in_ends : {A : Type 0} → Metered Told Ends A → Metered Told IntervalTables A
in_ends = zoom (λ t. ends t.header t.seeds t.thresholds) (λ e t. interval_tables e.header e.seeds t.records e.thresholds)

-- 01: "`seed_interval` charges 1 work, rejects low > high, then records provenance, then thresholds, then joins."
unfoldable pub seed_interval_call : ℕ → ℤ → ℤ → Metered Told IntervalTables (Unit {0})
seed_interval_call a low high =
    unless (λ t. eqb (length t.thresholds) size.thresholds && sized (length t.seeds) (length t.records)) Shape
    (admitting Feeding (λ t. t.header)
    (unless (λ t. leb t.header.counts.thresholds size.thresholds_before_call && spacious t.header) Full
    (in_tables (in_header (billing (work 1))) >>
    unless (λ t. le_z low high) Descending
    (in_tables (in_records (provenance a)) >> in_ends (seed_ends a low high)))))
