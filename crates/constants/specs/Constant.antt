-- `Input::constant`, on the header and the lent tables as they stand, with the reader of 01.
use Rattle.std.specs.Prelude.{ℕ, ◌+◌, ◌-◌, Bool, true, cond, ◌&&◌, List, [], leb, ltb, eqb, ℤ, length, get_or}
use Rattle.sizes.specs.Sizes as size
use Rattle.integers.specs.Lists.{inserted}
use Rattle.limits.specs.declared.Limits.{Limits}
use Rattle.limits.specs.declared.Stop.{Stop}
use Rattle.limits.specs.declared.Budget.{Budget}
use Rattle.limits.specs.declared.Refusal.TheVariants.{Closed, Shape, Full}
use Rattle.limits.specs.Refusal.{Told}
use Rattle.limits.specs.Metered.{going, Metered, ◌>>=◌, ◌>>◌, zoom}
use Rattle.limits.specs.Meter.{metered}
use Rattle.limits.specs.Budget.{work, bytes, links}
use Rattle.cells.specs.Cells.{to_cell}
use Rattle.search.specs.Seek.{Place, found, absent}
use Rattle.thresholds.specs.Thresholds.{around}
use Rattle.keys.specs.Key.{Key, number, name, put_cells, put_name, seek_key}
use Rattle.store.specs.declared.Counts.{Counts}
use Rattle.store.specs.declared.Kind.TheVariants.{Feeding}
use Rattle.store.specs.declared.Store.{Store}
use Rattle.store.specs.Store.{with_constants, with_keys}
use Rattle.store.specs.Calls.{unless, admitting, billing, Marks, marks, entering}

-- ---- the reader: 01, "The added reader"

abbrev pub bytes_of : Key → List ℕ
bytes_of (number v) = []
bytes_of (name s) = s

-- 01: "A number is always retained. A name of n bytes [..] is retained exactly if n is at most max_symbol_bytes."
abbrev pub retains : Limits → Key → Bool
retains l (number v) = true
retains l (name s) = leb (length s) l.symbol

-- what classifying charges, 01: "A name of n bytes charges n inspected bytes", a number "enters thresholds v−1, v, v+1 (those that fit)"
abbrev pub classify : Key → Metered Told Marks (Unit {0})
classify (number v) = entering (around v)
classify (name s) = zoom (λ t. t.header) (λ s t. marks s t.table) (billing (bytes (length s)))

-- ---- the tables of keys

pub record KeyTables : Type 0 where
  pub header : Store
  pub names : List ℕ
  pub constants : List ℕ
  pub order : List ℕ

abbrev pub key_tables : Store → List ℕ → List ℕ → List ℕ → KeyTables
key_tables s n c o = record { header = s; names = n; constants = c; order = o }

abbrev pub paying : {A : Type 0} → Metered Stop Budget A → Metered Told KeyTables A
paying m = zoom (λ t. t.header) (λ s t. key_tables s t.names t.constants t.order) (billing m)

-- a key's two cells: 1 and the number's cell, or 2 and the length of the name
abbrev pub kind_cell : Key → ℕ
kind_cell (number v) = 1
kind_cell (name s) = 2

abbrev pub payload_cell : Key → ℕ
payload_cell (number v) = to_cell v
payload_cell (name s) = length s

-- a retained constant: its cells, its bytes, and its place in the key order
abbrev pub add_key : Key → ℕ → Metered Told KeyTables ℕ
add_key k low t =
    let id = t.header.counts.constants in
    going id
    (key_tables (with_keys (t.header.counts.keys + 1) (with_constants (id + 1) t.header)) (put_name t.names id (bytes_of k)) (put_cells t.constants id (kind_cell k) (payload_cell k))
    (inserted t.order low t.header.counts.keys id))

-- one that is not retained: kind 0, and nothing else is kept of it
abbrev pub add_large : Metered Told KeyTables ℕ
add_large t =
    let id = t.header.counts.constants in
    going id (key_tables (with_constants (id + 1) t.header) t.names (put_cells t.constants id 0 0) t.order)

-- a new key: a link, then one charge for the ids that move
unfoldable pub cost : ℕ → Metered Stop Budget (Unit {0})
cost moved = links 1 >> work moved

-- 01: "an equal retained key gives its old id, an unretained key always a new one"
unfoldable pub settle : Key → ℕ → Place → Metered Told KeyTables ℕ
settle k n (found i) = λ t. going (get_or t.order i 0) t
settle k n (absent low) = paying (cost (n - low)) >> add_key k low

unfoldable pub keep_key : Key → Metered Told KeyTables ℕ
keep_key k t = (paying (metered (seek_key t.names t.constants t.order t.header.counts.keys k)) >>= settle k t.header.counts.keys) t

unfoldable pub abandon : Metered Told KeyTables ℕ
abandon = paying (links 1) >> add_large

-- once it is classified, a key is kept or not
unfoldable pub retain_key : Key → Metered Told KeyTables ℕ
retain_key k t = cond (retains t.header.budget.limits k) (keep_key k t) (abandon t)

-- ---- the call

pub record Tables : Type 0 where
  pub header : Store
  pub names : List ℕ
  pub constants : List ℕ
  pub order : List ℕ
  pub thresholds : List ℤ

abbrev pub tables : Store → List ℕ → List ℕ → List ℕ → List ℤ → Tables
tables s n c o t = record { header = s; names = n; constants = c; order = o; thresholds = t }

abbrev pub in_marks : {A : Type 0} → Metered Told Marks A → Metered Told Tables A
in_marks = zoom (λ t. marks t.header t.thresholds) (λ m t. tables m.header t.names t.constants t.order m.table)

abbrev pub in_keys : {A : Type 0} → Metered Told KeyTables A → Metered Told Tables A
in_keys = zoom (λ t. key_tables t.header t.names t.constants t.order) (λ k t. tables k.header k.names k.constants k.order t.thresholds)

abbrev pub in_header : {A : Type 0} → Metered Told Store A → Metered Told Tables A
in_header = zoom (λ t. t.header) (λ s t. tables s t.names t.constants t.order t.thresholds)

-- 01, refusal 1: "a name store or other lent table of another size"
abbrev pub sized : ℕ → ℕ → ℕ → ℕ → Bool
sized names constants order thresholds = eqb names size.name_cells && (eqb constants size.constant_cells && (eqb order size.constants && eqb thresholds size.thresholds))

-- 01, refusal 2: "1,024 constants", "4,096 thresholds (`constant` and `seed_interval` need at most 4,088 standing)"
abbrev pub spacious : Counts → Bool
spacious n = ltb n.constants size.constants && (ltb n.keys size.constants && leb n.thresholds size.thresholds_before_call)

unfoldable pub constant_call : Key → Metered Told Tables ℕ
constant_call k =
    unless (λ t. sized (length t.names) (length t.constants) (length t.order) (length t.thresholds)) Shape
    (unless (λ t. leb (length (bytes_of k)) size.name) Shape
    (admitting Feeding (λ t. t.header)
    (unless (λ t. spacious t.header.counts) Full
    (in_header (billing (work 1)) >> in_marks (classify k) >> in_keys (retain_key k)))))
