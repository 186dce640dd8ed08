-- The calls of a store, on the header and the lent tables as they stand: an answer or a refusal, and the header and tables afterwards.
use Rattle.std.specs.Prelude.{ℕ, zero, suc, ◌+◌, ◌*◌, Bool, cond, ◌&&◌, List, [], ◌∷◌, leb, ltb, eqb, ℤ, length, get_or}
use Rattle.sizes.specs.Sizes as size
use Rattle.std.proofs.lemmas.List.Edits.{sets}
use Rattle.limits.specs.declared.Stop.{Stop}
use Rattle.limits.specs.declared.Budget.{Budget}
use Rattle.limits.specs.declared.Refusal.{Refusal}
use Rattle.limits.specs.declared.Refusal.TheVariants.{Closed, Shape, Full, Limit, Missing}
use Rattle.limits.specs.Refusal.{Told, told}
use Rattle.limits.specs.Metered.{Metered, going, stopped, pure, ◌>>◌, whole, zoom, stopping}
use Rattle.limits.specs.Budget.{work, predicates, positions}
use Rattle.thresholds.specs.Thresholds.{Entry, entry}
use Rattle.lattice.specs.Lattice.{bottom}
use Rattle.rows.specs.Row.{put}
use Rattle.std.specs.Prelude.{Some}
use Rattle.store.specs.declared.Kind.{Kind}
use Rattle.store.specs.declared.Kind.TheVariants.{Building}
use Rattle.store.specs.declared.Store.{Store}
use Rattle.store.specs.Store.{admits, with_budget, with_context, with_predicate, with_thresholds}

-- what is refused unless a test holds
abbrev pub unless : {S A : Type 0} → (S → Bool) → Refusal → Metered Told S A → Metered Told S A
unless p r m = λ s. cond (p s) (m s) (stopped (told r) s)

-- a call of a kind, in a store that admits it, else 1
abbrev pub admitting : {S A : Type 0} → Kind → (S → Store) → Metered Told S A → Metered Told S A
admitting kind header = unless (λ s. admits kind (header s).phase) Closed

-- a charge in a call: the header takes the new counts, and a stop is told as the call's refusal
abbrev pub billing : {A : Type 0} → Metered Stop Budget A → Metered Told Store A
billing m = stopping (λ e. told (Limit e)) (zoom (λ s. s.budget) with_budget m)

-- ---- thresholds, which several calls enter numbers into

pub record Marks : Type 0 where
  pub header : Store
  pub table : List ℤ

abbrev pub marks : Store → List ℤ → Marks
marks s t = record { header = s; table = t }

abbrev pub entering : {A : Type 0} → Metered Stop Entry A → Metered Told Marks A
entering m =
    stopping (λ e. told (Limit e))
    (zoom (λ t. entry t.header.budget t.header.counts.thresholds t.table) (λ e t. marks (with_thresholds e.count (with_budget e.budget t.header)) e.table) m)

-- ---- calls without tables

unfoldable pub context_call : ℕ → Metered Told Store (Unit {0})
context_call c = admitting Building (λ s. s) (λ s. going tt (with_context (Some c) s))

unfoldable pub work_call : ℕ → Metered Told Store (Unit {0})
work_call n = admitting Building (λ s. s) (billing (work n))

-- a row of the predicates' table: the first argument and the arity
abbrev pub first_argument : List ℕ → ℕ → ℕ
first_argument rows p = get_or rows (size.predicate_row * p) 0

abbrev pub arity_of : List ℕ → ℕ → ℕ
arity_of rows p = get_or rows (size.predicate_row * p + 1) 0

-- `Input::argument`: it charges nothing
unfoldable pub argument_call : ℕ → ℕ → List ℕ → Metered Told Store ℕ
argument_call p i rows =
    unless (λ s. eqb (length rows) size.predicate_cells) Shape
    (admitting Building (λ s. s)
    (unless (λ s. leb s.counts.predicates size.predicates) Full
    (unless (λ s. ltb p s.counts.predicates) Missing
    (unless (λ s. ltb i (arity_of rows p)) Missing
    (pure (first_argument rows p + i))))))

-- ---- `Input::predicate`

-- what a predicate charges beside its first unit of work: nothing is kept unless all of it is
unfoldable pub declared : ℕ → Metered Stop Budget (Unit {0})
declared arity = whole (predicates 1 >> positions arity >> work arity)

-- rows of seeds to which nothing is seeded yet
unfoldable pub bottoms : List ℕ → ℕ → ℕ → List ℕ
bottoms seeds from zero = seeds
bottoms seeds from (suc n) = put (bottoms seeds from n) (from + n) bottom

-- 01, refusal 2, and table sizes: "64 predicates; 256 positions"
abbrev pub room_for : ℕ → ℕ → ℕ → Bool
room_for p n arity = ltb p size.predicates && leb (n + arity) size.positions

-- the header and the tables that the call is lent
pub record Tables : Type 0 where
  pub header : Store
  pub rows : List ℕ
  pub seeds : List ℕ

abbrev pub tables : Store → List ℕ → List ℕ → Tables
tables s r d = record { header = s; rows = r; seeds = d }

abbrev pub in_header : {A : Type 0} → Metered Told Store A → Metered Told Tables A
in_header m = zoom (λ t. t.header) (λ s t. tables s t.rows t.seeds) m

-- the row of the new predicate, and its arguments' seeds
abbrev pub add_predicate : ℕ → Metered Told Tables ℕ
add_predicate arity t =
    going t.header.counts.predicates
    (tables (with_predicate arity t.header)
    (sets t.rows (size.predicate_row * t.header.counts.predicates) (t.header.counts.positions ∷ arity ∷ []))
    (bottoms t.seeds t.header.counts.positions arity))

unfoldable pub predicate_call : ℕ → Metered Told Tables ℕ
predicate_call arity =
    unless (λ t. eqb (length t.rows) size.predicate_cells && eqb (length t.seeds) size.argument_cells) Shape
    (admitting Building (λ t. t.header)
    (unless (λ t. room_for t.header.counts.predicates t.header.counts.positions arity) Full
    (in_header (billing (work 1)) >> in_header (billing (declared arity)) >> add_predicate arity)))
