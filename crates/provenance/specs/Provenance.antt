-- `Input::provenance`: which contexts produced an argument, as records of argument and context in the order recorded.
use Rattle.std.specs.Prelude.{ℕ, ◌+◌, ◌*◌, ◌≤◌, Bool, true, List, [], ◌∷◌, leb, ltb}
use Rattle.sizes.specs.Sizes as size
use Rattle.std.proofs.lemmas.List.Edits.{sets}
use Rattle.limits.specs.declared.Stop.{Stop}
use Rattle.limits.specs.declared.Budget.{Budget}
use Rattle.limits.specs.declared.Refusal.TheVariants.{Missing}
use Rattle.limits.specs.Refusal.{Told}
use Rattle.limits.specs.Metered.{going, Metered, pure, ◌>>◌, zoom}
use Rattle.limits.specs.Budget.{links}
use Rattle.limits.specs.Context.{Context}
use Rattle.std.specs.Prelude.{None, Some}
use Rattle.store.specs.declared.Store.{Store}
use Rattle.store.specs.Store.{with_provenance}
use Rattle.store.specs.Calls.{unless, billing}

pub record Records : Type 0 where
  pub header : Store
  pub table : List ℕ

abbrev pub records : Store → List ℕ → Records
records s t = record { header = s; table = t }

abbrev pub paying : {A : Type 0} → Metered Stop Budget A → Metered Told Records A
paying m = zoom (λ t. t.header) (λ s t. records s t.table) (billing m)

-- a record's two cells: the argument and the context
abbrev pub add_record : ℕ → ℕ → Metered Told Records (Unit {0})
add_record a c t =
    let n = t.header.counts.provenance in
    going tt (records (with_provenance (n + 1) t.header) (sets t.table (size.record_row * n) (a ∷ c ∷ [])))

-- without a context nothing is recorded
abbrev pub record_in : ℕ → Context → Metered Told Records (Unit {0})
record_in a None = pure tt
record_in a (Some c) = paying (links 1) >> add_record a c

unfoldable pub provenance : ℕ → Metered Told Records (Unit {0})
provenance a = unless (λ t. ltb a t.header.counts.positions) Missing (λ t. record_in a t.header.context t)

-- 01, refusal 2: "provenance 1,024 (seeds and rules with a context need at most 1,008 standing)"
abbrev pub recordable : Context → ℕ → Bool
recordable None standing = true
recordable (Some c) standing = leb standing size.records_before_call

-- so many records more have room, where a context is in force
abbrev pub Room : ℕ → Context → ℕ → Type 0
Room n None standing = Unit {0}
Room n (Some c) standing = standing + n ≤ size.records
