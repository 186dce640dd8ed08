-- CR 14, the entry total. "For a completed report the live-entry number on the `s` line equals the sum of the lengths of all printed lists. For a
-- stopped one it equals the sum of the lengths of the lists that each argument's joined seeds keep."
use Rattle.std.specs.Prelude.{ℕ, ◌≡◌, sum_by}
use Rattle.std.specs.List.{range_with_len}
use mathlib.Core.List.{List, [], ◌∷◌}
use Rattle.integers.specs.Lists.{All}
use Rattle.limits.specs.declared.Limits.{Limits}
use Rattle.limits.specs.declared.Stop.{Stop}
use Rattle.limits.specs.Context.{Context}
use Rattle.lattice.specs.Value.{Value}
use Rattle.rows.specs.Row.{entries_of, value_at}
use Rattle.store.specs.declared.Phase.TheVariants.{Completed, Stopped}
use Rattle.store.specs.declared.Store.{Store}
use Rattle.input.specs.Input.{with_header}
use Rattle.numeric.specs.Reading.{Reading, given, refused, argument_reading}
use Rattle.numeric.specs.Step.{Call, State, Event, step, fresh}
use Rattle.numeric.specs.Step as calls
use Rattle.text.specs.Text.{decimal}
use Rattle.report.specs.Report.{report_of}
use Rattle.report.specs.Seen.{ids_printed, totals_printed}
use Rattle.soundness.specs.Claim.{Typed, Lent}
use Rattle.soundness.specs.Code.{leaves, Begins, Exchanges, none, next, other}

-- ---- what a list of calls leaves: of the definitions, and of the code

unfoldable pub left : State → List Call → State
left s [] = s
left s (c ∷ cs) = left (step c s).after cs

unfoldable pub left_by : {s : State} {es : List Event} → Exchanges s es → State
left_by {s} none = s
left_by (next x xs) = left_by xs
left_by (other e f x xs) = left_by xs

-- ---- what is counted there

abbrev pub entries : State → ℕ
entries s = s.tables.header.budget.statistics.entries

-- how long the list is that a reading of an argument gives; 0 where it gives none
abbrev pub length_read : Reading Value → ℕ
length_read (given v) = entries_of v
length_read (refused e) = 0

abbrev pub over_arguments : State → (ℕ → ℕ) → ℕ
over_arguments s f = sum_by f (range_with_len 0 s.tables.header.counts.positions)

-- the lengths of the reported lists, and of those that the seeds keep
abbrev pub reported : State → ℕ
reported s = over_arguments s (λ a. length_read (argument_reading s.tables.header s.arguments a))

abbrev pub seeded : State → ℕ
seeded s = over_arguments s (λ a. entries_of (value_at s.tables.seeds a))

-- ---- and what is printed

-- there is a report, and one line `s` in it, whose fourth number is this one
abbrev pub Prints : State → (List (List ℕ) → ℕ) → Type 0
Prints s n = (lines : List (List ℕ)) × (report_of s.tables.header s.arguments s.tables.rules s.slots ≡ given lines) × (totals_printed lines ≡ decimal (n lines) ∷ [])

pub record Total (s : State) : Type 0 where
  pub completed : s.tables.header.phase ≡ Completed → entries s ≡ reported s
  pub completed_prints : s.tables.header.phase ≡ Completed → Prints s ids_printed
  pub stopped : {e : Stop} {c : Context} → s.tables.header.phase ≡ Stopped e c → entries s ≡ seeded s
  pub stopped_prints : {e : Stop} {c : Context} → s.tables.header.phase ≡ Stopped e c → Prints s (λ _. seeded s)

-- ---- the claim: from a fresh store, in tables that hold anything and have any size, after any calls. Over the definitions, and for the code

abbrev pub EntryTotal : Type 0
EntryTotal = (l : Limits) (s : State) → Lent s.tables → (cs : List Call) → All Typed cs → Total (left (fresh l s) cs)

abbrev pub EntryTotalCode : Type 0
EntryTotalCode =
    (l : Limits) (a₀ : calls.Answer) (header₀ : Store) → Begins l a₀ header₀ → (s : State) → Lent s.tables → (es : List Event) → (x : Exchanges (leaves s (with_header header₀ s.tables)) es) →
    All (λ e. Typed e.call) es → Total (left_by x)
