-- The header of a store: which calls a phase admits, and the header with one part changed. Headers are made in this file alone.
use Rattle.std.specs.Prelude.{ℕ, ◌+◌, Bool, true, false, cond, leb, None}
use Rattle.sizes.specs.Sizes as size
use Rattle.limits.specs.declared.Limits.{Limits}
use Rattle.limits.specs.declared.Budget.{Budget}
use Rattle.limits.specs.declared.Refusal.TheVariants.{Shape}
use Rattle.limits.specs.Refusal.{Told, told}
use Rattle.limits.specs.Context.{Context}
use Rattle.limits.specs.Records.{fresh_budget}
use Rattle.limits.specs.Metered.{Run, going, stopped}
use Rattle.store.specs.declared.Phase.{Phase}
use Rattle.store.specs.declared.Phase.TheVariants.{Absent, Open, Completed, Stopped}
use Rattle.store.specs.declared.Kind.{Kind}
use Rattle.store.specs.declared.Counts.{Counts}
use Rattle.store.specs.declared.Store.{Store}

-- 01, refusal 1: "A store call or run finds the store closed, or a reading finds it open". Store calls and the run want an open one, of whatever
-- kind they are.
abbrev pub admits : Kind → Phase → Bool
admits kind Absent = false
admits kind Open = true
admits kind Completed = false
admits kind (Stopped s c) = false

abbrev pub counts : ℕ → ℕ → ℕ → ℕ → ℕ → ℕ → ℕ → ℕ → Counts
counts p a c k e r t n = record { predicates = p; positions = a; constants = c; keys = k; expressions = e; rules = r; thresholds = t; provenance = n }

abbrev pub header : Budget → Counts → Context → Phase → Store
header b n c p = record { budget = b; counts = n; context = c; phase = p }

abbrev pub with_budget : Budget → Store → Store
with_budget b s = header b s.counts s.context s.phase

abbrev pub with_counts : Counts → Store → Store
with_counts n s = header s.budget n s.context s.phase

abbrev pub with_context : Context → Store → Store
with_context c s = header s.budget s.counts c s.phase

abbrev pub with_phase : Phase → Store → Store
with_phase p s = header s.budget s.counts s.context p

-- one predicate more, and as many positions as its arity
abbrev pub with_predicate : ℕ → Store → Store
with_predicate arity s = with_counts (counts (s.counts.predicates + 1) (s.counts.positions + arity) s.counts.constants s.counts.keys s.counts.expressions s.counts.rules s.counts.thresholds s.counts.provenance) s

-- ---- one table's count is n, all else is as it was

abbrev pub with_constants : ℕ → Store → Store
with_constants n s = with_counts (counts s.counts.predicates s.counts.positions n s.counts.keys s.counts.expressions s.counts.rules s.counts.thresholds s.counts.provenance) s

abbrev pub with_keys : ℕ → Store → Store
with_keys n s = with_counts (counts s.counts.predicates s.counts.positions s.counts.constants n s.counts.expressions s.counts.rules s.counts.thresholds s.counts.provenance) s

abbrev pub with_expressions : ℕ → Store → Store
with_expressions n s = with_counts (counts s.counts.predicates s.counts.positions s.counts.constants s.counts.keys n s.counts.rules s.counts.thresholds s.counts.provenance) s

abbrev pub with_rules : ℕ → Store → Store
with_rules n s = with_counts (counts s.counts.predicates s.counts.positions s.counts.constants s.counts.keys s.counts.expressions n s.counts.thresholds s.counts.provenance) s

abbrev pub with_thresholds : ℕ → Store → Store
with_thresholds n s = with_counts (counts s.counts.predicates s.counts.positions s.counts.constants s.counts.keys s.counts.expressions s.counts.rules n s.counts.provenance) s

abbrev pub with_provenance : ℕ → Store → Store
with_provenance n s = with_counts (counts s.counts.predicates s.counts.positions s.counts.constants s.counts.keys s.counts.expressions s.counts.rules s.counts.thresholds n) s

abbrev pub nothing : Counts
nothing = counts 0 0 0 0 0 0 0 0

abbrev pub empty : Limits → Phase → Store
empty l p = header (fresh_budget l) nothing None p

-- 01, refusal 1: "width over 16". There is then no store: a phase of its own.
abbrev pub fresh_of : Limits → Run Told Store (Unit {0})
fresh_of l = cond (leb l.width size.width) (going tt (empty l Open)) (stopped (told Shape) (empty l Absent))
