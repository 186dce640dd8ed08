-- The store's header as 64-bit words. Which word is what:
--
--    0 to 8    limits: work, predicates, positions, links, width, entries, rounds, bytes, symbol
--    9 to 16   counts: work, predicates, positions, links, entries, rounds, bytes, widened
--   17 to 24   rows that stand: predicates, positions, constants, keys, expressions, rules, thresholds, provenance
--   25, 26     whether the caller has set a context, and which
--   27         the phase: 0 absent, 1 open, 2 completed, any other stopped
--   28 to 31   of a stopped run: the resource by 01's number, any other Rounds; the limit, and the two halves of the observed sum
--   32, 33     of a stopped run: whether a context was in force, and which
--
-- Any words are a header: those that are missing are 0, and a context is the last 32 bits of its word.
use Rattle.std.specs.Prelude.{ℕ, ◌+◌, ◌%◌, ◌^◌, ◌<◌, cond, eqb, List, [], ◌∷◌, ◌++◌, get_or, Some, None}
use Rattle.limits.specs.declared.Limits.{Limits}
use Rattle.limits.specs.declared.Statistics.{Statistics}
use Rattle.limits.specs.declared.Resource.{Resource}
use Rattle.limits.specs.declared.Resource.TheVariants.{Work, Predicates, Positions, Links, ValueEntries, Rounds, InspectedBytes}
use Rattle.limits.specs.declared.Stop.{Stop}
use Rattle.limits.specs.Context.{Context}
use Rattle.limits.specs.Refusal.{resource_number}
use Rattle.store.specs.declared.Phase.{Phase}
use Rattle.store.specs.declared.Phase.TheVariants.{Absent, Open, Completed, Stopped}
use Rattle.store.specs.declared.Counts.{Counts}
use Rattle.store.specs.declared.Store.{Store}
use Rattle.store.specs.Store.{counts, header}

-- ---- from words to a header

abbrev pub word : List ℕ → ℕ → ℕ
word w i = get_or w i 0

abbrev pub limits_in : List ℕ → Limits
limits_in w = record {
  work = word w 0;
  predicates = word w 1;
  positions = word w 2;
  links = word w 3;
  width = word w 4;
  entries = word w 5;
  rounds = word w 6;
  bytes = word w 7;
  symbol = word w 8;
}

abbrev pub statistics_in : List ℕ → Statistics
statistics_in w = record {
  work = word w 9;
  predicates = word w 10;
  positions = word w 11;
  links = word w 12;
  entries = word w 13;
  rounds = word w 14;
  bytes = word w 15;
  widened = word w 16;
}

abbrev pub counts_in : List ℕ → Counts
counts_in w = counts (word w 17) (word w 18) (word w 19) (word w 20) (word w 21) (word w 22) (word w 23) (word w 24)

abbrev pub context_in : List ℕ → ℕ → Context
context_in w at = cond (eqb (word w at) 0) None (Some (word w (at + 1) % 2 ^ 32))

abbrev pub resource_of : ℕ → Resource
resource_of n = get_or (Rounds ∷ Rounds ∷ Rounds ∷ Work ∷ InspectedBytes ∷ Rounds ∷ Predicates ∷ Positions ∷ Links ∷ ValueEntries ∷ []) n Rounds

abbrev pub stop_in : List ℕ → Stop
stop_in w = record { resource = resource_of (word w 28); limit = word w 29; high = word w 30; low = word w 31 }

abbrev pub phase_in : List ℕ → Phase
phase_in w = get_or (Absent ∷ Open ∷ Completed ∷ []) (word w 27) (Stopped (stop_in w) (context_in w 32))

unfoldable pub header_of : List ℕ → Store
header_of w = header (record { limits = limits_in w; statistics = statistics_in w }) (counts_in w) (context_in w 25) (phase_in w)

-- ---- and back

abbrev pub limit_words : Limits → List ℕ
limit_words l = l.work ∷ l.predicates ∷ l.positions ∷ l.links ∷ l.width ∷ l.entries ∷ l.rounds ∷ l.bytes ∷ l.symbol ∷ []

abbrev pub statistic_words : Statistics → List ℕ
statistic_words s = s.work ∷ s.predicates ∷ s.positions ∷ s.links ∷ s.entries ∷ s.rounds ∷ s.bytes ∷ s.widened ∷ []

abbrev pub count_words : Counts → List ℕ
count_words n = n.predicates ∷ n.positions ∷ n.constants ∷ n.keys ∷ n.expressions ∷ n.rules ∷ n.thresholds ∷ n.provenance ∷ []

abbrev pub context_words : Context → List ℕ
context_words None = 0 ∷ 0 ∷ []
context_words (Some n) = 1 ∷ n ∷ []

abbrev pub stop_words : Stop → List ℕ
stop_words s = resource_number s.resource ∷ s.limit ∷ s.high ∷ s.low ∷ []

-- the last six words are a stopped run's alone
abbrev pub phase_words : Phase → List ℕ
phase_words Absent = 0 ∷ []
phase_words Open = 1 ∷ []
phase_words Completed = 2 ∷ []
phase_words (Stopped s c) = 3 ∷ (stop_words s ++ context_words c)

unfoldable pub words_of : Store → List ℕ
words_of s = limit_words s.budget.limits ++ statistic_words s.budget.statistics ++ count_words s.counts ++ context_words s.context ++ phase_words s.phase

-- ---- the headers that read back: all whose contexts have 32 bits

abbrev pub Small : Context → Type 0
Small None = Unit {0}
Small (Some n) = n < 2 ^ 32

abbrev pub Ended : Phase → Type 0
Ended Absent = Unit {0}
Ended Open = Unit {0}
Ended Completed = Unit {0}
Ended (Stopped s c) = Small c

pub record Fits (s : Store) : Type 0 where
  pub context : Small s.context
  pub phase : Ended s.phase
