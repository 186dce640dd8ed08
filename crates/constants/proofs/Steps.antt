-- What a call of a key leaves of the header besides what it is for.
use Prim.Native.Nat.{ℕ}
use mathlib.Core.Path.{◌≡◌, refl, ◌∙◌}
use Rattle.limits.specs.declared.Budget.{Budget}
use Rattle.store.specs.declared.Store.{Store}
use Rattle.store.specs.Store.{with_budget, with_constants, with_keys, with_thresholds}
use Rattle.store.specs.Calls.{Marks}
use Rattle.store.proofs.Frame.{Spent, spent_none, spent_more, Charging, Marking}

-- ---- what a call of a key leaves of the header: another budget, and other counts of constants, keys and thresholds

pub record Besides (s s' : Store) : Type 0 where
  pub predicates : s'.counts.predicates ≡ s.counts.predicates
  pub positions : s'.counts.positions ≡ s.counts.positions
  pub expressions : s'.counts.expressions ≡ s.counts.expressions
  pub rules : s'.counts.rules ≡ s.counts.rules
  pub provenance : s'.counts.provenance ≡ s.counts.provenance
  pub context : s'.context ≡ s.context
  pub phase : s'.phase ≡ s.phase
  -- the limits too are as before
  pub spent : Spent s.budget s'.budget

pub besides_of : (s : Store) (b : Budget) (constants keys thresholds : ℕ) → Spent s.budget b → Besides s (with_keys keys (with_constants constants (with_thresholds thresholds (with_budget b s))))
besides_of s b constants keys thresholds h = record { predicates = refl; positions = refl; expressions = refl; rules = refl; provenance = refl; context = refl; phase = refl; spent = h }

pub besides_none : (s : Store) → Besides s s
besides_none s = besides_of s s.budget s.counts.constants s.counts.keys s.counts.thresholds (spent_none s.budget)

pub besides_more : {r s t : Store} → Besides r s → Besides s t → Besides r t
besides_more h k = record {
  predicates = k.predicates ∙ h.predicates;
  positions = k.positions ∙ h.positions;
  expressions = k.expressions ∙ h.expressions;
  rules = k.rules ∙ h.rules;
  provenance = k.provenance ∙ h.provenance;
  context = k.context ∙ h.context;
  phase = k.phase ∙ h.phase;
  spent = spent_more h.spent k.spent;
}

-- a charge leaves all counts of the tables
pub besides_charge : {s s' : Store} → Charging s s' → Besides s s'
besides_charge {s} c = rw c.is (besides_of s c.budget s.counts.constants s.counts.keys s.counts.thresholds c.spent)

pub charge_counts : {s s' : Store} → Charging s s' → s'.counts ≡ s.counts
charge_counts c = rw c.is

-- thresholds leave all but their own
pub besides_marks : {t t' : Marks} → Marking t t' → Besides t.header t'.header
besides_marks {t} {t'} c = rw c.is (besides_of t.header c.budget t.header.counts.constants t.header.counts.keys t'.header.counts.thresholds c.spent)

pub marks_constants : {t t' : Marks} → Marking t t' → t'.header.counts.constants ≡ t.header.counts.constants
marks_constants c = rw c.is

pub marks_keys : {t t' : Marks} → Marking t t' → t'.header.counts.keys ≡ t.header.counts.keys
marks_keys c = rw c.is
