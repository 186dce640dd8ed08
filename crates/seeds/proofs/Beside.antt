-- What a call leaves of the header beside what it is for, whichever way it ends, and how a charge in a call ends.
use Prim.Native.Nat.{ℕ, ◌+◌, ◌*◌, ◌≤◌, ◌<◌}
use native.Mathlib.Omega.{arith}
use mathlib.Core.Path.{◌≡◌, refl, ◌∙◌}
use mathlib.Core.List.{List}
use lib.ListN.{get_or}
use Rattle.limits.specs.declared.Limits.{Limits}
use Rattle.limits.specs.declared.Stop.{Stop}
use Rattle.limits.specs.declared.Budget.{Budget}
use Rattle.limits.specs.declared.Refusal.TheVariants.{Limit}
use Rattle.limits.specs.Refusal.{told}
use Rattle.limits.specs.Metered.{Metered}
use Rattle.limits.proofs.ChargeLaws.{late}
use Rattle.limits.proofs.Ends.{Ends, ends_through}
use Rattle.store.specs.declared.Phase.{Phase}
use Rattle.store.specs.declared.Store.{Store}
use Rattle.store.specs.Store.{with_budget, empty}
use Rattle.store.specs.Calls.{billing}
use Rattle.store.proofs.Frame.{Spent}
use Rattle.seeds.proofs.Seeded.{Seeded, Live, Lost, seeded_none, live_none, lost_none, seeded_constants}

-- ---- a store with its seeds

pub record Standing (constants : List ℕ) (s : Store) (seeds : List ℕ) : Type 0 where
  pub seeded : Seeded s.budget.limits.width s.counts.constants s.counts.positions constants seeds
  pub live : Live s.budget.statistics.entries s.counts.positions seeds
  pub lost : Lost s.budget.statistics.widened s.counts.positions seeds

-- a new store has no arguments
pub standing_none : (constants : List ℕ) (l : Limits) (p : Phase) (seeds : List ℕ) → Standing constants (empty l p) seeds
standing_none constants l p seeds = record { seeded = seeded_none l.width 0 constants seeds; live = live_none seeds; lost = lost_none seeds }

-- the calls that are not about seeds: there may be more constants, and those that stood have their kinds
pub standing_on : {constants constants' seeds : List ℕ} {s s' : Store} → s.counts.constants ≤ s'.counts.constants →
    ((id : ℕ) → id < s.counts.constants → get_or constants' (2 * id) 0 ≡ get_or constants (2 * id) 0) → s'.counts.positions ≡ s.counts.positions → s'.budget.limits ≡ s.budget.limits →
    s'.budget.statistics.entries ≡ s.budget.statistics.entries → s'.budget.statistics.widened ≡ s.budget.statistics.widened → Standing constants s seeds → Standing constants' s' seeds
standing_on {constants} {constants'} {seeds} {s} {s'} more kinds p l e w h = record {
  seeded = rw (l, p) (seeded_constants s.counts.constants s'.counts.constants constants constants' more kinds s.budget.limits.width s.counts.positions seeds h.seeded);
  live = rw (e, p) h.live;
  lost = rw (w, p) h.lost;
}

-- ---- what stays of the header s in s'

-- at most so many provenance records and thresholds more
pub record Beside (records marks : ℕ) (s s' : Store) : Type 0 where
  -- the tables that are not written
  pub predicates : s'.counts.predicates ≡ s.counts.predicates
  pub positions : s'.counts.positions ≡ s.counts.positions
  pub constants : s'.counts.constants ≡ s.counts.constants
  pub keys : s'.counts.keys ≡ s.counts.keys
  pub expressions : s'.counts.expressions ≡ s.counts.expressions
  pub rules : s'.counts.rules ≡ s.counts.rules
  -- those that may be
  pub fewest_records : s.counts.provenance ≤ s'.counts.provenance
  pub most_records : s'.counts.provenance ≤ s.counts.provenance + records
  pub fewest_marks : s.counts.thresholds ≤ s'.counts.thresholds
  pub most_marks : s'.counts.thresholds ≤ s.counts.thresholds + marks
  -- the rest of the header
  pub context : s'.context ≡ s.context
  pub phase : s'.phase ≡ s.phase
  pub limits : s'.budget.limits ≡ s.budget.limits
  -- what was charged for predicates, positions and rounds
  pub charged_predicates : s'.budget.statistics.predicates ≡ s.budget.statistics.predicates
  pub charged_positions : s'.budget.statistics.positions ≡ s.budget.statistics.positions
  pub charged_rounds : s'.budget.statistics.rounds ≡ s.budget.statistics.rounds

pub beside_more : {a b c d : ℕ} {r s t : Store} → Beside a b r s → Beside c d s t → Beside (a + c) (b + d) r t
beside_more h k = record {
  predicates = k.predicates ∙ h.predicates;
  positions = k.positions ∙ h.positions;
  constants = k.constants ∙ h.constants;
  keys = k.keys ∙ h.keys;
  expressions = k.expressions ∙ h.expressions;
  rules = k.rules ∙ h.rules;
  fewest_records = omega (arith, h.fewest_records, k.fewest_records);
  most_records = omega (arith, h.most_records, k.most_records);
  fewest_marks = omega (arith, h.fewest_marks, k.fewest_marks);
  most_marks = omega (arith, h.most_marks, k.most_marks);
  context = k.context ∙ h.context;
  phase = k.phase ∙ h.phase;
  limits = k.limits ∙ h.limits;
  charged_predicates = k.charged_predicates ∙ h.charged_predicates;
  charged_positions = k.charged_positions ∙ h.charged_positions;
  charged_rounds = k.charged_rounds ∙ h.charged_rounds;
}

pub beside_wider : {a b c d : ℕ} {s s' : Store} → a ≤ c → b ≤ d → Beside a b s s' → Beside c d s s'
beside_wider l m h = record {
  predicates = h.predicates;
  positions = h.positions;
  constants = h.constants;
  keys = h.keys;
  expressions = h.expressions;
  rules = h.rules;
  fewest_records = h.fewest_records;
  most_records = omega (arith, h.most_records);
  fewest_marks = h.fewest_marks;
  most_marks = omega (arith, h.most_marks);
  context = h.context;
  phase = h.phase;
  limits = h.limits;
  charged_predicates = h.charged_predicates;
  charged_positions = h.charged_positions;
  charged_rounds = h.charged_rounds;
}

-- and the counts of the seeds stay too
pub record Quiet (records marks : ℕ) (s s' : Store) : Type 0 where
  pub beside : Beside records marks s s'
  pub entries : s'.budget.statistics.entries ≡ s.budget.statistics.entries
  pub widened : s'.budget.statistics.widened ≡ s.budget.statistics.widened

pub quiet_more : {a b c d : ℕ} {r s t : Store} → Quiet a b r s → Quiet c d s t → Quiet (a + c) (b + d) r t
quiet_more h k = record { beside = beside_more h.beside k.beside; entries = k.entries ∙ h.entries; widened = k.widened ∙ h.widened }

pub quiet_wider : {a b c d : ℕ} {s s' : Store} → a ≤ c → b ≤ d → Quiet a b s s' → Quiet c d s s'
quiet_wider l m h = record { beside = beside_wider l m h.beside; entries = h.entries; widened = h.widened }

-- one record or none more
pub wider : {n : ℕ} {s s' : Store} → Quiet 0 n s s' → Quiet 1 n s s'
wider {n} h = quiet_wider {a = 0} {b = n} (omega arith) (omega arith) h

pub same_count : {n : ℕ} {s s' : Store} → Beside 0 n s s' → s'.counts.provenance ≡ s.counts.provenance
same_count h = omega (arith, h.fewest_records, h.most_records)

pub same_marks : {n : ℕ} {s s' : Store} → Beside n 0 s s' → s'.counts.thresholds ≡ s.counts.thresholds
same_marks h = omega (arith, h.fewest_marks, h.most_marks)

-- what holds of the seeds goes by that
pub standing_quiet : {a b : ℕ} {constants seeds : List ℕ} {s s' : Store} → Quiet a b s s' → Standing constants s seeds → Standing constants s' seeds
standing_quiet q h =
    let w = q.beside.limits in
    let p = q.beside.positions in
    let k = q.beside.constants in
    record {
      seeded = rw (w, p, k) h.seeded;
      live = rw (q.entries, p) h.live;
      lost = rw (q.widened, p) h.lost;
    }

-- ---- budgets

-- what no call of a store changes but those that are for it
pub record Kin (b c : Budget) : Type 0 where
  pub limits : c.limits ≡ b.limits
  pub predicates : c.statistics.predicates ≡ b.statistics.predicates
  pub positions : c.statistics.positions ≡ b.statistics.positions
  pub rounds : c.statistics.rounds ≡ b.statistics.rounds

-- e entries are live
pub record Bill (e : ℕ) (b c : Budget) : Type 0 where
  pub kin : Kin b c
  pub entries : c.statistics.entries ≡ e
  pub widened : c.statistics.widened ≡ b.statistics.widened

pub same_bill : (b : Budget) → Bill b.statistics.entries b b
same_bill b = record { kin = record { limits = refl; predicates = refl; positions = refl; rounds = refl }; entries = refl; widened = refl }

pub beside_budget : (s : Store) {b : Budget} → Kin s.budget b → Beside 0 0 s (with_budget b s)
beside_budget s k = record {
  predicates = refl;
  positions = refl;
  constants = refl;
  keys = refl;
  expressions = refl;
  rules = refl;
  fewest_records = omega arith;
  most_records = omega arith;
  fewest_marks = omega arith;
  most_marks = omega arith;
  context = refl;
  phase = refl;
  limits = k.limits;
  charged_predicates = k.predicates;
  charged_positions = k.positions;
  charged_rounds = k.rounds;
}

pub quiet_bill : (s : Store) {b : Budget} → Bill s.budget.statistics.entries s.budget b → Quiet 0 0 s (with_budget b s)
quiet_bill s k = record { beside = beside_budget s k.kin; entries = k.entries; widened = k.widened }

pub spent_bill : {b c : Budget} → Spent b c → Bill b.statistics.entries b c
spent_bill h = record {
  kin = record { limits = h.limits; predicates = h.predicates; positions = h.positions; rounds = h.rounds };
  entries = h.entries;
  widened = h.widened;
}

-- ---- a charge in a call

-- a charge is refused with a number of its own, never with 1 or 2
pub charged_ends : {A : Type 0} {P : A → Budget → Type 0} {Q : Stop → Budget → Type 0} (m : Metered Stop Budget A) (s : Store) → Ends P Q (m s.budget) →
    Ends (λ a s'. (b : Budget) × P a b × (s' ≡ with_budget b s)) (λ e s'. (3 ≤ e.number) × (x : Stop) × (b : Budget) × Q x b × (s' ≡ with_budget b s)) (billing m s)
charged_ends {P} {Q} m s h =
    ends_through (λ t. t) (λ _ t. t) (λ _ t. t) (λ e. told (Limit e)) _ s
    (ends_through (λ t. t.budget) (λ t b. with_budget b t) (λ t b. with_budget b t) (λ e. e) {R = λ a s'. (b : Budget) × P a b × (s' ≡ with_budget b s)} {U = λ x s'. (b : Budget) × Q x b × (s' ≡ with_budget b s)} m s h
    (λ _ b p. (b, p, refl))
    (λ _ b p. (b, p, refl)))
    (λ _ t p. p)
    (λ x t p. (late x.resource, x, p.0, p.1, p.2))
