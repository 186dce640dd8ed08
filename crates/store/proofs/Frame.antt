-- What a call leaves of the header beside what it is for. Charges change work, links and inspected bytes, and nothing else.
use Prim.Native.Nat.{ℕ, ◌≤◌}
use native.Mathlib.Omega.{arith}
use Rattle.std.proofs.Common.{Result, Ok, Err}
use mathlib.Core.Path.{◌≡◌, refl, ◌∙◌}
use Rattle.limits.specs.declared.Resource.TheVariants.{Work, Links, InspectedBytes}
use Rattle.limits.specs.declared.Stop.{Stop}
use Rattle.limits.specs.declared.Budget.{Budget}
use Rattle.limits.specs.declared.Refusal.TheVariants.{Limit}
use Rattle.limits.specs.Refusal.{Told, told}
use Rattle.limits.specs.Charge.{charge_of}
use Rattle.limits.specs.Records.{count_of, limit_of}
use Rattle.limits.specs.Metered.{Run, going, stopped, Metered, ◌>>◌, through, mapped}
use Rattle.limits.specs.Budget.{charge, work, links, bytes}
use Rattle.limits.specs.Budget as budgets
use Rattle.limits.specs.declared.Meter.{Meter}
use Rattle.limits.specs.Meter.{meter_of, with_meter, metered}
use Rattle.limits.proofs.Ends.{Ends, completes, stops, ends_as, ends_then, ends_through, ends_both, in_some_way}
use Rattle.limits.proofs.ChargeLaws.{late}
use Rattle.limits.proofs.Live.{LiveIn, Lives}
use Rattle.thresholds.specs.Thresholds.{Entry, entry}
use Rattle.thresholds.proofs.Outcomes as outcomes
use Rattle.thresholds.proofs.Sorted.{Ending}
use Rattle.store.specs.declared.Store.{Store}
use Rattle.store.specs.Store.{with_budget, with_thresholds}
use Rattle.store.specs.Calls.{billing, Marks, marks, entering}

-- ---- budgets: the limits and all counts but work, links and bytes are shared

pub record Spent (b c : Budget) : Type 0 where
  pub limits : c.limits ≡ b.limits
  pub predicates : c.statistics.predicates ≡ b.statistics.predicates
  pub positions : c.statistics.positions ≡ b.statistics.positions
  pub entries : c.statistics.entries ≡ b.statistics.entries
  pub rounds : c.statistics.rounds ≡ b.statistics.rounds
  pub widened : c.statistics.widened ≡ b.statistics.widened

pub spent_none : (b : Budget) → Spent b b
spent_none b = record { limits = refl; predicates = refl; positions = refl; entries = refl; rounds = refl; widened = refl }

pub spent_more : {a b c : Budget} → Spent a b → Spent b c → Spent a c
spent_more h k = record {
  limits = k.limits ∙ h.limits;
  predicates = k.predicates ∙ h.predicates;
  positions = k.positions ∙ h.positions;
  entries = k.entries ∙ h.entries;
  rounds = k.rounds ∙ h.rounds;
  widened = k.widened ∙ h.widened;
}

-- m charges work, links and bytes alone, whichever way it ends
pub record Spends {A : Type 0} (m : Metered Stop Budget A) : Type 0 where
  pub at : (b : Budget) → Ends (λ _ c. Spent b c) (λ _ c. Spent b c) (m b)

pub spends_work : (n : ℕ) → Spends (work n)
unfolding charge
spends_work n = record { at = λ b. go b (charge_of Work (count_of Work b.statistics) n (limit_of Work b.limits)) }
  where
    go : (b : Budget) (x : Result ℕ Stop) → Ends (λ _ c. Spent b c) (λ _ c. Spent b c) (budgets.charged Work b x)
    go b (Ok n) = completes record { limits = refl; predicates = refl; positions = refl; entries = refl; rounds = refl; widened = refl }
    go b (Err e) = stops (spent_none b)

pub spends_links : (n : ℕ) → Spends (links n)
unfolding charge
spends_links n = record { at = λ b. go b (charge_of Links (count_of Links b.statistics) n (limit_of Links b.limits)) }
  where
    go : (b : Budget) (x : Result ℕ Stop) → Ends (λ _ c. Spent b c) (λ _ c. Spent b c) (budgets.charged Links b x)
    go b (Ok n) = completes record { limits = refl; predicates = refl; positions = refl; entries = refl; rounds = refl; widened = refl }
    go b (Err e) = stops (spent_none b)

pub spends_bytes : (n : ℕ) → Spends (bytes n)
unfolding charge
spends_bytes n = record { at = λ b. go b (charge_of InspectedBytes (count_of InspectedBytes b.statistics) n (limit_of InspectedBytes b.limits)) }
  where
    go : (b : Budget) (x : Result ℕ Stop) → Ends (λ _ c. Spent b c) (λ _ c. Spent b c) (budgets.charged InspectedBytes b x)
    go b (Ok n) = completes record { limits = refl; predicates = refl; positions = refl; entries = refl; rounds = refl; widened = refl }
    go b (Err e) = stops (spent_none b)

pub spends_then : {A B : Type 0} {m : Metered Stop Budget A} {n : Metered Stop Budget B} → Spends m → Spends n → Spends (m >> n)
spends_then {m} {n} h k = record {
  at = λ b. ends_then m n b (h.at b) (λ _ c p. ends_as (k.at c) (λ _ d q. spent_more p q) (λ _ d q. spent_more p q)) (λ _ c p. p);
}

-- what holds no entries charges work alone
pub spends_metered : {A : Type 0} {m : Metered Stop Meter A} → Lives 0 (λ _. 0) m → Spends (metered m)
unfolding through mapped
spends_metered {A} {m} h = record { at = λ b. go b (m (meter_of b)) (h.at b.statistics.entries (meter_of b) (omega arith)) }
  where
    left : (b : Budget) (t : Meter) → t.entries ≡ b.statistics.entries → Spent b (with_meter t b)
    left b t e = record { limits = refl; predicates = refl; positions = refl; entries = e; rounds = refl; widened = refl }

    go : (b : Budget) (x : Run Stop Meter A) → LiveIn b.statistics.entries (λ _. 0) x → Ends (λ _ c. Spent b c) (λ _ c. Spent b c) (mapped (λ t. with_meter t b) (λ t. with_meter t b) (λ e. e) x)
    go b (going a t) e = completes (left b t (omega arith))
    go b (stopped s t) e = stops (left b t (omega arith))

-- ---- headers

-- s' is s with a budget that has charged
pub record Charging (s s' : Store) : Type 0 where
  pub budget : Budget
  pub spent : Spent s.budget budget
  pub is : s' ≡ with_budget budget s

pub charging_none : (s : Store) → Charging s s
charging_none s = record { budget = s.budget; spent = spent_none s.budget; is = refl }

pub charging_more : {r s t : Store} → Charging r s → Charging s t → Charging r t
charging_more {r} {s} {t} h k = record {
  budget = k.budget;
  spent = spent_more h.spent (rw h.is at k.spent);
  is = k.is ∙ rw h.is;
}

pub charged_left : {A : Type 0} {m : Metered Stop Budget A} → Spends m → (s : Store) → Ends (λ _ t. Charging s t) (λ _ t. Charging s t) (billing m s)
charged_left {m} h s =
    ends_through (λ t. t) (λ _ t. t) (λ _ t. t) (λ e. told (Limit e)) _ s
    (ends_through (λ t. t.budget) (λ t b. with_budget b t) (λ t b. with_budget b t) (λ e. e) m s (h.at s.budget) (λ _ b p. record { budget = b; spent = p; is = refl }) (λ _ b p. record { budget = b; spent = p; is = refl }))
    (λ _ t p. p)
    (λ _ t p. p)

-- a charge is refused with a resource's number, which is neither 1 nor 2
abbrev pub Limited : Told → Type 0
Limited e = 3 ≤ e.number

pub limited : (s : Stop) → Limited (told (Limit s))
limited s = late s.resource

pub pays : {A : Type 0} {m : Metered Stop Budget A} → Spends m → (s : Store) → Ends (λ _ s'. Charging s s') (λ e s'. Limited e × Charging s s') (billing m s)
pays {A} {m} h s = ends_as (ends_both (charged_left h s) refusal) (λ _ s' p. p.0) (λ e s' p. (p.1, p.0))
  where
    refusal : Ends (λ _ _. Unit {0}) (λ e _. Limited e) (billing m s)
    refusal = ends_through (λ t. t) (λ _ t. t) (λ _ t. t) (λ e. told (Limit e)) _ s (in_some_way _) (λ _ _ _. tt) (λ e _ _. limited e)

-- ---- thresholds

-- what entering numbers leaves: a budget that has charged, and another count of thresholds
pub record Marking (t t' : Marks) : Type 0 where
  pub budget : Budget
  pub spent : Spent t.header.budget budget
  pub is : t'.header ≡ with_thresholds t'.header.counts.thresholds (with_budget budget t.header)

-- an `Ending` of the thresholds, as `Ends`
pub ending_ends : {P Q : Entry → Type 0} (x : Run Stop Entry (Unit {0})) → Ending P Q x → Ends (λ _ s. P s) (λ _ s. Q s) x
ending_ends (going a s) h = completes h
ending_ends (stopped e s) h = stops h

spent_of : {b c : Budget} → outcomes.Charging b c → Spent b c
spent_of h = record {
  limits = h.limits;
  predicates = h.predicates;
  positions = h.positions;
  entries = h.entries;
  rounds = h.rounds;
  widened = h.widened;
}

-- with whatever else holds of the thresholds
pub entering_left : {P Q : Entry → Type 0} (m : Metered Stop Entry (Unit {0})) (t : Marks) →
    let s = entry t.header.budget t.header.counts.thresholds t.table in
    Ends (λ _ e. P e × outcomes.Charging s.budget e.budget) (λ _ e. Q e × outcomes.Charging s.budget e.budget) (m s) →
    Ends (λ _ t'. Marking t t' × P (entry t'.header.budget t'.header.counts.thresholds t'.table)) (λ _ t'. Marking t t' × Q (entry t'.header.budget t'.header.counts.thresholds t'.table)) (entering m t)
entering_left {P} {Q} m t h =
    ends_through (λ u. u) (λ _ u. u) (λ _ u. u) (λ e. told (Limit e)) _ t
    (ends_through (λ u. entry u.header.budget u.header.counts.thresholds u.table) (λ u e. marks (with_thresholds e.count (with_budget e.budget u.header)) e.table)
    (λ u e. marks (with_thresholds e.count (with_budget e.budget u.header)) e.table) (λ e. e) m t h
    (λ _ e p. (record { budget = e.budget; spent = spent_of p.1; is = refl }, p.0))
    (λ _ e p. (record { budget = e.budget; spent = spent_of p.1; is = refl }, p.0)))
    (λ _ u p. p)
    (λ _ u p. p)
