-- What a record leaves of the header: charges, and at most one record more. A refused one writes nothing.
use Prim.Native.Nat.{ℕ, ◌+◌, ◌*◌, ◌≤◌}
use native.Mathlib.Omega.{arith}
use mathlib.Core.Path.{◌≡◌, refl, ◌∙◌}
use mathlib.Core.List.{[], ◌∷◌}
use lib.Dec.{ltb}
use lib.Seq.{sets}
use Rattle.limits.specs.declared.Budget.{Budget}
use Rattle.limits.specs.Budget.{links}
use Rattle.limits.proofs.Ends.{Ends, completes, stops, ends_pure, ends_test, ends_then, ends_through}
use Rattle.limits.specs.Context.{Context}
use Rattle.std.proofs.Common.{None, Some}
use Rattle.store.specs.Store.{with_budget, with_provenance}
use Rattle.store.specs.Calls.{billing}
use Rattle.store.proofs.Frame.{Spent, spent_more, Charging, charging_none, charged_left, spends_links}
use Rattle.provenance.specs.Provenance.{Records, records, paying, add_record, record_in, provenance}

pub record Recording (n : ℕ) (r r' : Records) : Type 0 where
  pub budget : Budget
  pub spent : Spent r.header.budget budget
  pub is : r'.header ≡ with_provenance r'.header.counts.provenance (with_budget budget r.header)
  pub few : r'.header.counts.provenance ≤ r.header.counts.provenance + n

pub recording_none : {r r' : Records} → Charging r.header r'.header → Recording 0 r r'
recording_none h = record { budget = h.budget; spent = h.spent; is = h.is ∙ rw h.is; few = rw h.is (omega arith) }

pub recording_more : {m n : ℕ} {r s t : Records} → Recording m r s → Recording n s t → Recording (m + n) r t
recording_more h k = record {
  budget = k.budget;
  spent = spent_more h.spent (rw h.is at k.spent);
  is = k.is ∙ rw h.is;
  few = omega (arith, h.few, k.few);
}

pub recording_fewer : {m n : ℕ} {r s : Records} → m ≤ n → Recording m r s → Recording n r s
recording_fewer l h = record { budget = h.budget; spent = h.spent; is = h.is; few = omega (arith, h.few) }

-- nothing is written where it is refused
abbrev pub Unrecorded : Records → Records → Type 0
Unrecorded r r' = Charging r.header r'.header × (r'.table ≡ r.table)

pub provenance_left : (a : ℕ) (r : Records) → Ends (λ _ r'. Recording 1 r r') (λ _ r'. Unrecorded r r') (provenance a r)
unfolding provenance
provenance_left a r = ends_test (ltb a r.header.counts.positions) (λ _. go r.header.context) (λ _. stops (charging_none r.header, refl))
  where
    new : (t : Records) (c : ℕ) → Unrecorded r t → Recording 1 r (records (with_provenance (t.header.counts.provenance + 1) t.header) (sets t.table (2 * t.header.counts.provenance) (a ∷ c ∷ [])))
    new t c h = record { budget = h.0.budget; spent = h.0.spent; is = rw h.0.is; few = rw h.0.is (omega arith) }

    go : (c : Context) → Ends (λ _ r'. Recording 1 r r') (λ _ r'. Unrecorded r r') (record_in a c r)
    go None = ends_pure tt r (recording_fewer (omega arith) (recording_none (charging_none r.header)))
    go (Some c) =
        ends_then {P = λ _ r'. Unrecorded r r'} (paying (links 1)) (add_record a c) r
        (ends_through (λ t. t.header) (λ t s. records s t.table) (λ t s. records s t.table) (λ e. e) (billing (links 1)) r (charged_left (spends_links 1) r.header)
        (λ _ s h. (h, refl)) (λ _ s h. (h, refl)))
        (λ _ t h. completes (new t c h))
        (λ _ t h. h)
