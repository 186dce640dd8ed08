-- `rule` keeps what holds of a store, whichever way it ends.
use Rattle.sizes.specs.Sizes as size
use Prim.Native.Nat.{ℕ, ◌+◌, ◌≤◌}
use native.Mathlib.Omega.{arith}
use mathlib.Core.Path.{◌≡◌, refl, ap, ◌∙◌}
use mathlib.Core.Logic.{◌⊎◌, inl, inr}
use mathlib.Core.Bool.{true}
use mathlib.Core.List.{List, [], ◌∷◌}
use borrow.Author.Tests.{leb-true}
use lib.Dec.{leb, ltb}
use lib.ListN.{length}
use Rattle.integers.proofs.Tests.{and_right}
use Rattle.limits.specs.declared.Stop.{Stop}
use Rattle.limits.specs.declared.Budget.{Budget}
use Rattle.limits.specs.declared.Refusal.TheVariants.{Limit}
use Rattle.limits.specs.Refusal.{Told, told}
use Rattle.limits.specs.Metered.{Metered, ◌>>◌}
use Rattle.limits.specs.declared.Meter.{Meter}
use Rattle.limits.specs.Meter.{meter_of, with_meter}
use Rattle.limits.proofs.Ends.{Ends, completes, stops, ends_as, ends_both, ends_pure, ends_test, ends_then, ends_through, in_some_way}
use Rattle.rules.specs.declared.Head.{Head}
use Rattle.rules.specs.declared.Rule.{Rule}
use Rattle.rules.specs.Rule.{heads_of}
use Rattle.limits.specs.Context.{Context}
use Rattle.std.proofs.Common.{None, Some}
use Rattle.store.specs.declared.Store.{Store}
use Rattle.store.specs.Store.{with_budget}
use Rattle.store.specs.Calls.{billing}
use Rattle.store.proofs.Opened.{open?}
use Rattle.provenance.specs.Provenance.{Records, records, record_in, provenance, recordable}
use Rattle.producers.specs.Producer.{Scope, scope_of, checking, in_store, check_value, check_head, check_heads, check_body, check_rule, in_header, in_records, shapely, sized, spacious, cost, add_rule, rule_call}
use Rattle.producers.specs.Producer as producers
use Rattle.producers.proofs.Kept.{Accepted, rule_ends}
use Rattle.producers.proofs.Kept as kept
use Rattle.input.specs.Input.{Tables, id, for_rule, from_rule, call, Whole}
use Rattle.input.specs.Input as input
use Rattle.input.proofs.Reached.{Reached}
use Rattle.input.proofs.Left.{on_ends_lem, Leaves, Refused, early, Beyond, left_reached, rules_new, Goes, goes}
use Rattle.input.proofs.Calls.{Keeps, Roomy, roomy}

-- ---- without a context a rule records nothing

abbrev Unset : ℕ → Store → Type 0
Unset n s = (s.context ≡ None) × (s.counts.provenance ≡ n)

record Idle (m : Metered Told Records (Unit {0})) : Type 0 where
  at : (n : ℕ) (x : Records) → Unset n x.header → Ends (λ _ y. Unset n y.header) (λ _ y. Unset n y.header) (m x)

idle_then : {c d : Metered Told Records (Unit {0})} → Idle c → Idle d → Idle (c >> d)
idle_then {c} {d} h k = record { at = λ n x u. ends_then c d x (h.at n x u) (λ _ y v. k.at n y v) (λ _ y v. v) }

idle_store : (c : Metered Told Meter (Unit {0})) → Idle (in_store (checking c))
idle_store c = record {
  at = λ n x u.
      ends_through (λ t. t.header) (λ t s. records s t.table) (λ t s. records s t.table) (λ e. e) {P = λ _ s. Unset n s} {Q = λ _ s. Unset n s} (checking c) x
      (ends_through (λ s. meter_of s.budget) (λ s m. with_budget (with_meter m s.budget) s) (λ s m. with_budget (with_meter m s.budget) s) (λ e. e) c x.header (in_some_way _) (λ _ m _. u) (λ _ m _. u))
      (λ _ s v. v)
      (λ _ s v. v);
}

idle_provenance : (a : ℕ) → Idle (provenance a)
unfolding provenance
idle_provenance a = record { at = λ n x u. ends_test (ltb a x.header.counts.positions) (λ _. go n x u x.header.context u.0) (λ _. stops u) }
  where
    go : (n : ℕ) (x : Records) → Unset n x.header → (c : Context) → c ≡ None → Ends (λ _ y. Unset n y.header) (λ _ y. Unset n y.header) (record_in a c x)
    go n x u None e = ends_pure tt x u
    go n x u (Some c) e = let z : ◌≡◌ {A = ℕ} 0 1 = cc in absurd (omega arith)

idle_heads : (s : Scope) (l : List Head) → Idle (check_heads s l)
unfolding check_heads check_head
idle_heads s [] = record { at = λ n x u. ends_pure tt x u }
idle_heads s (h ∷ l) = idle_then (idle_then (idle_store (check_value s h.value)) (idle_provenance h.argument)) (idle_heads s l)

idle_rule : (nodes : List ℕ) (q : Rule) → Idle (check_rule nodes q)
unfolding check_rule
idle_rule nodes q = record {
  at = λ n x u. (idle_then (idle_store (check_body x.header.counts.positions (scope_of nodes x.header q) q)) (idle_heads (scope_of nodes x.header q) (heads_of q))).at n x u;
}

idle_charge : {A : Type 0} (m : Metered Stop Budget A) (n : ℕ) (s : Store) → Unset n s → Ends (λ _ u. Unset n u) (λ _ u. Unset n u) (billing m s)
idle_charge m n s u =
    ends_through (λ t. t) (λ _ t. t) (λ _ t. t) (λ e. told (Limit e)) {P = λ _ t. Unset n t} {Q = λ _ t. Unset n t} _ s
    (ends_through (λ t. t.budget) (λ t b. with_budget b t) (λ t b. with_budget b t) (λ e. e) m s (in_some_way _) (λ _ b _. u) (λ _ b _. u))
    (λ _ t v. v)
    (λ _ t v. v)

module _ (nodes : List ℕ) (q : Rule) (t : producers.Tables) where
  unrecorded : t.header.context ≡ None →
      Ends (λ _ u. u.header.counts.provenance ≡ t.header.counts.provenance) (λ _ u. u.header.counts.provenance ≡ t.header.counts.provenance) (rule_call nodes q t)
  unfolding rule_call
  unrecorded e =
      ends_test (sized (length nodes) (length t.rules) (length t.records))
      (λ _.
      ends_test (shapely q)
      (λ _.
      ends_test (open? t.header)
      (λ _.
      ends_test (spacious t.header)
      (λ _.
      ends_then {P = λ _ u. Unset n u.header} {Q = λ _ u. u.header.counts.provenance ≡ n} (in_header (billing (cost q))) (in_records (check_rule nodes q) >> add_rule q) t
      (ends_through (λ u. u.header) (λ u s. producers.tables s u.rules u.records) (λ u s. producers.tables s u.rules u.records) (λ x. x) (billing (cost q)) t (idle_charge (cost q) n t.header (e, refl))
      (λ _ s v. v) (λ _ s v. v.1))
      (λ _ u v.
      ends_then {P = λ _ u. Unset n u.header} {Q = λ _ u. u.header.counts.provenance ≡ n} (in_records (check_rule nodes q)) (add_rule q) u
      (ends_through (λ w. records w.header w.records) (λ w r. producers.tables r.header w.rules r.table) (λ w r. producers.tables r.header w.rules r.table) (λ x. x) (check_rule nodes q) u
      ((idle_rule nodes q).at n (records u.header u.records) v) (λ _ s p. p) (λ _ s p. p.1))
      (λ _ w p. completes p.1)
      (λ _ w p. p))
      (λ _ u v. v))
      (λ _. stops refl))
      (λ _. stops refl))
      (λ _. stops refl))
      (λ _. stops refl)
    where
      n : ℕ
      n = t.header.counts.provenance

  -- room for records, where one is in force
  rule_room : Roomy (recordable t.header.context t.header.counts.provenance ≡ true) t (rule_call nodes q t)
  unfolding rule_call
  rule_room =
      ends_test (sized (length nodes) (length t.rules) (length t.records))
      (λ _.
      ends_test (shapely q)
      (λ _.
      ends_test (open? t.header)
      (λ _.
      ends_test (spacious t.header)
      (λ h. roomy (and_right (leb t.header.counts.positions 256) _ (and_right (leb t.header.counts.expressions 1024) _ (and_right (ltb t.header.counts.rules 256) _ h))))
      (λ _. stops (inl refl)))
      (λ _. stops (inl refl)))
      (λ _. stops (inl refl)))
      (λ _. stops (inl refl))

-- at most 16 records more
sixteen : (c : Context) (n n' : ℕ) → recordable c n ≡ true → n' ≤ n + 16 → (c ≡ None → n' ≡ n) → n ≤ 1024 → n' ≤ 1024
sixteen None n n' h l f g = omega (arith, f refl)
sixteen (Some c) n n' h l f g = omega (arith, leb-true n size.records_before_call h)

-- ---- `rule`

module _ {t : Tables} (r : Reached t) (q : Rule) where
  abbrev Same : producers.Tables → Type 0
  Same u = t.header.context ≡ None → u.header.counts.provenance ≡ t.header.counts.provenance

  without : Ends (λ _ u. Same u) (λ _ u. Same u) (rule_call t.nodes q (for_rule t))
  without = go t.header.context refl
    where
      go : (c : Context) → t.header.context ≡ c → Ends (λ _ u. Same u) (λ _ u. Same u) (rule_call t.nodes q (for_rule t))
      go None e = ends_as (unrecorded t.nodes q (for_rule t) e) (λ _ u p _. p) (λ _ u p _. p)
      go (Some c) e = ends_as (in_some_way _) (λ _ u _ d. absurd (none d)) (λ _ u _ d. absurd (none d))
        where
          none : t.header.context ≡ None → ⊥
          none d = let z : ◌≡◌ {A = ℕ} 0 1 = cc in absurd (omega arith)

  rule_accepted : {i : ℕ} {u : producers.Tables} → Whole q → Accepted t.nodes q (for_rule t) i u → Same u → recordable t.header.context t.header.counts.provenance ≡ true → Goes t (from_rule u t)
  rule_accepted {i} {u} whole a same room =
      let h = a.is in
      let e : i ≡ t.header.counts.rules = a.next in
      goes r (record { names = refl; constants = refl; order = refl; nodes = refl; count = rw h; keys = rw h; expressions = rw h; limits = rw h a.spent.limits })
      (record {
        rises = rw h r.rises;
        old = λ z s. rw h s;
        marks = refl;
        few_marks = rw h r.counted.thresholds;
        records = a.recorded.size;
        few_records = sixteen t.header.context t.header.counts.provenance u.header.counts.provenance room a.recorded.few same r.counted.provenance;
      })
      record {
        predicates = r.sized.predicates;
        seeds = r.sized.seeds;
        cells = a.size ∙ r.sized.rules;
        few_predicates = rw h r.counted.predicates;
        few_positions = rw h r.counted.positions;
        few_rules = omega (arith, ap (λ (s : Store). s.counts.rules) h, a.fits);
        context = rw h r.context;
        laid = rw h r.laid;
        standing = rw h record {
          seeded = rw a.spent.limits r.standing.seeded;
          live = rw a.spent.entries r.standing.live;
          lost = rw a.spent.widened r.standing.lost;
        };
        rules =
            rw (ap (λ (s : Store). s.counts.rules) h, ap (λ (s : Store). s.counts.positions) h, ap (λ (s : Store). s.counts.expressions) h)
            (rules_new q t.header.context a.inside whole (rw e at a.back) (rw e at a.others) r.rules);
      }

  rule_refused : {e : Told} {u : producers.Tables} → kept.Refused (for_rule t) e u → Same u → (u ≡ for_rule t) ⊎ (recordable t.header.context t.header.counts.provenance ≡ true) → Refused t e (from_rule u t)
  rule_refused {e} {u} d same room = record { reached = left_reached r leaves beyond; leaves = leaves; stay = beyond.old; untouched = λ h. ap (λ (v : producers.Tables). from_rule v t) (d.early (early h)) }
    where
      leaves : Leaves t (from_rule u t)
      leaves =
          let h = d.is in record {
            predicates = refl;
            names = refl;
            constants = refl;
            order = refl;
            nodes = refl;
            seeds = refl;
            rules = d.rules;
            header = rw h record { predicates = refl; positions = refl; constants = refl; keys = refl; expressions = refl; rules = refl; context = refl; phase = refl; spent = d.spent };
          }

      few : (u ≡ for_rule t) ⊎ (recordable t.header.context t.header.counts.provenance ≡ true) → u.header.counts.provenance ≤ 1024
      few (inl p) = rw p r.counted.provenance
      few (inr p) = sixteen t.header.context t.header.counts.provenance u.header.counts.provenance p d.recorded.few same r.counted.provenance

      beyond : Beyond t (from_rule u t)
      beyond =
          let h = d.is in record {
            rises = rw h r.rises;
            old = λ z s. rw h s;
            marks = refl;
            few_marks = rw h r.counted.thresholds;
            records = d.recorded.size;
            few_records = few room;
          }

pub rule_keeps : (q : Rule) (t : Tables) → Whole q → Reached t → Keeps (input.rule q) t
unfolding call
rule_keeps q t whole r =
    on_ends_lem for_rule from_rule id (rule_call t.nodes q) t (ends_both (rule_ends t.nodes q (for_rule t) r.context) (ends_both (without r q) (rule_room t.nodes q (for_rule t))))
    (λ i u p. rule_accepted r q whole p.0 p.1.0 p.1.1)
    (λ e u p. rule_refused r q p.0 p.1.0 p.1.1)
