-- What the call of a rule leaves, whichever way it ends. One that is accepted is in scope and becomes the next row; a refused one leaves
-- charges and records.
use Rattle.sizes.specs.Sizes as size
use Prim.Native.Nat.{ℕ, ◌+◌, ◌*◌, ◌≤◌, ◌<◌}
use native.Mathlib.Omega.{arith}
use mathlib.Core.Path.{◌≡◌, refl, sym, ap, subst, ◌∙◌}
use mathlib.Core.Bool.{true, ◌&&◌}
use mathlib.Core.List.{List, [], ◌∷◌}
use borrow.Author.Tests.{ltb-true, leb-true, eqb-true}
use lib.Dec.{ltb, leb, eqb}
use lib.ListN.{length, get_or, length-take}
use lib.Seq.{sets, length-sets}
use Rattle.integers.specs.Lists.{All}
use Rattle.integers.proofs.Tests.{and_left, and_right}
use Rattle.integers.proofs.Stores.{sets_before}
use Rattle.limits.specs.declared.Stop.{Stop}
use Rattle.limits.specs.declared.Budget.{Budget}
use Rattle.limits.specs.declared.Refusal.{Refusal}
use Rattle.limits.specs.declared.Refusal.TheVariants.{Closed, Shape, Full, Limit}
use Rattle.limits.specs.Refusal.{Told, told}
use Rattle.limits.specs.Metered.{Metered, ◌>>◌}
use Rattle.limits.specs.declared.Meter.{Meter}
use Rattle.limits.specs.Meter.{meter_of, with_meter}
use Rattle.limits.specs.Budget.{links}
use Rattle.limits.proofs.ChargeLaws.{limit_late}
use Rattle.limits.proofs.Ends.{Ends, completes, stops, ends_pure, ends_as, ends_both, ends_test, ends_then, ends_through}
use Rattle.rules.specs.declared.Head.{Head}
use Rattle.rules.specs.declared.Rule.{Rule}
use Rattle.rules.specs.Rule.{bindings_of, guards_of, heads_of}
use Rattle.rules.proofs.RuleLaws.{Short, SmallContext, Row, rule_back, rule_kept, length_rule}
use Rattle.limits.specs.Context.{Context}
use Rattle.std.proofs.Common.{None, Some}
use Rattle.store.specs.declared.Store.{Store}
use Rattle.store.specs.Store.{with_budget, with_rules, with_provenance}
use Rattle.store.specs.Calls.{billing}
use Rattle.store.proofs.Opened.{open?}
use Rattle.store.proofs.Frame.{Spent, spent_none, spent_more, Spends, spends_then, spends_work, spends_links, Charging, charging_none}
use Rattle.provenance.specs.Provenance.{Records, records, paying, add_record, record_in, provenance, recordable}
use Rattle.provenance.proofs.Frame.{Recording, recording_none, recording_more, recording_fewer, Unrecorded, provenance_left}
use Rattle.producers.specs.Producer.{Scope, checking, in_store, check_value, check_head, check_heads, Tables, tables, in_header, in_records, shapely, sized, spacious, cost, scope_of, check_body, add_rule, check_rule, rule_call}
use Rattle.producers.proofs.Scoped.{Late, Finds, BindingIn, GuardIn, HeadIn, RuleIn, rule_small, finds_value, finds_body}

-- ---- charges, with what they refuse

charged_ends : {A : Type 0} {m : Metered Stop Budget A} → Spends m → (s : Store) → Ends (λ _ t. Charging s t) (λ e t. Late e × Charging s t) (billing m s)
charged_ends {m = m} h s =
    ends_through (λ t. t) (λ _ t. t) (λ _ t. t) (λ e. told (Limit e)) _ s
    (ends_through (λ t. t.budget) (λ t b. with_budget b t) (λ t b. with_budget b t) (λ e. e) m s (h.at s.budget) (λ _ b p. record { budget = b; spent = p; is = refl }) (λ _ b p. record { budget = b; spent = p; is = refl }))
    (λ _ t p. p)
    (λ e t p. (limit_late e.resource, p))

checking_ends : {P : Type 0} {c : Metered Told Meter (Unit {0})} → Finds P c → (s : Store) → Ends (λ _ u. P × Charging s u) (λ e u. Late e × Charging s u) (checking c s)
checking_ends {c = c} h s =
    ends_through (λ s. meter_of s.budget) (λ s m. with_budget (with_meter m s.budget) s) (λ s m. with_budget (with_meter m s.budget) s) (λ e. e) c s (h.at (meter_of s.budget))
    (λ _ m p. (p.0, left m p.1))
    (λ e m p. (p.0, left m p.1))
  where
    left : (m : Meter) → m.entries ≡ s.budget.statistics.entries → Charging s (with_budget (with_meter m s.budget) s)
    left m e = record {
      budget = with_meter m s.budget;
      spent = record { limits = refl; predicates = refl; positions = refl; entries = e; rounds = refl; widened = refl };
      is = refl;
    }

-- ---- records

-- c records stood in p and d stand in q: at most n more, behind those that stood
pub record Longer (n c : ℕ) (p : List ℕ) (d : ℕ) (q : List ℕ) : Type 0 where
  pub few : d ≤ c + n
  pub grows : c ≤ d
  pub older : (m : ℕ) → m < 2 * c → get_or q m 0 ≡ get_or p m 0
  pub size : length q ≡ length p

-- what checks leave of the header and the records
record Tracing (n : ℕ) (r u : Records) : Type 0 where
  recording : Recording n r u
  longer : Longer n r.header.counts.provenance r.table u.header.counts.provenance u.table

tracing_none : {r u : Records} → Charging r.header u.header → u.table ≡ r.table → Tracing 0 r u
tracing_none h e = record {
  recording = recording_none h;
  longer = record { few = rw h.is (omega arith); grows = rw h.is (omega arith); older = λ m l. ap (λ (t : List ℕ). get_or t m 0) e; size = ap length e };
}

tracing_more : {m n : ℕ} {r s t : Records} → Tracing m r s → Tracing n s t → Tracing (m + n) r t
tracing_more h k = record {
  recording = recording_more h.recording k.recording;
  longer = record {
    few = omega (arith, h.longer.few, k.longer.few);
    grows = omega (arith, h.longer.grows, k.longer.grows);
    older = λ m l. k.longer.older m (omega (arith, h.longer.grows)) ∙ h.longer.older m l;
    size = k.longer.size ∙ h.longer.size;
  };
}

tracing_fewer : {m n : ℕ} {r s : Records} → m ≤ n → Tracing m r s → Tracing n r s
tracing_fewer l h = record {
  recording = recording_fewer l h.recording;
  longer = record { few = omega (arith, h.longer.few); grows = h.longer.grows; older = h.longer.older; size = h.longer.size };
}

-- a record for an argument that exists
module _ (a : ℕ) (r : Records) where
  abbrev n : ℕ
  n = r.header.counts.provenance

  abbrev Behind : Records → Type 0
  Behind u = Longer 1 n r.table u.header.counts.provenance u.table

  behind : Ends (λ _ u. (a < r.header.counts.positions) × Behind u) (λ e _. Late e) (provenance a r)
  unfolding provenance
  behind =
      ends_test (ltb a r.header.counts.positions) (λ t. go (ltb-true a r.header.counts.positions t) r.header.context) (λ _. stops (λ h. absurd (omega arith)))
    where
      new : (t : Records) (c : ℕ) → Unrecorded r t → Longer 1 n r.table (t.header.counts.provenance + 1) (sets t.table (2 * t.header.counts.provenance) (a ∷ c ∷ []))
      new t c h = rw (h.0.is, h.1) record {
        few = omega arith;
        grows = omega arith;
        older = λ m l. sets_before 0 (a ∷ c ∷ []) r.table (2 * n) m l;
        size = length-sets r.table (2 * n) (a ∷ c ∷ []);
      }

      go : a < r.header.counts.positions → (c : Context) → Ends (λ _ u. (a < r.header.counts.positions) × Behind u) (λ e _. Late e) (record_in a c r)
      go l None = ends_pure tt r (l, record { few = omega arith; grows = omega arith; older = λ m k. refl; size = refl })
      go l (Some c) =
          ends_then {P = λ _ t. Unrecorded r t} {Q = λ e _. Late e} (paying (links 1)) (add_record a c) r
          (ends_through (λ t. t.header) (λ t s. records s t.table) (λ t s. records s t.table) (λ e. e) (billing (links 1)) r (charged_ends (spends_links 1) r.header)
          (λ _ s h. (h, refl)) (λ e s h. h.0))
          (λ _ t h. completes (l, new t c h))
          (λ e t h. h)

  provenance_ends : Ends (λ _ u. (a < r.header.counts.positions) × Tracing 1 r u) (λ e u. Late e × Tracing 1 r u) (provenance a r)
  provenance_ends =
      ends_as (ends_both behind (provenance_left a r)) (λ _ u h. (h.0.0, record { recording = h.1; longer = h.0.1 }))
      (λ e u h. (h.0, tracing_fewer (omega arith) (tracing_none h.1.0 h.1.1)))

-- ---- heads

store_ends : {P : Type 0} {c : Metered Told Meter (Unit {0})} → Finds P c → (r : Records) → Ends (λ _ u. P × Tracing 0 r u) (λ e u. Late e × Tracing 0 r u) (in_store (checking c) r)
store_ends {c = c} h r =
    ends_through (λ t. t.header) (λ t s. records s t.table) (λ t s. records s t.table) (λ e. e) (checking c) r (checking_ends h r.header)
    (λ _ s p. (p.0, tracing_none p.1 refl))
    (λ e s p. (p.0, tracing_none p.1 refl))

tracing_positions : {n : ℕ} {r u : Records} → Tracing n r u → u.header.counts.positions ≡ r.header.counts.positions
tracing_positions h = rw h.recording.is

head_ends : (s : Scope) (h : Head) (r : Records) →
    Ends (λ _ u. HeadIn r.header.counts.positions s h × Tracing 1 r u) (λ e u. Late e × Tracing 1 r u) (check_head s h r)
unfolding check_head
head_ends s h r =
    ends_then (in_store (checking (check_value s h.value))) (provenance h.argument) r (store_ends (finds_value s h.value) r)
    (λ _ t p. ends_as (provenance_ends h.argument t) (λ _ u q. ((rw (tracing_positions p.1) at q.0, p.0), tracing_more p.1 q.1)) (λ e u q. (q.0, tracing_more p.1 q.1)))
    (λ e t p. (p.0, tracing_fewer (omega arith) p.1))

heads_ends : (s : Scope) (l : List Head) (r : Records) →
    Ends (λ _ u. All (HeadIn r.header.counts.positions s) l × Tracing (length l) r u) (λ e u. Late e × Tracing (length l) r u) (check_heads s l r)
unfolding check_heads
heads_ends s [] r = ends_pure tt r (tt, tracing_none (charging_none r.header) refl)
heads_ends s (h ∷ l) r =
    ends_then (check_head s h) (check_heads s l) r (head_ends s h r)
    (λ _ t p.
    ends_as (heads_ends s l t)
    (λ _ u q. ((p.0, rw (tracing_positions p.1) at q.0), tracing_fewer (omega arith) (tracing_more p.1 q.1)))
    (λ e u q. (q.0, tracing_fewer (omega arith) (tracing_more p.1 q.1))))
    (λ e t p. (p.0, tracing_fewer (omega arith) p.1))

-- ---- all checks of a rule

-- what the rule names exists
record Named (arguments : ℕ) (s : Scope) (r : Rule) : Type 0 where
  bindings : All (BindingIn arguments s) (bindings_of r)
  guards : All (GuardIn s) (guards_of r)
  heads : All (HeadIn arguments s) (heads_of r)

rule_checked : (nodes : List ℕ) (r : Rule) (x : Records) →
    Ends (λ _ y. Named x.header.counts.positions (scope_of nodes x.header r) r × Tracing (length (heads_of r)) x y) (λ e y. Late e × Tracing (length (heads_of r)) x y) (check_rule nodes r x)
unfolding check_rule
rule_checked nodes r x =
    let s = scope_of nodes x.header r in
    let a = x.header.counts.positions in
    ends_then (in_store (checking (check_body a s r))) (check_heads s (heads_of r)) x (store_ends (finds_body a s r) x)
    (λ _ t p.
    ends_as (heads_ends s (heads_of r) t)
    (λ _ u q. (record { bindings = p.0.0; guards = p.0.1; heads = rw (tracing_positions p.1) at q.0 }, tracing_fewer (omega arith) (tracing_more p.1 q.1)))
    (λ e u q. (q.0, tracing_fewer (omega arith) (tracing_more p.1 q.1))))
    (λ e t p. (p.0, tracing_fewer (omega arith) p.1))

-- ---- what a call leaves

pub record Accepted (nodes : List ℕ) (r : Rule) (t : Tables) (id : ℕ) (u : Tables) : Type 0 where
  -- the answer is the next id, and the table has a row for it
  pub next : id ≡ t.header.counts.rules
  pub fits : id < 256
  -- the rule has the shape that a row has, and what it names exists
  pub inside : RuleIn t.header.counts.positions (scope_of nodes t.header r) r
  -- its row reads back as the rule with the context in force; the rows of other ids read as before, and the table is as long
  pub back : Row r t.header.context u.rules id
  pub others : (q : Rule) (c : Context) (j : ℕ) → Short q → (j ≡ id → ⊥) → Row q c t.rules j → Row q c u.rules j
  pub size : length u.rules ≡ length t.rules
  -- there are at most 16 records more
  pub recorded : Longer 16 t.header.counts.provenance t.records u.header.counts.provenance u.records
  -- there is one rule more. All else of the header is as before, but for what the budget has charged
  pub budget : Budget
  pub spent : Spent t.header.budget budget
  pub is : u.header ≡ with_rules (t.header.counts.rules + 1) (with_provenance u.header.counts.provenance (with_budget budget t.header))

pub record Refused (t : Tables) (e : Told) (u : Tables) : Type 0 where
  -- no rule is written
  pub rules : u.rules ≡ t.rules
  -- heads that passed may have left records, at most 16
  pub recorded : Longer 16 t.header.counts.provenance t.records u.header.counts.provenance u.records
  -- all else of the header, the count of rules too, is as before, but for what the budget has charged
  pub budget : Budget
  pub spent : Spent t.header.budget budget
  pub is : u.header ≡ with_provenance u.header.counts.provenance (with_budget budget t.header)
  -- refusals 1 and 2 leave everything as it was
  pub early : e.number ≤ 2 → u ≡ t

-- refused before anything is charged
refused_whole : (t : Tables) (e : Refusal) → Refused t (told e) t
refused_whole t e = record {
  rules = refl;
  recorded = record { few = omega arith; grows = omega arith; older = λ m l. refl; size = refl };
  budget = t.header.budget;
  spent = spent_none t.header.budget;
  is = refl;
  early = λ _. refl;
}

-- ---- what the tests of the call say

shapely_short : (r : Rule) → shapely r ≡ true → (r.slots ≤ 16) × Short r
shapely_short r h =
    let a = leb r.slots 16 in
    let b = leb r.lengths.bindings 32 in
    let c = leb r.lengths.guards 32 in
    let d = leb r.lengths.heads 16 in
    let e = eqb r.lengths.queries 0 in
    let p = and_right a (b && (c && (d && e))) h in
    let q = and_right b (c && (d && e)) p in (
      leb-true r.slots 16 (and_left a (b && (c && (d && e))) h),
      record {
        slots = leb-true r.slots 16 (and_left a (b && (c && (d && e))) h);
        bindings = leb-true r.lengths.bindings 32 (and_left b (c && (d && e)) p);
        guards = leb-true r.lengths.guards 32 (and_left c (d && e) q);
        heads = leb-true r.lengths.heads 16 (and_left d e (and_right c (d && e) q));
      },
    )

-- how many rules, expressions and positions stand
record Roomy (s : Store) : Type 0 where
  rules : s.counts.rules < 256
  expressions : s.counts.expressions ≤ 1024
  positions : s.counts.positions ≤ 256

spacious_roomy : (s : Store) → spacious s ≡ true → Roomy s
spacious_roomy s h =
    let a = ltb s.counts.rules 256 in
    let b = leb s.counts.expressions 1024 in
    let c = leb s.counts.positions 256 in
    let d = recordable s.context s.counts.provenance in
    let p = and_right a (b && (c && d)) h in
    record {
      rules = ltb-true s.counts.rules 256 (and_left a (b && (c && d)) h);
      expressions = leb-true s.counts.expressions 1024 (and_left b (c && d) p);
      positions = leb-true s.counts.positions 256 (and_left c d (and_right b (c && d) p));
    }

sizes_rules : (nodes rules recorded : ℕ) → sized nodes rules recorded ≡ true → rules ≡ size.rule_cells
sizes_rules nodes rules recorded h =
    let a = eqb nodes size.node_cells in
    let b = eqb rules size.rule_cells in
    let c = eqb recorded size.record_cells in
    eqb-true rules size.rule_cells (and_left b c (and_right a (b && c) h))

spends_cost : (r : Rule) → Spends (cost r)
unfolding cost
spends_cost r = spends_then (spends_work 1) (spends_links (r.slots + r.lengths.bindings + r.lengths.guards + r.lengths.heads + 1))

-- ---- a rule that passes the tests

module _ (nodes : List ℕ) (r : Rule) (t : Tables) (long : length t.rules ≡ size.rule_cells) (slots : r.slots ≤ 16) (short : Short r) (room : Roomy t.header) (small : SmallContext t.header.context) where
  few_heads : length (heads_of r) ≤ 16
  few_heads = simp length-take (omega (arith, short.heads))

  rule_inside : Named t.header.counts.positions (scope_of nodes t.header r) r → RuleIn t.header.counts.positions (scope_of nodes t.header r) r
  rule_inside n = record { own = refl; slots = slots; short = short; bindings = n.bindings; guards = n.guards; heads = n.heads }

  added : (b : Budget) (c : ℕ) (p : List ℕ) → Spent t.header.budget b → Longer 16 t.header.counts.provenance t.records c p →
      RuleIn t.header.counts.positions (scope_of nodes t.header r) r → Ends (Accepted nodes r t) (Refused t) (add_rule r (tables (with_provenance c (with_budget b t.header)) t.rules p))
  added b c p spent longer inside =
      let id = t.header.counts.rules in
      completes
      record {
        next = refl;
        fits = room.rules;
        inside = inside;
        back = rule_back t.rules id r t.header.context short (omega (arith, room.rules)) (rule_small room.positions room.expressions inside) small;
        others = λ q d j few other h. rule_kept t.rules id r t.header.context short q d j few other h;
        size = length_rule t.rules id r t.header.context;
        recorded = longer;
        budget = b;
        spent = spent;
        is = refl;
      }

  -- after the charge
  module _ (b : Budget) (spent : Spent t.header.budget b) where
    abbrev paid : Tables
    paid = tables (with_budget b t.header) t.rules t.records

    abbrev x : Records
    x = records (with_budget b t.header) t.records

    passed : (y : Records) → Named t.header.counts.positions (scope_of nodes t.header r) r → Tracing 16 x y →
        Ends (Accepted nodes r t) (Refused t) (add_rule r (tables y.header t.rules y.table))
    passed y n h =
        subst (λ (s : Store). Ends (Accepted nodes r t) (Refused t) (add_rule r (tables s t.rules y.table))) (sym h.recording.is)
        (added h.recording.budget y.header.counts.provenance y.table (spent_more spent h.recording.spent) h.longer (rule_inside n))

    failed : (e : Told) (y : Records) → Late e → Tracing 16 x y → Refused t e (tables y.header t.rules y.table)
    failed e y l h = record {
      rules = refl;
      recorded = h.longer;
      budget = h.recording.budget;
      spent = spent_more spent h.recording.spent;
      is = h.recording.is;
      early = λ k. absurd (l k);
    }

    checked_ends : Ends (Accepted nodes r t) (Refused t) ((in_records (check_rule nodes r) >> add_rule r) paid)
    checked_ends =
        ends_then {P = λ _ u. Ends (Accepted nodes r t) (Refused t) (add_rule r u)} {Q = Refused t} (in_records (check_rule nodes r)) (add_rule r) paid
        (ends_through (λ u. records u.header u.records) (λ u y. tables y.header u.rules y.table) (λ u y. tables y.header u.rules y.table) (λ e. e) (check_rule nodes r) paid
        (rule_checked nodes r x)
        (λ _ y p. passed y p.0 (tracing_fewer few_heads p.1))
        (λ e y p. failed e y p.0 (tracing_fewer few_heads p.1)))
        (λ _ u p. p)
        (λ e u p. p)

  charge_ends : Ends (Accepted nodes r t) (Refused t) ((in_header (billing (cost r)) >> in_records (check_rule nodes r) >> add_rule r) t)
  charge_ends =
      ends_then {P = λ _ u. Ends (Accepted nodes r t) (Refused t) ((in_records (check_rule nodes r) >> add_rule r) u)} {Q = Refused t} (in_header (billing (cost r))) (in_records (check_rule nodes r) >> add_rule r) t
      (ends_through (λ u. u.header) (λ u s. tables s u.rules u.records) (λ u s. tables s u.rules u.records) (λ e. e) (billing (cost r)) t (charged_ends (spends_cost r) t.header)
      (λ _ s h.
      subst (λ (s : Store). Ends (Accepted nodes r t) (Refused t) ((in_records (check_rule nodes r) >> add_rule r) (tables s t.rules t.records))) (sym h.is)
      (checked_ends h.budget h.spent))
      (λ e s h.
      subst (λ (s : Store). Refused t e (tables s t.rules t.records)) (sym h.1.is)
      (failed h.1.budget h.1.spent e (x h.1.budget h.1.spent) h.0 (tracing_fewer (omega arith) (tracing_none (charging_none _) refl)))))
      (λ _ u p. p)
      (λ e u p. p)

-- ---- the call

pub rule_ends : (nodes : List ℕ) (r : Rule) (t : Tables) → SmallContext t.header.context → Ends (Accepted nodes r t) (Refused t) (rule_call nodes r t)
unfolding rule_call
rule_ends nodes r t small =
    ends_test (sized (length nodes) (length t.rules) (length t.records))
    (λ long.
    ends_test (shapely r)
    (λ shape.
    ends_test (open? t.header)
    (λ _.
    ends_test (spacious t.header)
    (λ room.
    let s = shapely_short r shape in
    charge_ends nodes r t (sizes_rules (length nodes) (length t.rules) (length t.records) long) s.0 s.1 (spacious_roomy t.header room) small)
    (λ _. stops (refused_whole t Full)))
    (λ _. stops (refused_whole t Closed)))
    (λ _. stops (refused_whole t Shape)))
    (λ _. stops (refused_whole t Shape))
