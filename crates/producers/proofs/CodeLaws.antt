-- What the checks of a rule leave, over plain variables.
use Rattle.limits.specs.Context.{Context}
use Rattle.sizes.specs.Sizes as size
use Prim.Native.Nat.{ℕ, suc, ◌+◌, ◌<◌, ◌≤◌}
use native.Mathlib.Omega.{arith}
use native.Mathlib.Numerals.{add-one}
use mathlib.Core.Path.{◌≡◌, refl, sym, ap, subst, ◌∙◌}
use mathlib.Core.Bool.{true}
use mathlib.Core.List.{List, [], ◌∷◌}
use lib.Dec.{leb, ltb}
use lib.ListN.{length, get_or, drop, drop_of_length-le}
use lib.Seq.{drop-cons}
use borrow.Author.Tests.{lt-ltb, le-ltb, leb-true, ltb-true}
use Rattle.limits.specs.declared.Stop.{Stop}
use Rattle.limits.specs.declared.Refusal.{Refusal}
use Rattle.limits.specs.declared.Refusal.TheVariants.{Limit, Missing}
use Rattle.limits.specs.Refusal.{Told, told}
use Rattle.limits.specs.Metered.{Run, going, stopped, Metered, ◌>>◌, through, mapped}
use Rattle.limits.specs.declared.Meter.{Meter}
use Rattle.limits.specs.Meter.{meter_of, with_meter}
use Rattle.limits.specs.Meter as inner
use Rattle.limits.specs.Budget.{work, links}
use Rattle.limits.proofs.Monad.{then_on, then_stop, pure_is, through_on, through_stop}
use Rattle.limits.proofs.Ends.{Ends, ends_pure, where_going, ends_as, ends_then, ends_through, in_some_way}
use Rattle.nodes.specs.declared.Expression.{Expression}
use Rattle.nodes.specs.declared.Expression.TheVariants.{Constant, Slot, Unary, Absolute, Binary, Unknown}
use Rattle.nodes.specs.Node.{expression_at}
use Rattle.nodes.proofs.NodeLaws.{Below}
use Rattle.nodes.proofs.Descent.{below, descends}
use Rattle.rules.specs.declared.Head.{Head}
use Rattle.rules.specs.declared.Rule.{Rule}
use Rattle.rules.specs.Rule.{heads_of, put_rule}
use Rattle.integers.proofs.Tests.{and_left, and_right}
use Rattle.store.specs.declared.Store.{Store}
use Rattle.store.specs.declared.Kind.TheVariants.{Building}
use Rattle.store.specs.Store.{admits, with_budget, with_rules}
use Rattle.store.specs.Calls.{unless, billing}
use Rattle.store.proofs.CodeLaws.{charged_then_stop, charged_then_on}
use Rattle.provenance.specs.Provenance.{Records, records, provenance, recordable, Room}
use Rattle.provenance.proofs.Frame.{provenance_left}
use Rattle.std.proofs.Common.{None, Some}
use Rattle.producers.specs.Producer.{Scope, unit, each, slot_in, check_node, check_in, check_expression, check_value, checking, check_head, check_heads, shapely, sized, spacious, cost, scope_of, check_body, check_rule, Tables, tables, in_header, in_records, add_rule, rule_call}

abbrev Check : Type 0
Check = Metered Told Meter (Unit {0})

-- ---- one unit of work, and slots

module _ (m : Meter) where
  pub step_on : {t : Meter} → going tt t ≡ inner.work 1 m → going tt t ≡ unit m
  step_on h = through_on (λ s. s) (λ _ t. t) (λ _ t. t) (λ e. told (Limit e)) (inner.work 1) m h

  pub step_off : {e : Stop} {t : Meter} → stopped e t ≡ inner.work 1 m → stopped (told (Limit e)) t ≡ unit m
  step_off h = through_stop (λ s. s) (λ _ t. t) (λ _ t. t) (λ e. told (Limit e)) (inner.work 1) m h

pub slot_there : (slots slot : ℕ) (m : Meter) → slot < slots → going tt m ≡ slot_in slots slot m
slot_there slots slot m h = rw (lt-ltb slot slots h) (pure_is tt m)

-- ---- expressions: any depth over the id does

node_same : (f g : ℕ → Check) (slots id : ℕ) (e : Expression) → Below id e → ((j : ℕ) → j < id → f j ≡ g j) → check_node f slots e ≡ check_node g slots e
node_same f g slots id (Constant k) b h = refl
node_same f g slots id (Slot s) b h = refl
node_same f g slots id (Unary op e) b h = h e b
node_same f g slots id (Absolute e) b h = h e b
node_same f g slots id (Binary op l r) b h = rw (h r b.1, h l b.0)
node_same f g slots id (Unknown i w) b h = refl

abbrev check_step : Scope → (ℕ → Check) → ℕ → Check
check_step s f id = unit >> unless (λ _. ltb id s.expressions) Missing (check_node f s.slots (expression_at s.nodes id))

check_near : (s : Scope) (f g : ℕ → Check) (id : ℕ) → ((j : ℕ) → j < id → f j ≡ g j) → check_step s f id ≡ check_step s g id
check_near s f g id h =
    ap (λ (c : Check). unit >> unless (λ _. ltb id s.expressions) Missing c)
    (node_same f g s.slots id (expression_at s.nodes id) (below s.nodes id refl (expression_at s.nodes id) refl) h)

check_open : (s : Scope) (id : ℕ) → check_expression s id ≡ check_step s (check_expression s) id
unfolding check_expression check_in
check_open s id = descends (check_step s) (check_near s) (λ n j. check_in n s j) (λ n j. refl) id

module _ (s : Scope) (id : ℕ) (m : Meter) {y : Run Told Meter (Unit {0})} where
  opened : y ≡ check_step s (check_expression s) id m → y ≡ check_expression s id m
  opened h = rw (check_open s id) h

module _ (s : Scope) (id : ℕ) (m : Meter) where
  pub unpaid : {e : Stop} {t : Meter} → stopped e t ≡ inner.work 1 m → stopped (told (Limit e)) t ≡ check_expression s id m
  unpaid h = opened s id m (then_stop _ _ _ (step_off m h))

  module _ {t : Meter} (p : going tt t ≡ inner.work 1 m) where
    pub missing : s.expressions ≤ id → stopped (told Missing) t ≡ check_expression s id m
    missing k = opened s id m (then_on _ _ _ (step_on m p) (rw (le-ltb id s.expressions k)))

    pub at_node : id < s.expressions → {e f : Expression} → e ≡ expression_at s.nodes id → e ≡ f → {y : Run Told Meter (Unit {0})} →
        y ≡ check_node (check_expression s) s.slots f t → y ≡ check_expression s id m
    at_node k q r c = opened s id m (then_on _ _ _ (step_on m p) (rw (lt-ltb id s.expressions k, ← q, r) c))

-- ---- one after another, from the i-th on

module _ {A : Type 0} (f : A → Check) (items : List A) (i : ℕ) (m : Meter) where
  pub each_end : length items ≤ i → going tt m ≡ each f (drop i items) m
  unfolding each
  each_end h = rw (drop_of_length-le items {i = i} h) (pure_is tt m)

  module _ (z : A) (here : z ≡ get_or items i z) (h : i < length items) where
    next : {y : Run Told Meter (Unit {0})} → y ≡ (unit >> f z >> each f (drop (suc i) items)) m → y ≡ each f (drop i items) m
    unfolding each
    next k = k ∙ ap (λ (l : List A). each f l m) (ap (λ (a : A). a ∷ drop (suc i) items) here ∙ sym (drop-cons items i z h))

    pub each_unpaid : {e : Stop} {t : Meter} → stopped e t ≡ inner.work 1 m → stopped (told (Limit e)) t ≡ each f (drop i items) m
    each_unpaid p = next (then_stop _ _ _ (step_off m p))

    module _ {t : Meter} (p : going tt t ≡ inner.work 1 m) where
      pub each_refused : {x : Told} {u : Meter} → stopped x u ≡ f z t → stopped x u ≡ each f (drop i items) m
      each_refused q = next (then_on _ _ _ (step_on m p) (then_stop _ _ _ q))

      pub each_more : {u : Meter} → going tt u ≡ f z t → each f (drop (i + 1) items) u ≡ each f (drop i items) m
      each_more q = next (then_on _ _ _ (step_on m p) (then_on _ _ _ q (rw (add-one i))))

-- ---- in a header

-- a check, from the meter that it left
module _ (c : Check) (s : Store) where
  pub checking_on : {m : Meter} → going tt m ≡ c (meter_of s.budget) → going tt (with_budget (with_meter m s.budget) s) ≡ checking c s
  unfolding through mapped
  checking_on h = rw (← h)

  pub checking_off : {x : Told} {m : Meter} → stopped x m ≡ c (meter_of s.budget) → stopped x (with_budget (with_meter m s.budget) s) ≡ checking c s
  unfolding through mapped
  checking_off h = rw (← h)

-- ---- a head, and all of them

module _ (sc : Scope) (h : Head) (s : Store) (t : List ℕ) where
  pub head_off : {x : Told} {u : Store} → stopped x u ≡ checking (check_value sc h.value) s → stopped x (records u t) ≡ check_head sc h (records s t)
  unfolding check_head
  head_off p = then_stop _ (records s t) _ (through_stop (λ r. r.header) (λ r s. records s r.table) (λ r s. records s r.table) (λ e. e) _ (records s t) p)

  pub head_on : {u : Store} {y : Run Told Records (Unit {0})} → going tt u ≡ checking (check_value sc h.value) s → y ≡ provenance h.argument (records u t) → y ≡ check_head sc h (records s t)
  unfolding check_head
  head_on p q = then_on _ (records s t) _ (through_on (λ r. r.header) (λ r s. records s r.table) (λ r s. records s r.table) (λ e. e) _ (records s t) p) q

-- what a head leaves of the counts that `provenance` asks for
record Counted (n : ℕ) (r r' : Records) : Type 0 where
  positions : r'.header.counts.positions ≡ r.header.counts.positions
  rules : r'.header.counts.rules ≡ r.header.counts.rules
  context : r'.header.context ≡ r.header.context
  few : r'.header.counts.provenance ≤ r.header.counts.provenance + n

-- where a head passes, there is one record more at most
head_left : (sc : Scope) (h : Head) (r : Records) → Ends (λ _ r'. Counted 1 r r') (λ _ _. Unit {0}) (check_head sc h r)
unfolding check_head
head_left sc h r =
    ends_then {P = λ _ r'. Counted 0 r r'} {Q = λ _ _. Unit {0}} _ (provenance h.argument) r
    (ends_through (λ t. t.header) (λ t s. records s t.table) (λ t s. records s t.table) (λ e. e) {P = λ _ s. (s.counts ≡ r.header.counts) × (s.context ≡ r.header.context)} {Q = λ _ _. Unit {0}}
    (checking (check_value sc h.value)) r checked (λ _ s p. record { positions = rw p.0; rules = rw p.0; context = p.1; few = rw p.0 (omega arith) }) (λ _ _ _. tt))
    (λ _ t p. ends_as (provenance_left h.argument t) (λ _ u q. record { positions = rw q.is p.positions; rules = rw q.is p.rules; context = rw q.is p.context; few = omega (arith, p.few, q.few) }) (λ _ _ _. tt))
    (λ _ _ _. tt)
  where
    checked : Ends (λ _ s. (s.counts ≡ r.header.counts) × (s.context ≡ r.header.context)) (λ _ _. Unit {0}) (checking (check_value sc h.value) r.header)
    checked =
        ends_through (λ s. meter_of s.budget) (λ s m. with_budget (with_meter m s.budget) s) (λ s m. with_budget (with_meter m s.budget) s) (λ e. e) {P = λ _ _. Unit {0}} {Q = λ _ _. Unit {0}}
        (check_value sc h.value) r.header (in_some_way _) (λ _ _ _. (refl, refl)) (λ _ _ _. tt)

-- heads one after another, from the i-th on: what is left to check, and what the next one may record
pub record Heading (sc : Scope) (s₀ : Store) (t₀ : List ℕ) (items : List Head) (i : ℕ) (s : Store) (t : List ℕ) : Type 0 where
  pub at : check_heads sc items (records s₀ t₀) ≡ check_heads sc (drop i items) (records s t)
  pub positions : s.counts.positions ≡ s₀.counts.positions
  pub context : s.context ≡ s₀.context
  pub few : s.counts.provenance ≤ s₀.counts.provenance + i

room_left : (c : Context) (n i m k : ℕ) → Room n c k → i < n → m ≤ k + i → Room 1 c m
room_left None n i m k h l f = tt
room_left (Some c) n i m k h l f = omega arith

module _ {sc : Scope} {s₀ : Store} {t₀ : List ℕ} (items : List Head) {i : ℕ} {s : Store} {t : List ℕ} (p : Heading sc s₀ t₀ items i s t) where
  pub heading_all : length items ≤ i → going tt (records s t) ≡ check_heads sc items (records s₀ t₀)
  unfolding check_heads
  heading_all h =
      let k : drop i items ≡ [] = drop_of_length-le items {i = i} h in
      pure_is tt (records s t) ∙ sym (p.at ∙ ap (λ (l : List Head). check_heads sc l (records s t)) k)

  module _ (z d : Head) (e : z ≡ get_or items i d) (l : i < length items) where
    here : check_heads sc items (records s₀ t₀) ≡ (check_head sc z >> check_heads sc (drop (suc i) items)) (records s t)
    unfolding check_heads
    here = p.at ∙ ap (λ (l : List Head). check_heads sc l (records s t)) (drop-cons items i d l ∙ ap (λ (a : Head). a ∷ drop (suc i) items) (sym e))

    pub heading_stop : {x : Told} {u : Store} {t' : List ℕ} → stopped x (records u t') ≡ check_head sc z (records s t) → stopped x (records u t') ≡ check_heads sc items (records s₀ t₀)
    heading_stop k = then_stop (check_head sc z) (records s t) _ k ∙ sym here

    pub heading_more : {u : Store} {t' : List ℕ} → going tt (records u t') ≡ check_head sc z (records s t) → Heading sc s₀ t₀ items (i + 1) u t'
    heading_more {u} g =
        let n = where_going (subst (Ends (λ _ r'. Counted 1 (records s t) r') (λ _ _. Unit {0})) (sym g) (head_left sc z (records s t))) in
        record {
          at = here ∙ sym (then_on (check_head sc z) (records s t) _ g (rw (add-one i)));
          positions = n.positions ∙ p.positions;
          context = n.context ∙ p.context;
          few = omega (arith, n.few, p.few);
        }

-- ---- refusals 1 and 2

-- the lengths of a rule that the port has
pub record Lengthy (r : Rule) : Type 0 where
  pub slots : r.slots ≤ 16
  pub bindings : r.lengths.bindings ≤ 32
  pub guards : r.lengths.guards ≤ 32
  pub heads : r.lengths.heads ≤ 16

pub lengthy : (r : Rule) → shapely r ≡ true → Lengthy r
lengthy r e =
    let f = and_right (leb r.slots 16) _ e in
    let g = and_right (leb r.lengths.bindings 32) _ f in
    let h = and_right (leb r.lengths.guards 32) _ g in
    record {
      slots = leb-true _ _ (and_left (leb r.slots 16) _ e);
      bindings = leb-true _ _ (and_left (leb r.lengths.bindings 32) _ f);
      guards = leb-true _ _ (and_left (leb r.lengths.guards 32) _ g);
      heads = leb-true _ _ (and_left (leb r.lengths.heads 16) _ h);
    }

room_enough : (c : Context) (n : ℕ) → recordable c n ≡ true → Room 16 c n
room_enough None n e = tt
room_enough (Some c) n e = omega (arith, leb-true n size.records_before_call e)

pub roomy : (s : Store) → spacious s ≡ true → (s.counts.rules < 256) × ((s.counts.positions ≤ 256) × Room 16 s.context s.counts.provenance)
roomy s e =
    let f = and_right (ltb s.counts.rules 256) _ e in
    let g = and_right (leb s.counts.expressions 1024) _ f in (
      ltb-true _ _ (and_left (ltb s.counts.rules 256) _ e),
      (leb-true _ _ (and_left (leb s.counts.positions 256) _ g), room_enough s.context s.counts.provenance (and_right (leb s.counts.positions 256) _ g)),
    )

-- ---- what a rule charges

module _ (r : Rule) (s : Store) where
  pub cost_unpaid : (f : Refusal) {u : Store} → stopped (told f) u ≡ billing (work 1) s → stopped (told f) u ≡ billing (cost r) s
  unfolding cost
  cost_unpaid f h = charged_then_stop (work 1) (links (r.slots + r.lengths.bindings + r.lengths.guards + r.lengths.heads + 1)) s h

  pub cost_paid : {u : Store} → going tt u ≡ billing (work 1) s → {y : Run Told Store (Unit {0})} → y ≡ billing (links (r.slots + r.lengths.bindings + r.lengths.guards + r.lengths.heads + 1)) u → y ≡ billing (cost r) s
  unfolding cost
  cost_paid h k = charged_then_on (work 1) (links (r.slots + r.lengths.bindings + r.lengths.guards + r.lengths.heads + 1)) s h k

-- ---- the whole check, and the call

module _ (nodes : List ℕ) (r : Rule) (s : Store) (t : List ℕ) where
  pub rule_body : {x : Told} {u : Store} → stopped x u ≡ checking (check_body s.counts.positions (scope_of nodes s r) r) s → stopped x (records u t) ≡ check_rule nodes r (records s t)
  unfolding check_rule
  rule_body p = then_stop _ (records s t) _ (through_stop (λ r. r.header) (λ r s. records s r.table) (λ r s. records s r.table) (λ e. e) _ (records s t) p)

  pub rule_heads : {u : Store} {y : Run Told Records (Unit {0})} → going tt u ≡ checking (check_body s.counts.positions (scope_of nodes s r) r) s →
      y ≡ check_heads (scope_of nodes s r) (heads_of r) (records u t) → y ≡ check_rule nodes r (records s t)
  unfolding check_rule
  rule_heads p q = then_on _ (records s t) _ (through_on (λ r. r.header) (λ r s. records s r.table) (λ r s. records s r.table) (λ e. e) _ (records s t) p) q

module _ (nodes : List ℕ) (r : Rule) (s : Store) (rules p : List ℕ) (ea : sized (length nodes) (length rules) (length p) ≡ true) (eb : shapely r ≡ true) (ec : admits Building s.phase ≡ true) (ed : spacious s ≡ true) where
  pub call_unpaid : {x : Told} {u : Store} → stopped x u ≡ billing (cost r) s → stopped x (tables u rules p) ≡ rule_call nodes r (tables s rules p)
  unfolding rule_call
  call_unpaid h =
      rw (ea, eb, ec, ed)
      (then_stop (in_header (billing (cost r))) (tables s rules p) _
      (through_stop (λ t. t.header) (λ t s. tables s t.rules t.records) (λ t s. tables s t.rules t.records) (λ e. e) (billing (cost r)) (tables s rules p) h))

  module _ {u : Store} (h : going tt u ≡ billing (cost r) s) where
    paid : {z : Run Told Tables ℕ} → z ≡ (in_records (check_rule nodes r) >> add_rule r) (tables u rules p) → z ≡ rule_call nodes r (tables s rules p)
    unfolding rule_call
    paid k =
        rw (ea, eb, ec, ed)
        (then_on (in_header (billing (cost r))) (tables s rules p) _
        (through_on (λ t. t.header) (λ t s. tables s t.rules t.records) (λ t s. tables s t.rules t.records) (λ e. e) (billing (cost r)) (tables s rules p) h) k)

    pub call_refused : {x : Told} {v : Store} {p' : List ℕ} → stopped x (records v p') ≡ check_rule nodes r (records u p) → stopped x (tables v rules p') ≡ rule_call nodes r (tables s rules p)
    call_refused k =
        paid
        (then_stop (in_records (check_rule nodes r)) (tables u rules p) _
        (through_stop (λ t. records t.header t.records) (λ t q. tables q.header t.rules q.table) (λ t q. tables q.header t.rules q.table) (λ e. e) (check_rule nodes r) (tables u rules p) k))

    pub call_id : {v : Store} {p' : List ℕ} → going tt (records v p') ≡ check_rule nodes r (records u p) →
        going v.counts.rules (tables (with_rules (v.counts.rules + 1) v) (put_rule rules v.counts.rules r v.context) p') ≡ rule_call nodes r (tables s rules p)
    call_id k =
        paid
        (then_on (in_records (check_rule nodes r)) (tables u rules p) _
        (through_on (λ t. records t.header t.records) (λ t q. tables q.header t.rules q.table) (λ t q. tables q.header t.rules q.table) (λ e. e) (check_rule nodes r) (tables u rules p) k)
        refl)

-- a whole check leaves the count of rules and the context
abbrev Kept : Records → Records → Type 0
Kept r r' = (r'.header.counts.rules ≡ r.header.counts.rules) × (r'.header.context ≡ r.header.context)

heads_kept : (sc : Scope) (l : List Head) (r : Records) → Ends (λ _ r'. Kept r r') (λ _ _. Unit {0}) (check_heads sc l r)
unfolding check_heads
heads_kept sc [] r = ends_pure tt r (refl, refl)
heads_kept sc (h ∷ l) r =
    ends_then {P = λ _ r'. Kept r r'} {Q = λ _ _. Unit {0}} (check_head sc h) (check_heads sc l) r
    (ends_as (head_left sc h r) (λ _ r' p. (p.rules, p.context)) (λ _ _ _. tt))
    (λ _ t p. ends_as (heads_kept sc l t) (λ _ u q. (q.0 ∙ p.0, q.1 ∙ p.1)) (λ _ _ _. tt))
    (λ _ _ _. tt)

rule_left : (nodes : List ℕ) (r : Rule) (t : Records) → Ends (λ _ u. Kept t u) (λ _ _. Unit {0}) (check_rule nodes r t)
unfolding check_rule
rule_left nodes r t =
    ends_then {P = λ _ u. Kept t u} {Q = λ _ _. Unit {0}} _ (check_heads (scope_of nodes t.header r) (heads_of r)) t
    (ends_through (λ u. u.header) (λ u s. records s u.table) (λ u s. records s u.table) (λ e. e) {P = λ _ s. (s.counts.rules ≡ t.header.counts.rules) × (s.context ≡ t.header.context)} {Q = λ _ _. Unit {0}}
    (checking body) t
    (ends_through (λ s. meter_of s.budget) (λ s m. with_budget (with_meter m s.budget) s) (λ s m. with_budget (with_meter m s.budget) s) (λ e. e) {P = λ _ _. Unit {0}} {Q = λ _ _. Unit {0}}
    body t.header (in_some_way _) (λ _ _ _. (refl, refl)) (λ _ _ _. tt))
    (λ _ s p. p) (λ _ _ _. tt))
    (λ _ u p. ends_as (heads_kept (scope_of nodes t.header r) (heads_of r) u) (λ _ v q. (q.0 ∙ p.0, q.1 ∙ p.1)) (λ _ _ _. tt))
    (λ _ _ _. tt)
  where
    body : Check
    body = check_body t.header.counts.positions (scope_of nodes t.header r) r

pub rule_kept : (nodes : List ℕ) (r : Rule) (s : Store) (t : List ℕ) {v : Store} {t' : List ℕ} → going tt (records v t') ≡ check_rule nodes r (records s t) →
    (v.counts.rules ≡ s.counts.rules) × (v.context ≡ s.context)
rule_kept nodes r s t e = where_going (subst (Ends (λ _ u. Kept (records s t) u) (λ _ _. Unit {0})) (sym e) (rule_left nodes r (records s t)))
