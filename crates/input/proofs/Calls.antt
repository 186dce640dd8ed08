-- Each call keeps what holds of a store, whichever way it ends.
use Rattle.sizes.specs.Sizes as size
use Prim.Native.Nat.{ℕ, ◌+◌, ◌^◌, ◌≤◌, ◌<◌}
use native.Mathlib.Omega.{arith}
use mathlib.Core.Path.{◌≡◌, refl, ap, ◌∙◌}
use mathlib.Core.Logic.{◌⊎◌, inl, inr}
use mathlib.Core.Bool.{true}
use lib.Dec.{leb, ltb, eqb}
use lib.ListN.{length}
use Rattle.limits.specs.Refusal.{Told}
use Rattle.limits.specs.Metered.{Run}
use Rattle.limits.proofs.Ends.{Ends, completes, stops, ends_pure, ends_test, ends_as, ends_both, in_some_way}
use Rattle.keys.specs.Key.{Key, number, name}
use Rattle.nodes.specs.declared.Expression.{Expression}
use Rattle.rules.proofs.RuleLaws.{SmallContext}
use Rattle.limits.specs.Context.{Context}
use Rattle.std.proofs.Common.{Some}
use Rattle.store.specs.declared.Store.{Store}
use Rattle.store.specs.Store.{with_context}
use Rattle.store.specs.Calls.{arity_of, first_argument, context_call, work_call, argument_call}
use Rattle.store.proofs.Opened.{open?}
use Rattle.store.proofs.Frame.{spends_work, Charging, Limited, pays}
use Rattle.constants.specs.Constant.{bytes_of, spacious, constant_call}
use Rattle.constants.specs.Constant as constants
use Rattle.constants.proofs.CodeLaws.{room_yes}
use Rattle.constants.proofs.Kept.{Accepted, Declined}
use Rattle.constants.proofs.Kept as kept
use Rattle.expressions.specs.Expression.{expression_call}
use Rattle.expressions.specs.Expression as expressions
use Rattle.expressions.proofs.Nested.{nested_more_constants, expression_ends}
use Rattle.expressions.proofs.Nested as nested
use Rattle.seeds.proofs.Beside.{standing_on}
use Rattle.input.specs.Input.{Tables, Call, done, id, TypedKey, with_header, for_constant, from_constant, for_expression, from_expression, call}
use Rattle.input.specs.Input as input
use Rattle.input.proofs.Reached.{Reached}
use Rattle.input.proofs.Left.{on_ends_lem, Steady, steady_none, steady_charge, Leaves, Refused, early, Beyond, beyond_none, left_reached, given_more, given_few, numbers_given, rules_more, Goes, goes}

-- ---- what a call leaves

abbrev pub Keeps : Call → Tables → Type 0
Keeps c t = Ends (λ _ u. Goes t u) (Refused t) (call c t)

leaves_header : {t : Tables} {s : Store} → Steady t.header s → Leaves t (with_header s t)
leaves_header h = record { predicates = refl; names = refl; constants = refl; order = refl; nodes = refl; seeds = refl; rules = refl; header = h }

-- a call that is turned down at once
pub refused_none : {t : Tables} → Reached t → (e : Told) → Refused t e t
refused_none {t} r e = record { reached = r; leaves = leaves_header (steady_none t.header); stay = λ z h. h; untouched = λ _. refl }

module _ {t : Tables} (r : Reached t) {s : Store} (c : Charging t.header s) where
  charge_beyond : Beyond t (with_header s t)
  charge_beyond = beyond_none r refl refl (rw c.is) (rw c.is)

  charge_reached : Goes t (with_header s t)
  charge_reached = record { reached = left_reached r (leaves_header (steady_charge c)) charge_beyond; stay = charge_beyond.old }

  charge_refused : (e : Told) → Limited e → Refused t e (with_header s t)
  charge_refused e l = record { reached = charge_reached.reached; leaves = leaves_header (steady_charge c); stay = charge_beyond.old; untouched = λ h. absurd (omega (arith, early h)) }

-- ---- `context`, `work` and `argument`

context_reached : {t : Tables} → Reached t → (c : Context) → SmallContext c → Goes t (with_header (with_context c t.header) t)
context_reached {t} r c h =
    goes r (record { names = refl; constants = refl; order = refl; nodes = refl; count = refl; keys = refl; expressions = refl; limits = refl }) (beyond_none r refl refl refl refl)
    record {
      predicates = r.sized.predicates;
      seeds = r.sized.seeds;
      cells = r.sized.rules;
      few_predicates = r.counted.predicates;
      few_positions = r.counted.positions;
      few_rules = r.counted.rules;
      context = h;
      laid = r.laid;
      standing = record { seeded = r.standing.seeded; live = r.standing.live; lost = r.standing.lost };
      rules = r.rules;
    }

pub context_keeps : (c : ℕ) (t : Tables) → c < 2 ^ 32 → Reached t → Keeps (input.context c) t
unfolding call context_call
context_keeps c t h r =
    on_ends_lem (λ u. u.header) with_header (λ _. done) {P = λ _ s. Goes t (with_header s t)} {Q = λ e s. Refused t e (with_header s t)} (context_call c) t
    (ends_test (open? t.header) (λ _. completes (context_reached r (Some c) h)) (λ _. stops (refused_none r _)))
    (λ _ s h. h)
    (λ e s h. h)

pub work_keeps : (n : ℕ) (t : Tables) → Reached t → Keeps (input.work n) t
unfolding call work_call
work_keeps n t r =
    on_ends_lem (λ u. u.header) with_header (λ _. done) {P = λ _ s. Goes t (with_header s t)} {Q = λ e s. Refused t e (with_header s t)} (work_call n) t
    (ends_test (open? t.header)
    (λ _. ends_as (pays (spends_work n) t.header) (λ _ s c. charge_reached r c) (λ e s c. charge_refused r c.1 e c.0))
    (λ _. stops (refused_none r _)))
    (λ _ s h. h)
    (λ e s h. h)

pub argument_keeps : (p i : ℕ) (t : Tables) → Reached t → Keeps (input.argument p i) t
unfolding call argument_call
argument_keeps p i t r =
    on_ends_lem (λ u. u.header) with_header id {P = λ _ s. Goes t (with_header s t)} {Q = λ e s. Refused t e (with_header s t)} (argument_call p i t.predicates) t
    (ends_test (eqb (length t.predicates) size.predicate_cells)
    (λ _.
    ends_test (open? t.header)
    (λ _.
    ends_test (leb t.header.counts.predicates 64)
    (λ _.
    ends_test (ltb p t.header.counts.predicates)
    (λ _. ends_test (ltb i (arity_of t.predicates p)) (λ _. ends_pure (first_argument t.predicates p + i) t.header (record { reached = r; stay = λ z h. h })) (λ _. stops (refused_none r _)))
    (λ _. stops (refused_none r _)))
    (λ _. stops (refused_none r _)))
    (λ _. stops (refused_none r _)))
    (λ _. stops (refused_none r _)))
    (λ _ s h. h)
    (λ e s h. h)

-- ---- room that a call found, where it changed anything

abbrev pub Roomy : {S A : Type 0} → Type 0 → S → Run Told S A → Type 0
Roomy R t x = Ends (λ _ _. R) (λ _ u. (u ≡ t) ⊎ R) x

pub roomy : {S A R : Type 0} {t : S} {x : Run Told S A} → R → Roomy R t x
roomy {x} r = ends_as (in_some_way x) (λ _ _ _. r) (λ _ _ _. inr r)

-- ---- `constant`

constant_room : (k : Key) (t : constants.Tables) → Roomy (spacious t.header.counts ≡ true) t (constant_call k t)
unfolding constant_call
constant_room k t =
    ends_test (constants.sized (length t.names) (length t.constants) (length t.order) (length t.thresholds))
    (λ _.
    ends_test (leb (length (bytes_of k)) 64)
    (λ _. ends_test (open? t.header) (λ _. ends_test (spacious t.header.counts) (λ h. roomy h) (λ _. stops (inl refl))) (λ _. stops (inl refl)))
    (λ _. stops (inl refl)))
    (λ _. stops (inl refl))

pub typed_key : (k : Key) → TypedKey k → kept.Typed k
typed_key (number v) h = h
typed_key (name s) h = tt

module _ {t : Tables} (r : Reached t) (k : Key) where
  constant_reached : TypedKey k → {i : ℕ} {u : constants.Tables} → Accepted k (for_constant t) i u → spacious t.header.counts ≡ true → Reached (from_constant u t)
  constant_reached typed {i} {u} a room =
      let n = room_yes t.header.counts room in
      let g = a.constants in
      let h = a.header in
      let l : u.header.counts.constants ≤ 1024 = omega (arith, n.0, given_few g) in
      record {
        sized = record {
          predicates = r.sized.predicates;
          names = g.names_size ∙ r.sized.names;
          constants = g.cells_size ∙ r.sized.constants;
          order = g.order_size ∙ r.sized.order;
          thresholds = a.thresholds.size ∙ r.sized.thresholds;
          nodes = r.sized.nodes;
          seeds = r.sized.seeds;
          records = r.sized.records;
          rules = r.sized.rules;
        };
        counted = record {
          predicates = rw h.predicates r.counted.predicates;
          positions = rw h.positions r.counted.positions;
          constants = l;
          keys = omega (arith, l, g.keyed.fewer);
          expressions = rw h.expressions r.counted.expressions;
          thresholds = omega (arith, n.1.1, a.thresholds.most);
          provenance = rw h.provenance r.counted.provenance;
          rules = rw h.rules r.counted.rules;
        };
        narrow = rw h.spent.limits r.narrow;
        context = rw h.context r.context;
        laid = rw (h.predicates, h.positions) r.laid;
        keyed = g.keyed;
        rises = a.thresholds.rises;
        numbers = numbers_given g typed a.thresholds a.surrounds r.numbers;
        nested = rw h.expressions (nested_more_constants (given_more g) r.nested);
        standing = standing_on (given_more g) g.kinds h.positions h.spent.limits h.spent.entries h.spent.widened r.standing;
        rules = rw (h.rules, h.positions, h.expressions) r.rules;
      }

  constant_declined : {e : Told} {u : constants.Tables} → Declined k (for_constant t) e u → (u ≡ for_constant t) ⊎ (spacious t.header.counts ≡ true) → Refused t e (from_constant u t)
  constant_declined {e} {u} d room = record { reached = left_reached r leaves beyond; leaves = leaves; stay = beyond.old; untouched = λ h. ap (λ (v : constants.Tables). from_constant v t) (d.untouched h) }
    where
      leaves : Leaves t (from_constant u t)
      leaves =
          let h = d.still.header in record {
            predicates = refl;
            names = d.names;
            constants = d.constants;
            order = d.order;
            nodes = refl;
            seeds = refl;
            rules = refl;
            header = record {
              predicates = h.predicates;
              positions = h.positions;
              constants = d.still.constants;
              keys = d.still.keys;
              expressions = h.expressions;
              rules = h.rules;
              context = h.context;
              phase = h.phase;
              spent = h.spent;
            };
          }

      few : (u ≡ for_constant t) ⊎ (spacious t.header.counts ≡ true) → u.header.counts.thresholds ≤ size.thresholds_before_run
      few (inl e) = rw e r.counted.thresholds
      few (inr h) = omega (arith, (room_yes t.header.counts h).1.1, d.still.thresholds.most)

      beyond : Beyond t (from_constant u t)
      beyond = record {
        rises = d.still.thresholds.rises;
        old = d.still.thresholds.old;
        marks = d.still.thresholds.size;
        few_marks = few room;
        records = refl;
        few_records = rw d.still.header.provenance r.counted.provenance;
      }

pub constant_keeps : (k : Key) (t : Tables) → TypedKey k → Reached t → Keeps (input.constant k) t
unfolding call
constant_keeps k t typed r =
    on_ends_lem for_constant from_constant id (constant_call k) t (ends_both (kept.constant_keeps k (typed_key k typed) (for_constant t) r.keyed r.rises) (constant_room k (for_constant t)))
    (λ i u p. record { reached = constant_reached r k typed p.0 p.1; stay = p.0.thresholds.old })
    (λ e u p. constant_declined r k p.0 p.1)

-- ---- `expression`

module _ {t : Tables} (r : Reached t) (e : Expression) where
  expression_reached : {i : ℕ} {u : expressions.Tables} → nested.Accepted e (for_expression t) i u → Reached (from_expression u t)
  expression_reached {i} {u} a =
      let h = a.is in
      record {
        sized = record {
          predicates = r.sized.predicates;
          names = r.sized.names;
          constants = r.sized.constants;
          order = r.sized.order;
          thresholds = r.sized.thresholds;
          nodes = a.size ∙ r.sized.nodes;
          seeds = r.sized.seeds;
          records = r.sized.records;
          rules = r.sized.rules;
        };
        counted = record {
          predicates = rw h r.counted.predicates;
          positions = rw h r.counted.positions;
          constants = rw h r.counted.constants;
          keys = rw h r.counted.keys;
          expressions = a.fits;
          thresholds = rw h r.counted.thresholds;
          provenance = rw h r.counted.provenance;
          rules = rw h r.counted.rules;
        };
        narrow = rw (h, a.spent.limits) r.narrow;
        context = rw h r.context;
        laid = rw h r.laid;
        keyed = rw h r.keyed;
        rises = rw h r.rises;
        numbers = rw h r.numbers;
        nested = a.nested;
        standing = rw h record {
          seeded = rw a.spent.limits r.standing.seeded;
          live = rw a.spent.entries r.standing.live;
          lost = rw a.spent.widened r.standing.lost;
        };
        rules = rw (ap (λ (s : Store). s.counts.rules) h, ap (λ (s : Store). s.counts.positions) h) (rules_more (omega arith) a.grows a.expressions r.rules);
      }

  expression_refused : {x : Told} {u : expressions.Tables} → nested.Refused (for_expression t) x u → Refused t x (from_expression u t)
  expression_refused {x} {u} d = record { reached = left_reached r leaves (beyond_none r refl refl (rw d.spending.is) (rw d.spending.is)); leaves = leaves; stay = λ z h. rw d.spending.is h; untouched = λ h. ap (λ (v : expressions.Tables). from_expression v t) (d.early (early h)) }
    where
      leaves : Leaves t (from_expression u t)
      leaves = rw d.spending.is record {
        predicates = refl;
        names = refl;
        constants = refl;
        order = refl;
        nodes = refl;
        seeds = refl;
        rules = refl;
        header = record { predicates = refl; positions = refl; constants = refl; keys = refl; expressions = refl; rules = refl; context = refl; phase = refl; spent = d.spending.spent };
      }

pub expression_keeps : (e : Expression) (t : Tables) → Reached t → Keeps (input.expression e) t
unfolding call
expression_keeps e t r =
    on_ends_lem for_expression from_expression id (expression_call e) t (expression_ends e (for_expression t) r.nested) (λ i u p. record { reached = expression_reached r e p; stay = λ z h. rw p.is h }) (λ x u p. expression_refused r e p)
