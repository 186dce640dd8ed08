-- The calls that give no id to a constant or an expression keep the ties: `context`, `work`, `argument`, `predicate`, the seeds and `rule`.
use Rattle.sizes.specs.Sizes as size
use Prim.Native.Nat.{ℕ, ◌+◌, ◌^◌, ◌≤◌, ◌<◌}
use native.Mathlib.Omega.{arith}
use native.Mathlib.Decide.{ℕ_discrete}
use mathlib.Core.Path.{◌≡◌, refl, sym, ap, subst, ◌∙◌}
use mathlib.Core.Logic.{◌⊎◌, inl, inr, ⊎_elim}
use mathlib.Core.Bool.{◌&&◌}
use mathlib.Core.List.Memᴰ
use mathlib.Core.List.{List, [], ◌∷◌, ◌++◌, map, Memᴰ}
use mathlib.Core.Option.{Option, some, none}
use lib.Dec.{leb, ltb, eqb}
use lib.IntN.{ℤ}
use lib.ListN.{length}
use lib.Signed.{le_z}
use Rattle.integers.specs.Order.{Number, Between}
use Rattle.integers.specs.Lists.{All}
use Rattle.integers.proofs.Tests.{by_cond}
use Rattle.limits.specs.declared.Refusal.TheVariants.{Limit}
use Rattle.limits.specs.Refusal.{Told, told}
use Rattle.limits.specs.Metered.{Metered}
use Rattle.limits.specs.Budget.{work}
use Rattle.limits.proofs.Ends.{Ends, completes, stops, ends_as, ends_both, ends_pure, ends_test, ends_then, ends_through, in_some_way}
use Rattle.interval.specs.declared.Bound.{Bound}
use Rattle.interval.specs.declared.Constant.{Constant}
use Rattle.interval.specs.declared.Constant.TheVariants.{Number as number, Name, Large}
use Rattle.interval.specs.declared.Interval.TheVariants.{Bounded}
use Rattle.interval.specs.Bound.{constant_bound}
use Rattle.interval.proofs.Members.{constant_number_lem}
use Rattle.lists.specs.Lists.{union}
use Rattle.lists.proofs.ListLaws.{room}
use Rattle.lists.proofs.Unions.{union_in}
use Rattle.lattice.specs.Value.{Value}
use Rattle.lattice.specs.Constants.{constant_at}
use Rattle.lattice.specs.Lattice.{numeric}
use Rattle.lattice.proofs.Joins.{joined_list, joined_value}
use Rattle.lattice.proofs.Members.{InBound, Listed, in_hull}
use Rattle.rows.specs.Row.{value_at}
use Rattle.keys.specs.Key.{Key, name}
use Rattle.keys.specs.Key as keys
use Rattle.store.specs.declared.Counts.{Counts}
use Rattle.store.specs.declared.Store.{Store}
use Rattle.store.specs.Store.{with_budget, with_thresholds}
use Rattle.store.specs.Calls.{billing, Marks, marks, entering, first_argument, arity_of, context_call, work_call, argument_call, predicate_call}
use Rattle.store.proofs.Opened.{open?}
use Rattle.store.specs.Calls as store
use Rattle.store.proofs.Frame.{spends_work, pays}
use Rattle.thresholds.specs.Thresholds.{entry, around}
use Rattle.thresholds.proofs.Numbers.{around_numbers}
use Rattle.rules.specs.declared.Rule.{Rule}
use Rattle.rules.specs.Read.{bindings_at, guards_at, heads_at}
use Rattle.rules.proofs.RuleLaws.{Row}
use Rattle.seeds.specs.Seed.{seed_ends, seed_value_call, seed_interval_call}
use Rattle.seeds.specs.Seed as seeds
use Rattle.seeds.proofs.Seeded.{listed, constant_seed}
use Rattle.seeds.proofs.Kept.{ValueTaken, seed_value_kept}
use Rattle.seeds.proofs.KeptInterval.{IntervalTaken, seed_interval_kept}
use Rattle.seeds.proofs.KeptPredicate.{PredicateTaken, predicate_kept}
use Rattle.producers.specs.Producer.{rule_call}
use Rattle.producers.specs.Producer as producer
use Rattle.producers.proofs.Kept.{rule_ends}
use Rattle.producers.proofs.Kept as producers
use Rattle.input.specs.Input.{Tables, Call, done, id, Whole, with_header, for_predicate, from_predicate, for_value, from_value, for_interval, from_interval, for_rule, from_rule, call}
use Rattle.input.specs.Input as input
use Rattle.input.proofs.Reached.{Ruled, Reached}
use Rattle.input.proofs.Left.{on_ends_lem, Leaves, number_known}
use Rattle.input.proofs.Calls.{Keeps, context_keeps, work_keeps, argument_keeps}
use Rattle.input.proofs.SeedCalls.{predicate_keeps, seed_value_keeps, seed_interval_keeps}
use Rattle.input.proofs.RuleCalls.{rule_keeps}
use Rattle.soundness.specs.Plain.{ProperKey}
use Rattle.soundness.specs.Tied.{plain_binding, plain_guard, plain_head, Constants}
use Rattle.soundness.specs.Run.{Accepted, accepted, Seed, one, range, PlainRule, key_for, tree_at, rule_of, seed_of, SeedGives, said}
use Rattle.soundness.proofs.Lies.{number_of, Kept, Lies, numeric_lies}
use Rattle.soundness.proofs.Grounded.{Stored, Inside}
use Rattle.soundness.proofs.Ties.{Tied, Same, with_rows, tied_rows, stored_rows, inside_rows, Still, tied_still}

-- ---- what is left to show of a call: a refusal changes nothing that the ties speak of but thresholds

left_still : {t u : Tables} → Leaves t u → Still t u
left_still h = record {
  names = h.names;
  constants = h.constants;
  nodes = h.nodes;
  rules = h.rules;
  seeds = h.seeds;
  constant_count = h.header.constants;
  expression_count = h.header.expressions;
  rule_count = h.header.rules;
  position_count = h.header.positions;
}

-- accepted, the ties hold of any tables that are reached
abbrev Leads : Accepted → Call → Tables → Type 0
Leads p c t = Ends (λ r u. Reached u → Tied (said p c r) u) (λ _ u. All Number u.thresholds) (call c t)

abbrev Ties : Accepted → Call → Tables → Type 0
Ties p c t = Ends (λ r u. Tied (said p c r) u) (λ _ u. Tied p u) (call c t)

leads_ties : (p : Accepted) (c : Call) (t : Tables) → Tied p t → Keeps c t → Leads p c t → Ties p c t
leads_ties p c t h k s = ends_as (ends_both k s) (λ r u x. x.1 x.0.reached) (λ e u x. tied_still (left_still x.0.leaves) x.0.reached x.1 h)

-- ---- `context`, `work` and `argument`: they change the header alone, and none of its counts

header_still : {t : Tables} {s : Store} → s.counts ≡ t.header.counts → Still t (with_header s t)
header_still e = record {
  names = refl;
  constants = refl;
  nodes = refl;
  rules = refl;
  seeds = refl;
  constant_count = ap (λ (c : Counts). c.constants) e;
  expression_count = ap (λ (c : Counts). c.expressions) e;
  rule_count = ap (λ (c : Counts). c.rules) e;
  position_count = ap (λ (c : Counts). c.positions) e;
}

pub context_ties : (c : ℕ) → c < 2 ^ 32 → (p : Accepted) (t : Tables) → Tied p t → Ends (λ r u. Tied (said p (input.context c) r) u) (λ _ u. Tied p u) (call (input.context c) t)
unfolding call context_call
context_ties c l p t h =
    leads_ties p (input.context c) t h (context_keeps c t l h.reached)
    (on_ends_lem (λ u. u.header) with_header (λ _. done) {P = λ _ s. s.counts ≡ t.header.counts} {Q = λ _ _. Unit {0}} (context_call c) t (ends_test (open? t.header) (λ _. completes refl) (λ _. stops tt))
    (λ _ s e r. tied_still (header_still e) r h.numbers h) (λ _ s _. h.numbers))

pub work_ties : (n : ℕ) (p : Accepted) (t : Tables) → Tied p t → Ends (λ r u. Tied (said p (input.work n) r) u) (λ _ u. Tied p u) (call (input.work n) t)
unfolding call work_call
work_ties n p t h =
    leads_ties p (input.work n) t h (work_keeps n t h.reached)
    (on_ends_lem (λ u. u.header) with_header (λ _. done) {P = λ _ s. s.counts ≡ t.header.counts} {Q = λ _ _. Unit {0}} (work_call n) t
    (ends_test (open? t.header) (λ _. ends_as (pays (spends_work n) t.header) (λ _ s c. ap (λ (x : Store). x.counts) c.is) (λ _ _ _. tt)) (λ _. stops tt))
    (λ _ s e r. tied_still (header_still e) r h.numbers h) (λ _ s _. h.numbers))

pub argument_ties : (q i : ℕ) (p : Accepted) (t : Tables) → Tied p t → Ends (λ r u. Tied (said p (input.argument q i) r) u) (λ _ u. Tied p u) (call (input.argument q i) t)
unfolding call argument_call
argument_ties q i p t h =
    leads_ties p (input.argument q i) t h (argument_keeps q i t h.reached)
    (on_ends_lem (λ u. u.header) with_header id {P = λ _ s. s.counts ≡ t.header.counts} {Q = λ _ _. Unit {0}} (argument_call q i t.predicates) t
    (ends_test (eqb (length t.predicates) size.predicate_cells)
    (λ _.
    ends_test (open? t.header)
    (λ _.
    ends_test (leb t.header.counts.predicates 64)
    (λ _.
    ends_test (ltb q t.header.counts.predicates)
    (λ _. ends_test (ltb i (arity_of t.predicates q)) (λ _. ends_pure (first_argument t.predicates q + i) t.header refl) (λ _. stops tt))
    (λ _. stops tt))
    (λ _. stops tt))
    (λ _. stops tt))
    (λ _. stops tt))
    (λ _ s e r. tied_still (header_still e) r h.numbers h) (λ _ s _. h.numbers))

-- ---- `predicate`: the older arguments keep their seeds

predicate_leads : (arity : ℕ) (p : Accepted) (t : Tables) → Tied p t → {i : ℕ} {u : store.Tables} → PredicateTaken t.constants arity i (for_predicate t) u → Reached (from_predicate u t) → Tied p (from_predicate u t)
predicate_leads arity p t h {i} {u} a r =
    tied_rows h same p.seeds p.rules r h.numbers (record { at = λ x m. stored_rows h same p.seeds p.rules refl (rw a.header) (h.rules.at x m) })
    (record { at = λ b k x. let z = h.seeds.at b k (record { seed = x.seed; among = x.among; gives = x.gives }) in inside_rows h same p.seeds p.rules (rw a.header (omega arith)) (a.old b z.below) z })
  where
    same : Same t (from_predicate u t)
    same = record { names = refl; constants = refl; nodes = refl; constant_count = rw a.header; expression_count = rw a.header }

pub predicate_ties : (arity : ℕ) (p : Accepted) (t : Tables) → Tied p t → Ends (λ r u. Tied (said p (input.predicate arity) r) u) (λ _ u. Tied p u) (call (input.predicate arity) t)
unfolding call
predicate_ties arity p t h =
    leads_ties p (input.predicate arity) t h (predicate_keeps arity t h.reached)
    (on_ends_lem for_predicate from_predicate id (predicate_call arity) t (predicate_kept t.constants arity (for_predicate t) h.reached.standing)
    (λ i u a r. predicate_leads arity p t h a r) (λ _ _ _. h.numbers))

-- ---- what lies in a seed

module _ (key : ℕ → Option Key) (cells : List ℕ) where
  joined_listed : (width : ℕ) (k : Key) (x y : Option (List ℕ)) → Listed (Kept key cells) k x ⊎ Listed (Kept key cells) k y → Listed (Kept key cells) k (joined_list width x y)
  joined_listed width k none y h = tt
  joined_listed width k (some x) none h = tt
  joined_listed width k (some x) (some y) h =
      by_cond (Listed (Kept key cells) k) (leb (length (union x y)) (room width))
      (λ _.
      ⊎_elim (λ (a : Listed (Kept key cells) k (some x)). (a.0, (union_in a.0 x y).1 (inl a.1), a.2))
      (λ (a : Listed (Kept key cells) k (some y)). (a.0, (union_in a.0 x y).1 (inr a.1), a.2)) h)
      (λ _. tt)

  -- a join has what either has
  joined_lies : (width : ℕ) (u v : Value) (k : Key) → Lies key cells u k ⊎ Lies key cells v k → Lies key cells (joined_value width u v) k
  joined_lies width u v k h = record {
    bound = in_hull (number_of k) u.bound v.bound (⊎_elim (λ a. inl a.bound) (λ a. inr a.bound) h);
    list = joined_listed width k u.values v.values (⊎_elim (λ a. inl a.list) (λ a. inr a.list) h);
  }

  -- the value of a constant has its key
  module _ (c : Constants key cells) (i width : ℕ) (k : Key) (e : key i ≡ some k) where
    own_bound : InBound (number_of k) (constant_bound (constant_at cells i))
    own_bound = go k e
      where
        go : (k : Key) → key i ≡ some k → InBound (number_of k) (constant_bound (constant_at cells i))
        go (keys.number z) f = rw (c.numbers i z f) ((constant_number_lem z z).1 refl)
        go (name s) f = ⊎_elim (λ a. rw a tt) (λ a. rw a tt) (c.names i s f)

    listed_lies : (b : Bound) → InBound (number_of k) b → (constant_at cells i ≡ Large → ⊥) → Lies key cells (listed i b width) k
    listed_lies b h n = by_cond (λ v. Lies key cells v k) (leb 1 width) (λ _. record { bound = h; list = (i, Memᴰ.head refl, (e, n)) }) (λ _. record { bound = h; list = tt })

    seed_lies : Lies key cells (constant_seed i (constant_at cells i) width) k
    seed_lies = go (constant_at cells i) refl own_bound
      where
        go : (d : Constant) → constant_at cells i ≡ d → InBound (number_of k) (constant_bound d) → Lies key cells (constant_seed i d width) k
        go (number z) f h = listed_lies _ h (λ g. let w : number z ≡ Large = sym f ∙ g in let y : ◌≡◌ {A = ℕ} 0 1 = cc in omega arith)
        go Name f h = listed_lies _ h (λ g. let w : Name ≡ Large = sym f ∙ g in let y : ◌≡◌ {A = ℕ} 0 1 = cc in omega arith)
        go Large f h = record { bound = h; list = tt }

-- ---- a value joined to the seed of an argument

record Sown (a : ℕ) (v : Value) (t u : Tables) : Type 0 where
  same : Same t u
  rules : u.rules ≡ t.rules
  rule_count : u.header.counts.rules ≡ t.header.counts.rules
  position_count : u.header.counts.positions ≡ t.header.counts.positions
  inside : a < t.header.counts.positions
  width : ℕ
  joined : value_at u.seeds a ≡ joined_value width (value_at t.seeds a) v
  others : (i : ℕ) → (i ≡ a → ⊥) → value_at u.seeds i ≡ value_at t.seeds i

module _ {p : Accepted} {t u : Tables} {a : ℕ} {v : Value} (h : Tied p t) (w : Sown a v t u) (seeds : List Seed) where
  abbrev after : Accepted
  after = with_rows p seeds p.rules

  -- what lay in a seed lies in it
  sown_old : (b : ℕ) (k : Key) → Inside p t t.seeds b k → Inside after u u.seeds b k
  sown_old b k i = elim (ℕ_discrete b a) [
    | yes e ↦ record {
      below = omega (arith, i.below, w.position_count);
      proper = i.proper;
      lies = rw (e, w.joined, w.same.constants) (joined_lies (key_for p) t.constants w.width (value_at t.seeds a) v k (inl (rw e at i.lies)));
    }
    | no d ↦ inside_rows h w.same seeds p.rules (omega (arith, w.position_count)) (w.others b d) i
  ]

  -- and so does what lies in the value
  sown_new : (b : ℕ) (k : Key) → b ≡ a → ProperKey k → Lies (key_for p) t.constants v k → Inside after u u.seeds b k
  sown_new b k e q i = record {
    below = omega (arith, w.inside, w.position_count);
    proper = q;
    lies = rw (e, w.joined, w.same.constants) (joined_lies (key_for p) t.constants w.width (value_at t.seeds a) v k (inr i));
  }

sown_tied : {p : Accepted} {t u : Tables} {a : ℕ} {v : Value} (h : Tied p t) → Sown a v t u → (more : List Seed) →
    ((s : Seed) (b : ℕ) (k : Key) → Memᴰ s more → SeedGives s b k → (b ≡ a) × (ProperKey k × Lies (key_for p) t.constants v k)) →
    Reached u → All Number u.thresholds → Tied (accepted p.keys p.trees (p.seeds ++ more) p.rules) u
sown_tied {p} {t} {u} {a} {v} h w more gives r n =
    tied_rows h w.same (p.seeds ++ more) p.rules r n (record { at = λ x m. stored_rows h w.same (p.seeds ++ more) p.rules w.rules w.rule_count (h.rules.at x m) })
    (record {
      at = λ b k x.
          ⊎_elim
          (λ m. sown_old h w (p.seeds ++ more) b k (h.seeds.at b k record { seed = x.seed; among = m; gives = x.gives }))
          (λ m. let g = gives x.seed b k m x.gives in sown_new h w (p.seeds ++ more) b k g.0 g.1.0 g.1.1)
          (Memᴰ.append_cases p.seeds x.among);
    })

-- ---- `seed_value`

module _ (constants : (p : Accepted) (t : Tables) → Tied p t → Constants (key_for p) t.constants) where
  value_leads : (a k : ℕ) (p : Accepted) (t : Tables) → Tied p t → {u : seeds.Tables} → ValueTaken t.constants a k (for_value t) u → Reached (from_value u t) →
      Tied (accepted p.keys p.trees (p.seeds ++ seed_of a (key_for p k)) p.rules) (from_value u t)
  value_leads a k p t h {u} x r = sown_tied h sown (seed_of a (key_for p k)) (gives (key_for p k) refl) r h.numbers
    where
      width : ℕ
      width = t.header.budget.limits.width

      value : Value
      value = constant_seed k (constant_at t.constants k) width

      sown : Sown a value t (from_value u t)
      sown =
          let b = x.beside in
          record {
            same = record { names = refl; constants = refl; nodes = refl; constant_count = b.constants; expression_count = b.expressions };
            rules = refl;
            rule_count = b.rules;
            position_count = b.positions;
            inside = x.inside;
            width = width;
            joined = x.joined;
            others = x.others;
          }

      -- the seed of a constant that stands for a key
      one_gives : (j : Key) → key_for p k ≡ some j → (s : Seed) (b : ℕ) (v : Key) → s ≡ one a j → SeedGives s b v → (b ≡ a) × (ProperKey v × Lies (key_for p) t.constants value v)
      one_gives j e s b v f g =
          let z : (b ≡ a) × (v ≡ j) = subst (λ (y : Seed). SeedGives y b v) f g in
          (z.0, (rw z.1 (h.keys.proper k j e), rw z.1 (seed_lies (key_for p) t.constants (constants p t h) k width j e)))

      gives : (o : Option Key) → key_for p k ≡ o → (s : Seed) (b : ℕ) (v : Key) → Memᴰ s (seed_of a o) → SeedGives s b v → (b ≡ a) × (ProperKey v × Lies (key_for p) t.constants value v)
      gives none e s b v m g = absurd (Memᴰ.not-nil m)
      gives (some j) e s b v m g = one_gives j e s b v (Memᴰ.eq_of_singleton m) g

  pub seed_value_ties : (a k : ℕ) (p : Accepted) (t : Tables) → Tied p t → Ends (λ r u. Tied (said p (input.seed_value a k) r) u) (λ _ u. Tied p u) (call (input.seed_value a k) t)
  unfolding call
  seed_value_ties a k p t h =
      leads_ties p (input.seed_value a k) t h (seed_value_keeps a k t h.reached)
      (on_ends_lem for_value from_value (λ _. done) (seed_value_call t.constants a k) t
      (seed_value_kept t.constants a k (for_value t) h.reached.standing (λ l v e. number_known h.reached.numbers k l v e))
      (λ _ u x r. value_leads a k p t h x r) (λ _ _ _. h.numbers))

-- ---- the thresholds of an interval's ends have 32 bits

entering_numbered : (v : ℤ) → Number v → (t : Marks) → All Number t.table → Ends (λ _ u. All Number u.table) (λ _ u. All Number u.table) (entering (around v) t)
entering_numbered v p t h =
    ends_through (λ u. u) (λ _ u. u) (λ _ u. u) (λ e. told (Limit e)) {P = λ _ u. All Number u.table} {Q = λ _ u. All Number u.table} _ t
    (ends_through (λ u. entry u.header.budget u.header.counts.thresholds u.table) (λ u e. marks (with_thresholds e.count (with_budget e.budget u.header)) e.table)
    (λ u e. marks (with_thresholds e.count (with_budget e.budget u.header)) e.table) (λ e. e) (around v) t (around_numbers v p _ h) (λ _ e k. k) (λ _ e k. k))
    (λ _ u k. k)
    (λ _ u k. k)

module _ (a : ℕ) (low high : ℤ) (l : Number low) (g : Number high) where
  ends_numbered : (t : seeds.Ends) → All Number t.thresholds → Ends (λ _ u. All Number u.thresholds) (λ _ u. All Number u.thresholds) (seed_ends a low high t)
  unfolding seed_ends
  ends_numbered t h =
      ends_then _ _ t
      (ends_through (λ w. marks w.header w.thresholds) (λ w m. seeds.ends m.header w.seeds m.table) (λ w m. seeds.ends m.header w.seeds m.table) (λ e. e)
      {R = λ _ u. All Number u.thresholds} {U = λ _ u. All Number u.thresholds} _ t
      (ends_then (entering (around low)) (entering (around high)) (marks t.header t.thresholds) (entering_numbered low l _ h) (λ _ u k. entering_numbered high g u k) (λ _ u k. k))
      (λ _ m k. k) (λ _ m k. k))
      (λ _ w k.
      ends_through (λ x. seeds.rows x.header x.seeds) (λ x r. seeds.ends r.header r.seeds x.thresholds) (λ x r. seeds.ends r.header r.seeds x.thresholds) (λ e. e)
      (seeds.seed a (numeric (Bounded low high))) w (in_some_way _) (λ _ _ _. k) (λ _ _ _. k))
      (λ _ w k. k)

  interval_numbered : (t : seeds.IntervalTables) → All Number t.thresholds → Ends (λ _ u. All Number u.thresholds) (λ _ u. All Number u.thresholds) (seed_interval_call a low high t)
  unfolding seed_interval_call
  interval_numbered t h =
      ends_test (eqb (length t.thresholds) size.thresholds && seeds.sized (length t.seeds) (length t.records))
      (λ _.
      ends_test (open? t.header)
      (λ _.
      ends_test (leb t.header.counts.thresholds size.thresholds_before_call && seeds.spacious t.header)
      (λ _.
      ends_then _ _ t (tables_numbered (seeds.in_header (billing (work 1))) t h)
      (λ _ u k.
      ends_test (le_z low high)
      (λ _.
      ends_then _ _ u (tables_numbered _ u k)
      (λ _ w m.
      ends_through (λ x. seeds.ends x.header x.seeds x.thresholds) (λ x e. seeds.interval_tables e.header e.seeds x.records e.thresholds) (λ x e. seeds.interval_tables e.header e.seeds x.records e.thresholds) (λ y. y)
      (seed_ends a low high) w (ends_numbered _ m) (λ _ _ z. z) (λ _ _ z. z))
      (λ _ w m. m))
      (λ _. stops k))
      (λ _ u k. k))
      (λ _. stops h))
      (λ _. stops h))
      (λ _. stops h)
    where
      -- what leaves the thresholds alone
      tables_numbered : (m : Metered Told seeds.Tables (Unit {0})) (t : seeds.IntervalTables) → All Number t.thresholds → Ends (λ _ u. All Number u.thresholds) (λ _ u. All Number u.thresholds) (seeds.in_tables m t)
      tables_numbered m t h =
          ends_through (λ w. seeds.tables w.header w.seeds w.records) (λ w u. seeds.interval_tables u.header u.seeds u.records w.thresholds) (λ w u. seeds.interval_tables u.header u.seeds u.records w.thresholds) (λ y. y)
          m t (in_some_way _) (λ _ _ _. h) (λ _ _ _. h)

-- ---- `seed_interval`

module _ (a : ℕ) (low high : ℤ) (l : Number low) (g : Number high) (p : Accepted) (t : Tables) (h : Tied p t) where
  interval_leads : {u : seeds.IntervalTables} → IntervalTaken t.constants a low high (for_interval t) u → All Number u.thresholds → Reached (from_interval u t) →
      Tied (accepted p.keys p.trees (p.seeds ++ (range a low high ∷ [])) p.rules) (from_interval u t)
  interval_leads {u} x n r = sown_tied h sown (range a low high ∷ []) (λ s b v m y. gives b v (subst (λ (z : Seed). SeedGives z b v) (Memᴰ.eq_of_singleton m) y)) r n
    where
      sown : Sown a (numeric (Bounded low high)) t (from_interval u t)
      sown =
          let b = x.beside in
          record {
            same = record { names = refl; constants = refl; nodes = refl; constant_count = b.constants; expression_count = b.expressions };
            rules = refl;
            rule_count = b.rules;
            position_count = b.positions;
            inside = x.inside;
            width = t.header.budget.limits.width;
            joined = x.joined;
            others = x.others;
          }

      between : (z : ℤ) → Between low high z → Number z
      between z b = (omega (arith, l.0, b.0), omega (arith, g.1, b.1))

      gives : (b : ℕ) (v : Key) → SeedGives (range a low high) b v → (b ≡ a) × (ProperKey v × Lies (key_for p) t.constants (numeric (Bounded low high)) v)
      gives b v y =
          let q = between y.1.0 y.1.2 in
          (y.0, (rw y.1.1 q, rw y.1.1 (numeric_lies (key_for p) t.constants (Bounded low high) y.1.0 q y.1.2)))

  pub seed_interval_ties : Ends (λ r u. Tied (said p (input.seed_interval a low high) r) u) (λ _ u. Tied p u) (call (input.seed_interval a low high) t)
  unfolding call
  seed_interval_ties =
      leads_ties p (input.seed_interval a low high) t h (seed_interval_keeps a low high t l g h.reached)
      (on_ends_lem for_interval from_interval (λ _. done) (seed_interval_call a low high) t
      (ends_both (seed_interval_kept t.constants a low high (for_interval t) h.reached.standing h.reached.rises l g) (interval_numbered a low high l g (for_interval t) h.numbers))
      (λ _ u x r. interval_leads x.0 x.1 r) (λ _ _ x. x.1))

-- ---- `rule`

module _ {arguments expressions : ℕ} {nodes cells cells' : List ℕ} {i : ℕ} (q : Ruled arguments expressions nodes cells i) (back : Row q.rule q.context cells' i) where
  bindings_stay : bindings_at cells' i ≡ bindings_at cells i
  bindings_stay = let l : q.rule.lengths.bindings ≤ length q.rule.bindings = omega (arith, q.whole.0, q.inside.short.bindings) in back.all_bindings l ∙ sym (q.back.all_bindings l)

  guards_stay : guards_at cells' i ≡ guards_at cells i
  guards_stay = let l : q.rule.lengths.guards ≤ length q.rule.guards = omega (arith, q.whole.1.0, q.inside.short.guards) in back.all_guards l ∙ sym (q.back.all_guards l)

  heads_stay : heads_at cells' i ≡ heads_at cells i
  heads_stay = let l : q.rule.lengths.heads ≤ length q.rule.heads = omega (arith, q.whole.1.1, q.inside.short.heads) in back.all_heads l ∙ sym (q.back.all_heads l)

module _ (q : Rule) (whole : Whole q) (p : Accepted) (t : Tables) (h : Tied p t) where
  abbrev ruled : Accepted
  ruled = accepted p.keys p.trees p.seeds (p.rules ++ (rule_of p q ∷ []))

  rule_leads : {i : ℕ} {u : producer.Tables} → producers.Accepted t.nodes q (for_rule t) i u → Reached (from_rule u t) → Tied ruled (from_rule u t)
  rule_leads {i} {u} a r =
      tied_rows h same p.seeds (p.rules ++ (rule_of p q ∷ [])) r h.numbers
      (record { at = λ x m. ⊎_elim (λ k. older x (h.rules.at x k)) (λ k. subst (Stored ruled (from_rule u t)) (sym (Memᴰ.eq_of_singleton k)) newest) (Memᴰ.append_cases p.rules m) })
      (record {
        at = λ b k x. inside_rows h same p.seeds (p.rules ++ (rule_of p q ∷ [])) (rw a.is (omega arith)) refl (h.seeds.at b k record { seed = x.seed; among = x.among; gives = x.gives });
      })
    where
      same : Same t (from_rule u t)
      same = record { names = refl; constants = refl; nodes = refl; constant_count = rw a.is; expression_count = rw a.is }

      count : u.header.counts.rules ≡ t.header.counts.rules + 1
      count = ap (λ (s : Store). s.counts.rules) a.is

      older : (x : PlainRule) → Stored p t x → Stored ruled (from_rule u t) x
      older x z =
          let w = h.reached.rules.at z.id z.below in
          let b : Row w.rule w.context u.rules z.id = a.others w.rule w.context z.id w.inside.short (λ e. omega (arith, z.below, a.next)) w.back in
          record {
            id = z.id;
            below = omega (arith, z.below, count);
            bindings = z.bindings ∙ ap (map (plain_binding (tree_at p))) (sym (bindings_stay w b));
            guards = z.guards ∙ ap (map (plain_guard (tree_at p))) (sym (guards_stay w b));
            heads = z.heads ∙ ap (map (plain_head (tree_at p))) (sym (heads_stay w b));
          }

      newest : Stored ruled (from_rule u t) (rule_of p q)
      newest = record {
        id = i;
        below = omega (arith, count, a.next);
        bindings = sym (ap (map (plain_binding (tree_at p))) (a.back.all_bindings (omega (arith, whole.0, a.inside.short.bindings))));
        guards = sym (ap (map (plain_guard (tree_at p))) (a.back.all_guards (omega (arith, whole.1.0, a.inside.short.guards))));
        heads = sym (ap (map (plain_head (tree_at p))) (a.back.all_heads (omega (arith, whole.1.1, a.inside.short.heads))));
      }

  pub rule_ties : Ends (λ r u. Tied (said p (input.rule q) r) u) (λ _ u. Tied p u) (call (input.rule q) t)
  unfolding call
  rule_ties =
      leads_ties p (input.rule q) t h (rule_keeps q t whole h.reached)
      (on_ends_lem for_rule from_rule id (rule_call t.nodes q) t (rule_ends t.nodes q (for_rule t) h.reached.context) (λ i u a r. rule_leads a r) (λ _ _ _. h.numbers))
