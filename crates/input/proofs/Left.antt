-- What calls leave of a store: laws by which one store is reached from another, over the parts that a call changes.
use Rattle.sizes.specs.Sizes as size
use Prim.Native.Nat.{ℕ, ◌+◌, ◌*◌, ◌≤◌, ◌<◌}
use native.Mathlib.Omega.{arith}
use native.Mathlib.Decide.{dec_lt}
use mathlib.Core.Path.{◌≡◌, refl, sym, subst, ◌∙◌}
use mathlib.Core.Logic.{◌⊎◌, inl, inr}
use mathlib.Core.Bool.{Bool, true, false, cond}
use mathlib.Core.List.{List, [], ◌∷◌}
use borrow.Author.Tests.{eqb-true, eq-eqb}
use lib.Dec.{eqb}
use lib.IntN.{ℤ}
use lib.ListN.{length}
use lib.Seq.{sets}
use Rattle.integers.specs.Order.{Number}
use Rattle.limits.specs.Refusal.{Told}
use Rattle.limits.specs.Metered.{Metered, pure}
use Rattle.limits.proofs.Ends.{Ends, completes, on_bind}
use Rattle.interval.specs.declared.Constant.TheVariants.{Name, Large}
use Rattle.interval.specs.declared.Constant.TheVariants as constant
use Rattle.lattice.specs.Constants.{constant_of, constant_at}
use Rattle.cells.specs.Cells.{of_cell}
use Rattle.thresholds.proofs.Sorted.{Rises}
use Rattle.keys.specs.Key.{Key, number, kind_at, payload_at, key_at}
use Rattle.keys.proofs.CodecLaws.{kind_back, payload_back, kind_kept, payload_kept}
use Rattle.nodes.specs.Node.{expression_at}
use Rattle.rules.specs.declared.Rule.{Rule}
use Rattle.rules.proofs.RuleLaws.{Short, Row, SmallContext}
use Rattle.limits.specs.Context.{Context}
use Rattle.store.specs.declared.Store.{Store}
use Rattle.store.specs.Calls.{first_argument, arity_of}
use Rattle.store.proofs.Frame.{Spent, spent_none, Charging}
use Rattle.constants.proofs.Kept.{Stands, Surrounds, Marked, Numbered, again, newly, Given}
use Rattle.seeds.proofs.Beside.{Standing}
use Rattle.producers.specs.Producer.{scope}
use Rattle.producers.proofs.Scoped.{RuleIn, rule_in_more}
use Rattle.input.specs.Input.{Tables, Reply, TypedKey, on, Whole}
use Rattle.input.proofs.Reached.{Laid, Numbers, Ruled, Rules, Reached}

-- ---- a call on a part of the store

pub on_ends_lem : {T A : Type 0} (get : Tables → T) (put : T → Tables → Tables) (reply : A → Reply) {P : A → T → Type 0} {Q : Told → T → Type 0} {R : Reply → Tables → Type 0} {U : Told → Tables → Type 0}
    (m : Metered Told T A) (t : Tables) → Ends P Q (m (get t)) → ((a : A) (u : T) → P a u → R (reply a) (put u t)) → ((e : Told) (u : T) → Q e u → U e (put u t)) → Ends R U (on get put reply m t)
unfolding pure
on_ends_lem get put reply m t h f g = on_bind get (λ s u. put u s) (λ s u. put u s) (λ e. e) m (λ a. pure (reply a)) t h (λ a u p. completes (f a u p)) g

-- ---- what a refusal leaves

-- of the header: all but the counts of thresholds and of provenance records, and what work, links and bytes were charged
pub record Steady (s s' : Store) : Type 0 where
  pub predicates : s'.counts.predicates ≡ s.counts.predicates
  pub positions : s'.counts.positions ≡ s.counts.positions
  pub constants : s'.counts.constants ≡ s.counts.constants
  pub keys : s'.counts.keys ≡ s.counts.keys
  pub expressions : s'.counts.expressions ≡ s.counts.expressions
  pub rules : s'.counts.rules ≡ s.counts.rules
  pub context : s'.context ≡ s.context
  pub phase : s'.phase ≡ s.phase
  -- the limits, and what predicates, positions, live entries, rounds and widened arguments were counted
  pub spent : Spent s.budget s'.budget

pub steady_none : (s : Store) → Steady s s
steady_none s = record {
  predicates = refl;
  positions = refl;
  constants = refl;
  keys = refl;
  expressions = refl;
  rules = refl;
  context = refl;
  phase = refl;
  spent = spent_none s.budget;
}

pub steady_charge : {s s' : Store} → Charging s s' → Steady s s'
steady_charge c = rw c.is record {
  predicates = refl;
  positions = refl;
  constants = refl;
  keys = refl;
  expressions = refl;
  rules = refl;
  context = refl;
  phase = refl;
  spent = c.spent;
}

-- of the tables: all but thresholds and provenance records
pub record Leaves (t u : Tables) : Type 0 where
  pub predicates : u.predicates ≡ t.predicates
  pub names : u.names ≡ t.names
  pub constants : u.constants ≡ t.constants
  pub order : u.order ≡ t.order
  pub nodes : u.nodes ≡ t.nodes
  pub seeds : u.seeds ≡ t.seeds
  pub rules : u.rules ≡ t.rules
  pub header : Steady t.header u.header

-- every threshold that stood stands
abbrev pub Stay : Tables → Tables → Type 0
Stay t u = (z : ℤ) → Stands t.header.counts.thresholds t.thresholds z → Stands u.header.counts.thresholds u.thresholds z

-- a call that is accepted
pub record Goes (t u : Tables) : Type 0 where
  pub reached : Reached u
  pub stay : Stay t u

-- a call that is turned down, with e
pub record Refused (t : Tables) (e : Told) (u : Tables) : Type 0 where
  pub reached : Reached u
  pub leaves : Leaves t u
  pub stay : Stay t u
  -- refusals 1 and 2 change nothing
  pub untouched : (e.number ≡ 1) ⊎ (e.number ≡ 2) → u ≡ t

pub early : {n : ℕ} → (n ≡ 1) ⊎ (n ≡ 2) → n ≤ 2
early (inl h) = omega arith
early (inr h) = omega arith

-- ---- thresholds and provenance records, which stay where a call is refused later on

pub record Beyond (t u : Tables) : Type 0 where
  pub rises : Rises u.header.counts.thresholds u.thresholds
  pub old : Stay t u
  pub marks : length u.thresholds ≡ length t.thresholds
  pub few_marks : u.header.counts.thresholds ≤ size.thresholds_before_run
  pub records : length u.records ≡ length t.records
  pub few_records : u.header.counts.provenance ≤ 1024

pub beyond_none : {t u : Tables} → Reached t → u.thresholds ≡ t.thresholds → u.records ≡ t.records → u.header.counts.thresholds ≡ t.header.counts.thresholds →
    u.header.counts.provenance ≡ t.header.counts.provenance → Beyond t u
beyond_none r a b c d = record {
  rises = rw (a, c) r.rises;
  old = λ z h. rw (a, c) h;
  marks = rw a;
  few_marks = rw c r.counted.thresholds;
  records = rw b;
  few_records = rw d r.counted.provenance;
}

-- ---- constants and expressions are as they were

pub record Held (t u : Tables) : Type 0 where
  pub names : u.names ≡ t.names
  pub constants : u.constants ≡ t.constants
  pub order : u.order ≡ t.order
  pub nodes : u.nodes ≡ t.nodes
  pub count : u.header.counts.constants ≡ t.header.counts.constants
  pub keys : u.header.counts.keys ≡ t.header.counts.keys
  pub expressions : u.header.counts.expressions ≡ t.header.counts.expressions
  pub limits : u.header.budget.limits ≡ t.header.budget.limits

pub surrounds_more : (n n' : ℕ) (a b : List ℤ) → ((z : ℤ) → Stands n a z → Stands n' b z) → (v : ℤ) → Surrounds (number v) n a → Surrounds (number v) n' b
surrounds_more n n' a b f v h = (f _ h.0, (λ k. f _ (h.1 k)), (λ k. f _ (h.2 k)))

pub numbers_marks : {n c c' : ℕ} {cells : List ℕ} {a b : List ℤ} → ((z : ℤ) → Stands c a z → Stands c' b z) → Numbers n cells c a → Numbers n cells c' b
numbers_marks {c} {c'} {a} {b} f h = record { at = λ id l e. let p = h.at id l e in (p.0, surrounds_more c c' a b f _ p.1) }

-- what holds of the rest: predicates, seeds and rules
pub record Rest (u : Tables) : Type 0 where
  pub predicates : length u.predicates ≡ size.predicate_cells
  pub seeds : length u.seeds ≡ size.argument_cells
  pub cells : length u.rules ≡ size.rule_cells
  pub few_predicates : u.header.counts.predicates ≤ 64
  pub few_positions : u.header.counts.positions ≤ 256
  pub few_rules : u.header.counts.rules ≤ 256
  pub context : SmallContext u.header.context
  pub laid : Laid u.header.counts.predicates u.header.counts.positions u.predicates
  pub standing : Standing u.constants u.header u.seeds
  pub rules : Rules u.header.counts.rules u.header.counts.positions u.header.counts.expressions u.nodes u.rules

-- a call that changes no constants and no expressions
pub held_reached : {t u : Tables} → Reached t → Held t u → Beyond t u → Rest u → Reached u
held_reached {t} {u} r h b x = record {
  sized = record {
    predicates = x.predicates;
    names = rw h.names r.sized.names;
    constants = rw h.constants r.sized.constants;
    order = rw h.order r.sized.order;
    thresholds = b.marks ∙ r.sized.thresholds;
    nodes = rw h.nodes r.sized.nodes;
    seeds = x.seeds;
    records = b.records ∙ r.sized.records;
    rules = x.cells;
  };
  counted = record {
    predicates = x.few_predicates;
    positions = x.few_positions;
    constants = rw h.count r.counted.constants;
    keys = rw h.keys r.counted.keys;
    expressions = rw h.expressions r.counted.expressions;
    thresholds = b.few_marks;
    provenance = b.few_records;
    rules = x.few_rules;
  };
  narrow = rw h.limits r.narrow;
  context = x.context;
  laid = x.laid;
  keyed = rw (h.count, h.keys, h.names, h.constants, h.order) r.keyed;
  rises = b.rises;
  numbers = rw (h.count, h.constants) (numbers_marks b.old r.numbers);
  nested = rw (h.count, h.expressions, h.nodes) r.nested;
  standing = x.standing;
  rules = x.rules;
}

pub goes : {t u : Tables} → Reached t → Held t u → Beyond t u → Rest u → Goes t u
goes r h b x = record { reached = held_reached r h b x; stay = b.old }

held_left : {t u : Tables} → Leaves t u → Held t u
held_left h = record {
  names = h.names;
  constants = h.constants;
  order = h.order;
  nodes = h.nodes;
  count = h.header.constants;
  keys = h.header.keys;
  expressions = h.header.expressions;
  limits = h.header.spent.limits;
}

standing_left : {t u : Tables} → Leaves t u → Standing t.constants t.header t.seeds → Standing u.constants u.header u.seeds
standing_left {t} {u} l st =
    let h = l.header in record {
      seeded = rw (l.constants, l.seeds, h.spent.limits, h.constants, h.positions) st.seeded;
      live = rw (l.seeds, h.spent.entries, h.positions) st.live;
      lost = rw (l.seeds, h.spent.widened, h.positions) st.lost;
    }

-- a refusal keeps what is reached
pub left_reached : {t u : Tables} → Reached t → Leaves t u → Beyond t u → Reached u
left_reached r l b =
    let h = l.header in
    held_reached r (held_left l) b
    record {
      predicates = rw l.predicates r.sized.predicates;
      seeds = rw l.seeds r.sized.seeds;
      cells = rw l.rules r.sized.rules;
      few_predicates = rw h.predicates r.counted.predicates;
      few_positions = rw h.positions r.counted.positions;
      few_rules = rw h.rules r.counted.rules;
      context = rw h.context r.context;
      laid = rw (h.predicates, h.positions, l.predicates) r.laid;
      standing = standing_left l r.standing;
      rules = rw (h.rules, h.positions, h.expressions, l.nodes, l.rules) r.rules;
    }

-- ---- a new predicate

pub laid_new : {n positions : ℕ} (rows : List ℕ) (arity : ℕ) → 2 * n + 2 ≤ length rows → Laid n positions rows → Laid (n + 1) (positions + arity) (sets rows (2 * n) (positions ∷ arity ∷ []))
laid_new {n} {positions} rows arity room h = record { within = λ p l. inside p l (dec_lt p n); apart = λ p q l k. between p q l k (dec_lt q n) }
  where
    rows' : List ℕ
    rows' = sets rows (2 * n) (positions ∷ arity ∷ [])

    -- the rows before it stay
    first : (p : ℕ) → p < n → first_argument rows' p ≡ first_argument rows p
    first p l = kind_kept rows n p positions arity (λ e. omega arith)

    second : (p : ℕ) → p < n → arity_of rows' p ≡ arity_of rows p
    second p l = payload_kept rows n p positions arity (λ e. omega arith)

    inside : (p : ℕ) → p < n + 1 → Dec (p < n) → first_argument rows' p + arity_of rows' p ≤ positions + arity
    inside p l (yes b) = omega (arith, first p b, second p b, h.within p b)
    inside p l (no b) = let e : p ≡ n = omega arith in rw e (omega (arith, kind_back rows n room positions arity, payload_back rows n room positions arity))

    between : (p q : ℕ) → p < q → q < n + 1 → Dec (q < n) → first_argument rows' p + arity_of rows' p ≤ first_argument rows' q
    between p q l k (yes b) = let c : p < n = omega arith in omega (arith, first p c, second p c, first q b, h.apart p q l b)
    between p q l k (no b) =
        let e : q ≡ n = omega arith in
        let c : p < n = omega arith in
        rw e (omega (arith, first p c, second p c, kind_back rows n room positions arity, h.within p c))

-- ---- rules

-- more arguments and expressions may stand
pub rules_more : {n a a' e e' : ℕ} {nodes nodes' cells : List ℕ} → a ≤ a' → e ≤ e' → ((i : ℕ) → i < e → expression_at nodes' i ≡ expression_at nodes i) → Rules n a e nodes cells → Rules n a' e' nodes' cells
rules_more more grows same h = record {
  at = λ id l.
      let p = h.at id l in
      record { rule = p.rule; context = p.context; inside = rule_in_more p.rule.slots more grows same p.inside; whole = p.whole; back = p.back };
}

-- one more rule
pub rules_new : {n a e : ℕ} {nodes cells cells' : List ℕ} (q : Rule) (c : Context) → RuleIn a (scope nodes e q.slots) q → Whole q → Row q c cells' n →
    ((p : Rule) (d : Context) (j : ℕ) → Short p → (j ≡ n → ⊥) → Row p d cells j → Row p d cells' j) → Rules n a e nodes cells → Rules (n + 1) a e nodes cells'
rules_new {n} {a} {e} {nodes} {cells} {cells'} q c inside whole back others h = record { at = λ id l. go id l (dec_lt id n) }
  where
    go : (id : ℕ) → id < n + 1 → Dec (id < n) → Ruled a e nodes cells' id
    go id l (yes b) =
        let p = h.at id b in
        record { rule = p.rule; context = p.context; inside = p.inside; whole = p.whole; back = others p.rule p.context id p.inside.short (λ d. omega arith) p.back }
    go id l (no b) = let d : id ≡ n = omega arith in rw d record { rule = q; context = c; inside = inside; whole = whole; back = back }

-- ---- a new constant

module _ {k : Key} {retained : Bool} {n id n' m' : ℕ} {names cells order names' cells' order' : List ℕ} (g : Given k retained n names cells order id n' m' names' cells' order') where
  -- the id is new where it is not one of the old ones
  pub given_new : (j : ℕ) → j < n' → (j < n) ⊎ (j ≡ id)
  given_new j l = go g.numbered
    where
      go : Numbered n id n' → (j < n) ⊎ (j ≡ id)
      go (again a e) = inl (omega arith)
      go (newly a e) = elim (dec_lt j n) [
        | yes b ↦ inl b
        | no b ↦ inr (omega arith)
      ]

  pub given_more : n ≤ n'
  given_more = go g.numbered
    where
      go : Numbered n id n' → n ≤ n'
      go (again a e) = omega arith
      go (newly a e) = omega arith

  pub given_few : n' ≤ n + 1
  given_few = go g.numbered
    where
      go : Numbered n id n' → n' ≤ n + 1
      go (again a e) = omega arith
      go (newly a e) = omega arith

  -- a number that is read of its cells is the key's
  key_number : kind_at cells' id ≡ 1 → number (of_cell (payload_at cells' id)) ≡ k
  unfolding key_at
  key_number e = go retained refl
    where
      reads : key_at names' cells' id ≡ number (of_cell (payload_at cells' id))
      reads = rw (eq-eqb (kind_at cells' id) 1 e)

      go : (b : Bool) → retained ≡ b → number (of_cell (payload_at cells' id)) ≡ k
      go true h = sym reads ∙ (g.kept h).1
      go false h = absurd (omega (arith, (g.large h).1))

  pub numbers_given : {c c' : ℕ} {a b : List ℤ} → TypedKey k → Marked k c a c' b → Surrounds k c' b → Numbers n cells c a → Numbers n' cells' c' b
  numbers_given {c} {c'} {a} {b} typed m s h = record { at = λ j l e. go j e (given_new j l) }
    where
      go : (j : ℕ) → kind_at cells' j ≡ 1 → (j < n) ⊎ (j ≡ id) → Number (of_cell (payload_at cells' j)) × Surrounds (number (of_cell (payload_at cells' j))) c' b
      go j e (inl l) =
          let p = h.at j l (sym (g.kinds j l) ∙ e) in
          rw (g.payloads j l) (p.0, surrounds_more c c' a b m.old _ p.1)
      go j e (inr q) =
          let f = key_number (rw q at e) in
          rw q (subst TypedKey (sym f) typed, subst (λ (x : Key). Surrounds x c' b) (sym f) s)

-- ---- the number of a constant, as the lattice reads it

module _ (kind cell : ℕ) (v : ℤ) where
  other : (b : Bool) → cond b Name Large ≡ constant.Number v → ⊥
  other true h = let z : ◌≡◌ {A = ℕ} 0 1 = cc in absurd (omega arith)
  other false h = let z : ◌≡◌ {A = ℕ} 0 1 = cc in absurd (omega arith)

  number_read : constant_of kind cell ≡ constant.Number v → (kind ≡ 1) × (of_cell cell ≡ v)
  number_read = go (eqb kind 1) refl
    where
      go : (b : Bool) → eqb kind 1 ≡ b → cond b (constant.Number (of_cell cell)) (cond (eqb kind 2) Name Large) ≡ constant.Number v → (kind ≡ 1) × (of_cell cell ≡ v)
      go true e h = (eqb-true kind 1 e, cc)
      go false e h = absurd (other (eqb kind 2) h)

pub number_known : {n c : ℕ} {cells : List ℕ} {table : List ℤ} → Numbers n cells c table → (id : ℕ) → id < n → (v : ℤ) → constant_at cells id ≡ constant.Number v → Number v
number_known {cells} h id l v e =
    let p = number_read (kind_at cells id) (payload_at cells id) v e in
    subst Number p.1 (h.at id l p.0).0
