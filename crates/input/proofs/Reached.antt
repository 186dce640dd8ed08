-- What holds of a store between calls, and of a fresh one. `Played` shows that every list of calls keeps it.
use Rattle.sizes.specs.Sizes as size
use Prim.Native.Nat.{ℕ, ◌+◌, ◌≤◌, ◌<◌}
use native.Mathlib.Omega.{arith}
use mathlib.Core.Path.{◌≡◌, refl, ap}
use mathlib.Core.Bool.{Bool, true, false, cond}
use mathlib.Core.List.{List}
use borrow.Author.Tests.{leb-true, le-leb, ltb-true}
use lib.Dec.{leb, ltb, eqb}
use lib.IntN.{ℤ}
use lib.ListN.{length}
use Rattle.integers.specs.Order.{Number}
use Rattle.integers.proofs.ListLaws.{Compared, less, more, same, compared}
use Rattle.limits.specs.declared.Limits.{Limits}
use Rattle.limits.specs.declared.Refusal.TheVariants.{Shape}
use Rattle.limits.specs.Refusal.{told}
use Rattle.limits.specs.Metered.{going, stopped}
use Rattle.limits.proofs.Ends.{Ends, stops, ends_pure, ends_test}
use Rattle.cells.specs.Cells.{of_cell}
use Rattle.thresholds.proofs.Sorted.{Rises, rises_none}
use Rattle.keys.specs.Key.{Key, number, kind_at, payload_at, key_at}
use Rattle.rules.specs.declared.Rule.{Rule}
use Rattle.rules.proofs.RuleLaws.{Row, SmallContext}
use Rattle.limits.specs.Context.{Context}
use Rattle.store.specs.declared.Phase.TheVariants.{Open, Absent}
use Rattle.store.specs.declared.Counts.{Counts}
use Rattle.store.specs.Store.{empty, fresh_of}
use Rattle.store.specs.Calls.{first_argument, arity_of, argument_call}
use Rattle.store.proofs.Opened.{open?}
use Rattle.lattice.specs.Constants.{Retained}
use Rattle.constants.proofs.Keyed.{Keyed, keyed_none}
use Rattle.constants.proofs.Keyed as keyed
use Rattle.constants.proofs.Kept.{Surrounds}
use Rattle.expressions.proofs.Nested.{Nested, nested_none}
use Rattle.seeds.proofs.Seeded.{lost_bound}
use Rattle.seeds.proofs.Beside.{Standing, standing_none}
use Rattle.producers.specs.Producer.{scope}
use Rattle.producers.proofs.Scoped.{RuleIn}
use Rattle.input.specs.Input.{Tables, Whole}

-- the tables have the sizes that calls ask for
pub record Sized (t : Tables) : Type 0 where
  pub predicates : length t.predicates ≡ size.predicate_cells
  pub names : length t.names ≡ size.name_cells
  pub constants : length t.constants ≡ size.constant_cells
  pub order : length t.order ≡ size.constants
  pub thresholds : length t.thresholds ≡ size.thresholds
  pub nodes : length t.nodes ≡ size.node_cells
  pub seeds : length t.seeds ≡ size.argument_cells
  pub records : length t.records ≡ size.record_cells
  pub rules : length t.rules ≡ size.rule_cells

-- and no more rows stand than they have room for
pub record CountsFit (n : Counts) : Type 0 where
  pub predicates : n.predicates ≤ 64
  pub positions : n.positions ≤ 256
  pub constants : n.constants ≤ 1024
  pub keys : n.keys ≤ 1024
  pub expressions : n.expressions ≤ 1024
  pub thresholds : n.thresholds ≤ size.thresholds_before_run
  pub provenance : n.provenance ≤ 1024
  pub rules : n.rules ≤ 256

-- the arguments of the first n predicates lie one after another, below `positions`
pub record Laid (n positions : ℕ) (rows : List ℕ) : Type 0 where
  pub within : (p : ℕ) → p < n → first_argument rows p + arity_of rows p ≤ positions
  pub apart : (p q : ℕ) → p < q → q < n → first_argument rows p + arity_of rows p ≤ first_argument rows q

-- each of the first n constants that is a number is one of 32 bits, and stands with its neighbours among the first `count` thresholds
pub record Numbers (n : ℕ) (cells : List ℕ) (count : ℕ) (table : List ℤ) : Type 0 where
  pub at : (id : ℕ) → id < n → kind_at cells id ≡ 1 → Number (of_cell (payload_at cells id)) × Surrounds (number (of_cell (payload_at cells id))) count table

-- a rule's row reads back as one whose slots, arguments and expressions all exist
pub record Ruled (arguments expressions : ℕ) (nodes cells : List ℕ) (id : ℕ) : Type 0 where
  pub rule : Rule
  pub context : Context
  pub inside : RuleIn arguments (scope nodes expressions rule.slots) rule
  pub whole : Whole rule
  pub back : Row rule context cells id

-- the first n rules
pub record Rules (n arguments expressions : ℕ) (nodes cells : List ℕ) : Type 0 where
  pub at : (id : ℕ) → id < n → Ruled arguments expressions nodes cells id

pub record Reached (t : Tables) : Type 0 where
  pub sized : Sized t
  pub counted : CountsFit t.header.counts
  pub narrow : t.header.budget.limits.width ≤ 16
  -- the context in force, if there is one, has 32 bits
  pub context : SmallContext t.header.context
  -- a predicate's arguments exist, and are its own
  pub laid : Laid t.header.counts.predicates t.header.counts.positions t.predicates
  -- a key has one id, and the key order has all of them
  pub keyed : Keyed t.header.counts.constants t.header.counts.keys t.names t.constants t.order
  -- thresholds are in order, and those of numbers are there
  pub rises : Rises t.header.counts.thresholds t.thresholds
  pub numbers : Numbers t.header.counts.constants t.constants t.header.counts.thresholds t.thresholds
  -- expressions name what is below them
  pub nested : Nested t.header.counts.constants t.header.counts.expressions t.nodes
  -- seeds are regular, their entries are the live ones, and no more are counted as widened than have lost their list
  pub standing : Standing t.constants t.header t.seeds
  pub rules : Rules t.header.counts.rules t.header.counts.positions t.header.counts.expressions t.nodes t.rules

-- ---- a fresh store, whatever stands in the tables

reached_empty : (l : Limits) (t : Tables) → l.width ≤ 16 → empty l Open ≡ t.header → Sized t → Reached t
reached_empty l t w e z = record {
  sized = z;
  counted = rw (← e) record { predicates = omega arith; positions = omega arith; constants = omega arith; keys = omega arith; expressions = omega arith; thresholds = omega arith; provenance = omega arith; rules = omega arith };
  narrow = rw (← e) w;
  context = rw (← e) tt;
  laid = rw (← e) record { within = λ p h. absurd (omega arith); apart = λ p q h k. absurd (omega arith) };
  keyed = rw (← e) (keyed_none t.names t.constants t.order);
  rises = rw (← e) (rises_none t.thresholds);
  numbers = rw (← e) record { at = λ id h k. absurd (omega arith) };
  nested = rw (← e) (nested_none 0 t.nodes);
  standing = rw (← e) (standing_none t.constants l Open t.seeds);
  rules = rw (← e) record { at = λ id h. absurd (omega arith) };
}

-- with a width of at most 16 there is one
pub fresh_open : (l : Limits) → l.width ≤ 16 → fresh_of l ≡ going tt (empty l Open)
fresh_open l h = rw (le-leb l.width 16 h)

pub fresh_reached : (l : Limits) (t : Tables) → fresh_of l ≡ going tt t.header → Sized t → Reached t
fresh_reached l t = go (leb l.width 16) refl
  where
    go : (b : Bool) → leb l.width 16 ≡ b → cond b (going (tt {0}) (empty l Open)) (stopped (told Shape) (empty l Absent)) ≡ going (tt {0}) t.header → Sized t → Reached t
    go true w e z = let f : empty l Open ≡ t.header = cc in reached_empty l t (leb-true l.width 16 w) f z
    go false w e z = let y : ◌≡◌ {A = ℕ} 0 1 = cc in absurd (omega arith)

-- ---- what a reader asks of a store

module _ {t : Tables} (r : Reached t) where
  -- two retained constants of one key are the same
  pub one_id : (k : Key) (i j : ℕ) → i < t.header.counts.constants → j < t.header.counts.constants → Retained t.constants i → Retained t.constants j →
      key_at t.names t.constants i ≡ k → key_at t.names t.constants j ≡ k → i ≡ j
  one_id = keyed.one_id t.names t.constants t.order r.keyed

  -- no more arguments lose their list than there are
  pub widened_few : t.header.budget.statistics.widened ≤ 512
  widened_few =
      let a : t.header.budget.statistics.widened ≤ t.header.counts.positions = lost_bound _ _ t.seeds r.standing.lost in
      omega (arith, r.counted.positions)

  -- a predicate's arguments exist
  pub argument_exists : (p i : ℕ) → p < t.header.counts.predicates → i < arity_of t.predicates p → first_argument t.predicates p + i < t.header.counts.positions
  argument_exists p i h k = omega (arith, r.laid.within p h)

  -- and no two of them are the same
  pub one_argument : (p q i j : ℕ) → p < t.header.counts.predicates → q < t.header.counts.predicates → i < arity_of t.predicates p → j < arity_of t.predicates q →
      first_argument t.predicates p + i ≡ first_argument t.predicates q + j → (p ≡ q) × (i ≡ j)
  one_argument p q i j h k l m e = go (compared p q)
    where
      go : Compared p q → (p ≡ q) × (i ≡ j)
      go (less b) = absurd (omega (arith, r.laid.apart p q b k))
      go (more b) = absurd (omega (arith, r.laid.apart q p b h))
      go (same b) = let f : first_argument t.predicates p ≡ first_argument t.predicates q = ap (first_argument t.predicates) b in (b, omega arith)

  -- so `argument` answers one that exists
  pub argument_answers : (p i : ℕ) → Ends (λ a s. a < s.counts.positions) (λ _ _. Unit {0}) (argument_call p i t.predicates t.header)
  unfolding argument_call
  argument_answers p i =
      ends_test (eqb (length t.predicates) size.predicate_cells)
      (λ _.
      ends_test (open? t.header)
      (λ _.
      ends_test (leb t.header.counts.predicates 64)
      (λ _.
      ends_test (ltb p t.header.counts.predicates)
      (λ h.
      ends_test (ltb i (arity_of t.predicates p))
      (λ k.
      ends_pure (first_argument t.predicates p + i) t.header (argument_exists p i (ltb-true p t.header.counts.predicates h) (ltb-true i (arity_of t.predicates p) k)))
      (λ _. stops tt))
      (λ _. stops tt))
      (λ _. stops tt))
      (λ _. stops tt))
      (λ _. stops tt)
