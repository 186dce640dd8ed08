-- How the tables of a store stand to what its accepted calls have said, call by call: the keys, the trees, the rules and the seeds.
use Prim.Native.Nat.{ℕ, ◌≤◌, ◌<◌, ◌^◌}
use native.Mathlib.Omega.{arith}
use mathlib.Core.Path.{◌≡◌}
use mathlib.Core.List.{List, Memᴰ}
use mathlib.Core.Option.{some}
use Rattle.integers.specs.Order.{Number}
use Rattle.integers.specs.Lists.{All}
use Rattle.lattice.specs.Constants.{Retained}
use Rattle.rows.specs.Row.{value_at}
use Rattle.keys.specs.Key.{Key, name, key_at}
use Rattle.nodes.specs.Node.{expression_at}
use Rattle.input.specs.Input.{Tables}
use Rattle.input.proofs.Reached.{Reached}
use Rattle.soundness.specs.Plain.{Tree, ProperKey}
use Rattle.soundness.specs.Tied.{tree_of}
use Rattle.soundness.specs.Run.{Accepted, PlainRule, Seed, accepted, stands_for, key_for, tree_at, Seeded}
use Rattle.soundness.proofs.Grounded.{Stored, Inside}

-- every constant has a key: a retained one reads as its key, and one that is not is a name
pub record KeysTied (p : Accepted) (t : Tables) : Type 0 where
  pub has : (i : ℕ) → i < t.header.counts.constants → (k : Key) × (key_for p i ≡ some k)
  pub inside : (i : ℕ) (k : Key) → key_for p i ≡ some k → i < t.header.counts.constants
  pub kept : (i : ℕ) (k : Key) → key_for p i ≡ some k → Retained t.constants i → key_at t.names t.constants i ≡ k
  pub large : (i : ℕ) (k : Key) → key_for p i ≡ some k → (Retained t.constants i → ⊥) → (s : List ℕ) × (k ≡ name s)
  pub proper : (i : ℕ) (k : Key) → key_for p i ≡ some k → ProperKey k
  pub cells : All (λ c. c < 2 ^ 32) t.constants

-- every expression has a tree, which is what its row says with trees for its children
pub record TreesTied (p : Accepted) (t : Tables) : Type 0 where
  pub has : (i : ℕ) → i < t.header.counts.expressions → (u : Tree) × (stands_for p.trees i ≡ some u)
  pub inside : (i : ℕ) (u : Tree) → stands_for p.trees i ≡ some u → i < t.header.counts.expressions
  pub is : (i : ℕ) (u : Tree) → stands_for p.trees i ≡ some u → u ≡ tree_of (key_for p) (tree_at p) (expression_at t.nodes i)

pub record RulesTied (p : Accepted) (t : Tables) : Type 0 where
  pub at : (r : PlainRule) → Memᴰ r p.rules → Stored p t r

pub record SeedsTied (p : Accepted) (t : Tables) : Type 0 where
  pub at : (a : ℕ) (k : Key) → Seeded p a k → Inside p t t.seeds a k

pub record Tied (p : Accepted) (t : Tables) : Type 0 where
  pub reached : Reached t
  -- the table of thresholds has numbers of 32 bits
  pub numbers : All Number t.thresholds
  pub keys : KeysTied p t
  pub trees : TreesTied p t
  pub rules : RulesTied p t
  pub seeds : SeedsTied p t

-- ---- where constants and expressions stay, and seeds or rules are added

pub record Same (t u : Tables) : Type 0 where
  pub names : u.names ≡ t.names
  pub constants : u.constants ≡ t.constants
  pub nodes : u.nodes ≡ t.nodes
  pub constant_count : u.header.counts.constants ≡ t.header.counts.constants
  pub expression_count : u.header.counts.expressions ≡ t.header.counts.expressions

-- what has been said of ids, with other seeds and rules
abbrev pub with_rows : Accepted → List Seed → List PlainRule → Accepted
with_rows p seeds rules = accepted p.keys p.trees seeds rules

module _ {p : Accepted} {t u : Tables} (h : Tied p t) (s : Same t u) (seeds : List Seed) (rules : List PlainRule) where
  abbrev q : Accepted
  q = with_rows p seeds rules

  pub tied_rows : Reached u → All Number u.thresholds → RulesTied q u → SeedsTied q u → Tied q u
  tied_rows r n x y = record {
    reached = r;
    numbers = n;
    keys = record {
      has = λ i l. h.keys.has i (omega (arith, s.constant_count));
      inside = λ i k e. let b = h.keys.inside i k e in omega (arith, s.constant_count);
      kept = λ i k e z. rw (s.names, s.constants) (h.keys.kept i k e (rw s.constants at z));
      large = λ i k e z. h.keys.large i k e (λ w. z (rw s.constants w));
      proper = h.keys.proper;
      cells = rw s.constants h.keys.cells;
    };
    trees = record {
      has = λ i l. h.trees.has i (omega (arith, s.expression_count));
      inside = λ i v e. let b = h.trees.inside i v e in omega (arith, s.expression_count);
      is = λ i v e. rw s.nodes (h.trees.is i v e);
    };
    rules = x;
    seeds = y;
  }

  -- a rule whose row stays
  pub stored_rows : {r : PlainRule} → u.rules ≡ t.rules → u.header.counts.rules ≡ t.header.counts.rules → Stored p t r → Stored q u r
  stored_rows e c z = record { id = z.id; below = omega (arith, z.below, c); bindings = rw e z.bindings; guards = rw e z.guards; heads = rw e z.heads }

  -- a key in a row that stays
  pub inside_rows : {a : ℕ} {k : Key} → t.header.counts.positions ≤ u.header.counts.positions → value_at u.seeds a ≡ value_at t.seeds a → Inside p t t.seeds a k → Inside q u u.seeds a k
  inside_rows l e z = record { below = omega (arith, z.below); proper = z.proper; lies = rw (s.constants, e) z.lies }

-- ---- where no table changes that they speak of

pub record Still (t u : Tables) : Type 0 where
  pub names : u.names ≡ t.names
  pub constants : u.constants ≡ t.constants
  pub nodes : u.nodes ≡ t.nodes
  pub rules : u.rules ≡ t.rules
  pub seeds : u.seeds ≡ t.seeds
  pub constant_count : u.header.counts.constants ≡ t.header.counts.constants
  pub expression_count : u.header.counts.expressions ≡ t.header.counts.expressions
  pub rule_count : u.header.counts.rules ≡ t.header.counts.rules
  pub position_count : u.header.counts.positions ≡ t.header.counts.positions

pub tied_still : {p : Accepted} {t u : Tables} → Still t u → Reached u → All Number u.thresholds → Tied p t → Tied p u
tied_still {p} {t} {u} s r n h =
    tied_rows h same p.seeds p.rules r n (record { at = λ q m. stored_rows h same p.seeds p.rules s.rules s.rule_count (h.rules.at q m) })
    (record {
      at = λ a k x.
          inside_rows h same p.seeds p.rules (omega (arith, s.position_count)) (rw s.seeds) (h.seeds.at a k (record { seed = x.seed; among = x.among; gives = x.gives }));
    })
  where
    same : Same t u
    same = record { names = s.names; constants = s.constants; nodes = s.nodes; constant_count = s.constant_count; expression_count = s.expression_count }
