-- What the call of a key leaves, whichever way it ends: the constants and the thresholds in order, all that stood as it stood.
use Rattle.sizes.specs.Sizes as size
use Prim.Native.Nat.{ℕ, ◌+◌, ◌-◌, ◌*◌, ◌≤◌, ◌<◌}
use native.Mathlib.Omega.{arith}
use mathlib.Core.Path.{◌≡◌, refl, ◌∙◌}
use mathlib.Core.Logic.{◌⊎◌, inl, inr}
use mathlib.Core.Bool.{Bool, true, false, cond}
use mathlib.Core.List.{List, [], ◌∷◌}
use borrow.Author.Tests.{leb-true}
use lib.Dec.{leb}
use lib.IntN.{ℤ, pos, ◌+ℤ◌, ◌-ℤ◌}
use lib.ListN.{length, get_or}
use lib.Seq.{length-sets}
use Rattle.integers.specs.Order.{Number}
use Rattle.integers.specs.Lists.{inserted}
use Rattle.integers.proofs.Insertion.{inserted_length}
use Rattle.limits.specs.declared.Refusal.TheVariants.{Limit}
use Rattle.limits.specs.Refusal.{Told, told}
use Rattle.limits.specs.Metered.{◌>>◌}
use Rattle.limits.specs.Meter.{metered}
use Rattle.limits.specs.Budget.{work, bytes}
use Rattle.limits.proofs.Monad.{Ensures, by_through}
use Rattle.limits.proofs.Ends.{Ends, completes, stops, ends_test, ends_as, ends_both, ends_through, on_bind, on_then, in_some_way, with_value}
use Rattle.search.specs.Seek.{Place, found, absent}
use Rattle.search.proofs.Complete as search
use Rattle.thresholds.specs.Thresholds.{Entry, entry, around}
use Rattle.search.proofs.Live.{seek_lives}
use Rattle.thresholds.proofs.Outcomes as outcomes
use Rattle.thresholds.proofs.Sorted.{Rises, Kept, Near, Surrounded, around_keeps}
use Rattle.lattice.specs.Constants.{Retained}
use Rattle.keys.specs.Key.{Key, number, name, kind_at, payload_at, key_at, put_cells, put_name, probe, seek_key}
use Rattle.keys.proofs.CodecLaws.{kind_back}
use Rattle.keys.proofs.KeyOrder.{total_keys}
use Rattle.keys.proofs.KeyOrder as keys
use Rattle.store.specs.declared.Store.{Store}
use Rattle.store.specs.Store.{with_constants, with_keys}
use Rattle.store.specs.Calls.{billing, Marks, marks, entering}
use Rattle.store.proofs.Opened.{open?}
use Rattle.store.proofs.Frame.{spent_none, Spends, spends_work, spends_links, spends_bytes, spends_then, spends_metered, Charging, charging_more, Marking, ending_ends, entering_left, Limited, limited, pays}
use Rattle.constants.specs.Constant.{bytes_of, retains, classify, KeyTables, key_tables, kind_cell, payload_cell, add_key, add_large, cost, settle, keep_key, abandon, retain_key, Tables, tables, in_marks, in_keys, in_header, sized, spacious, constant_call}
use Rattle.constants.proofs.CodeLaws.{sizes_yes, room_yes}
use Rattle.constants.proofs.Keyed.{Proper, Keyed, keyed_large, keyed_key, key_back, old_kind, old_payload, old_key, proper_bytes, retained_new, one_id}
use Rattle.constants.proofs.Steps.{Besides, besides_of, besides_none, besides_more, besides_charge, charge_counts, besides_marks, marks_constants, marks_keys}

-- ---- the thresholds of a key

-- z is one of the first n thresholds, as `Has` says of an entry
abbrev pub Stands : ℕ → List ℤ → ℤ → Type 0
Stands n t z = (i : ℕ) × (i < n) × (get_or t i (pos 0) ≡ z)

-- what a key enters: its number with the neighbours
abbrev pub Enters : Key → ℤ → Type 0
Enters (number v) z = Near v z
Enters (name s) z = ⊥

-- a number and its neighbours of 32 bits stand among n thresholds
abbrev pub Surrounds : Key → ℕ → List ℤ → Type 0
Surrounds (number v) n t = Stands n t v × (Number (v -ℤ pos 1) → Stands n t (v -ℤ pos 1)) × (Number (v +ℤ pos 1) → Stands n t (v +ℤ pos 1))
Surrounds (name s) n t = Unit {0}

-- the same in the words of thresholds/proofs/Sorted.antt
pub surrounded : (v : ℤ) (s : Entry) → Surrounds (number v) s.count s.table → Surrounded v s
surrounded v s h = h

-- what a key leaves of n thresholds, whether all of its own are entered or not
pub record Marked (k : Key) (n : ℕ) (t : List ℤ) (n' : ℕ) (t' : List ℤ) : Type 0 where
  -- in order again
  pub rises : Rises n' t'
  -- what stood stands, and what is new is the key's
  pub old : (z : ℤ) → Stands n t z → Stands n' t' z
  pub fresh : (z : ℤ) → Stands n' t' z → Stands n t z ⊎ Enters k z
  pub fewest : n ≤ n'
  pub most : n' ≤ n + 3
  pub size : length t' ≡ length t

marked_none : (k : Key) (n : ℕ) (t : List ℤ) → Rises n t → Marked k n t n t
marked_none k n t r = record { rises = r; old = λ z h. h; fresh = λ z h. inl h; fewest = omega arith; most = omega arith; size = refl }

marked_number : (v : ℤ) (s s' : Entry) → Kept (Near v) 3 s s' → Marked (number v) s.count s.table s'.count s'.table
marked_number v s s' h = record { rises = h.rises; old = h.old; fresh = h.fresh; fewest = h.fewest; most = h.most; size = h.size }

abbrev MarkedIn : Key → Marks → Marks → Type 0
MarkedIn k t t' = Marked k t.header.counts.thresholds t.table t'.header.counts.thresholds t'.table

-- what a key's classification leaves, completed or stopped
abbrev Classified : Key → Marks → Unit {0} → Marks → Type 0
Classified k t _ t' = Marking t t' × MarkedIn k t t' × Surrounds k t'.header.counts.thresholds t'.table

abbrev Unclassified : Key → Marks → Told → Marks → Type 0
Unclassified k t e t' = Limited e × Marking t t' × MarkedIn k t t'

number_marks : (v : ℤ) (t : Marks) → Rises t.header.counts.thresholds t.table → t.header.counts.thresholds + 3 ≤ length t.table →
    Ends (Classified (number v) t) (Unclassified (number v) t) (entering (around v) t)
number_marks v t r g =
    ends_as (ends_both (entering_left {P = λ e. Kept (Near v) 3 before e × Surrounded v e} {Q = Kept (Near v) 3 before} (around v) t inner) refusal)
    (λ _ t' p. (p.0.0, marked_number v before (after' t') p.0.1.0, p.0.1.1))
    (λ e t' p. (p.1, p.0.0, marked_number v before (after' t') p.0.1))
  where
    after' : Marks → Entry
    after' t' = entry t'.header.budget t'.header.counts.thresholds t'.table

    before : Entry
    before = entry t.header.budget t.header.counts.thresholds t.table

    inner : Ends (λ _ e. (Kept (Near v) 3 before e × Surrounded v e) × outcomes.Charging before.budget e.budget) (λ _ e. Kept (Near v) 3 before e × outcomes.Charging before.budget e.budget) (around v before)
    inner =
        ends_as (ending_ends {P = λ e. Kept (Near v) 3 before e × Surrounded v e} {Q = Kept (Near v) 3 before} (around v before) (around_keeps v before r g))
        (λ _ e p. (p, p.0.charging)) (λ _ e p. (p, p.charging))

    refusal : Ends (λ _ _. Unit {0}) (λ e _. Limited e) (entering (around v) t)
    refusal = ends_through (λ u. u) (λ _ u. u) (λ _ u. u) (λ e. told (Limit e)) _ t (in_some_way _) (λ _ _ _. tt) (λ e _ _. limited e)

charge_marks : (t : Marks) {s : Store} → Charging t.header s → Marking t (marks s t.table)
charge_marks t c = record { budget = c.budget; spent = c.spent; is = rw c.is }

name_marked : (s : List ℕ) (t : Marks) → Rises t.header.counts.thresholds t.table → {u : Store} → Charging t.header u → MarkedIn (name s) t (marks u t.table)
name_marked s t r c = rw (charge_counts c) (marked_none (name s) t.header.counts.thresholds t.table r)

classify_marks : (k : Key) (t : Marks) → Rises t.header.counts.thresholds t.table → t.header.counts.thresholds + 3 ≤ length t.table →
    Ends (Classified k t) (Unclassified k t) (classify k t)
classify_marks (number v) t r g = number_marks v t r g
classify_marks (name s) t r g =
    ends_through (λ u. u.header) (λ u h. marks h u.table) (λ u h. marks h u.table) (λ e. e) (billing (bytes (length s))) t (pays (spends_bytes (length s)) t.header)
    (λ _ u c. (charge_marks t c, name_marked s t r c, tt))
    (λ e u c. (c.0, charge_marks t c.1, name_marked s t r c.1))

-- ---- the constants

-- of n constants that stood and n' that stand, the id is an old one, or the new one
pub data Numbered (n id n' : ℕ) : Type 0 where
  again : id < n → n' ≡ n → Numbered n id n'
  newly : id ≡ n → n' ≡ n + 1 → Numbered n id n'

-- what an answer leaves of n constants: n' and m' keys stand then
pub record Given (k : Key) (retained : Bool) (n : ℕ) (names cells order : List ℕ) (id n' m' : ℕ) (names' cells' order' : List ℕ) : Type 0 where
  -- in order again
  pub keyed : Keyed n' m' names' cells' order'
  -- the id is one of them: of this key if it is retained, otherwise a new one with no key
  pub numbered : Numbered n id n'
  pub within : id < n'
  pub kept : retained ≡ true → Retained cells' id × (key_at names' cells' id ≡ k)
  pub large : retained ≡ false → (id ≡ n) × (kind_at cells' id ≡ 0)
  -- older ones are as they were
  pub kinds : (j : ℕ) → j < n → kind_at cells' j ≡ kind_at cells j
  pub payloads : (j : ℕ) → j < n → payload_at cells' j ≡ payload_at cells j
  pub keys : (j : ℕ) → j < n → key_at names' cells' j ≡ key_at names cells j
  -- the tables have the sizes that they had
  pub names_size : length names' ≡ length names
  pub cells_size : length cells' ≡ length cells
  pub order_size : length order' ≡ length order

-- room for one more
pub record Room (n m : ℕ) (names cells order : List ℕ) : Type 0 where
  pub bytes : 64 * n + 64 ≤ length names
  pub pair : 2 * n + 2 ≤ length cells
  pub place : m < length order

module _ (k : Key) (n m : ℕ) (names cells order : List ℕ) (w : Keyed n m names cells order) where
  given_again : (p : ℕ) → search.Ends (probe names cells order k) m (found p) → Given k true n names cells order (get_or order p 0) n m names cells order
  given_again p h = record {
    keyed = w;
    numbered = again (w.inside p h.0) refl;
    within = w.inside p h.0;
    kept = λ _. (w.held p h.0, total_keys.equal (key_at names cells (get_or order p 0)) k h.1);
    large = λ e. let z : ◌≡◌ {A = ℕ} 0 1 = cc in absurd (omega arith);
    kinds = λ j l. refl;
    payloads = λ j l. refl;
    keys = λ j l. refl;
    names_size = refl;
    cells_size = refl;
    order_size = refl;
  }

  module _ (r : Room n m names cells order) where
    given_new : Proper k → (low : ℕ) → search.Ends (probe names cells order k) m (absent low) →
        Given k true n names cells order n (n + 1) (m + 1) (put_name names n (bytes_of k)) (put_cells cells n (kind_cell k) (payload_cell k)) (inserted order low m n)
    given_new proper low h = record {
      keyed = keyed_key n m names cells order w r.pair k proper r.bytes r.place low h;
      numbered = newly refl refl;
      within = omega arith;
      kept = λ _. (retained_new cells n k r.pair, key_back names cells n k proper r.pair r.bytes);
      large = λ e. let z : ◌≡◌ {A = ℕ} 0 1 = cc in absurd (omega arith);
      kinds = λ j l. old_kind cells n (kind_cell k) (payload_cell k) j l;
      payloads = λ j l. old_payload cells n (kind_cell k) (payload_cell k) j l;
      keys = λ j l. old_key cells n (kind_cell k) (payload_cell k) j l names (bytes_of k) (proper_bytes k proper);
      names_size = length-sets names (64 * n) (bytes_of k);
      cells_size = length-sets cells (2 * n) (kind_cell k ∷ payload_cell k ∷ []);
      order_size = inserted_length 0 order low m n;
    }

    given_large : Given k false n names cells order n (n + 1) m names (put_cells cells n 0 0) order
    given_large = record {
      keyed = keyed_large n m names cells order w r.pair;
      numbered = newly refl refl;
      within = omega arith;
      kept = λ e. let z : ◌≡◌ {A = ℕ} 0 1 = cc in absurd (omega arith);
      large = λ _. (refl, kind_back cells n r.pair 0 0);
      kinds = λ j l. old_kind cells n 0 0 j l;
      payloads = λ j l. old_payload cells n 0 0 j l;
      keys = λ j l. old_key cells n 0 0 j l names [] (omega arith);
      names_size = refl;
      cells_size = length-sets cells (2 * n) (0 ∷ 0 ∷ []);
      order_size = refl;
    }

-- ---- `keep_key` and `abandon`

abbrev pub KeyedIn : KeyTables → Type 0
KeyedIn t = Keyed t.header.counts.constants t.header.counts.keys t.names t.constants t.order

abbrev pub RoomIn : KeyTables → Type 0
RoomIn t = Room t.header.counts.constants t.header.counts.keys t.names t.constants t.order

pub record Answers (k : Key) (retained : Bool) (t : KeyTables) (id : ℕ) (t' : KeyTables) : Type 0 where
  pub constants : Given k retained t.header.counts.constants t.names t.constants t.order id t'.header.counts.constants t'.header.counts.keys t'.names t'.constants t'.order
  pub thresholds : t'.header.counts.thresholds ≡ t.header.counts.thresholds
  pub header : Besides t.header t'.header

-- a refused charge leaves the tables, and all of the header but the budget
pub record Refuses (t : KeyTables) (e : Told) (t' : KeyTables) : Type 0 where
  pub number : Limited e
  pub charge : Charging t.header t'.header
  pub is : t' ≡ key_tables t'.header t.names t.constants t.order

refuses : (t : KeyTables) {e : Told} {s : Store} → Limited e × Charging t.header s → Refuses t e (key_tables s t.names t.constants t.order)
refuses t h = record { number = h.0; charge = h.1; is = refl }

-- where the search for a key ends
abbrev Sought : Key → KeyTables → Place → Type 0
Sought k t = search.Ends (probe t.names t.constants t.order k) t.header.counts.keys

sought : (k : Key) (t : KeyTables) → KeyedIn t →
    Ends (λ p s. Charging t.header s × Sought k t p) (λ e s. Limited e × Charging t.header s) (billing (metered (seek_key t.names t.constants t.order t.header.counts.keys k)) t.header)
unfolding seek_key
sought k t w = ends_as (ends_both (pays (spends_metered (seek_lives _ _ _ _)) t.header) (with_value _ (value.at t.header))) (λ p s h. h) (λ e s h. h.0)
  where
    value : Ensures (Sought k t) (billing (metered (seek_key t.names t.constants t.order t.header.counts.keys k)))
    value = by_through _ _ _ _ _ (by_through _ _ _ _ _ (by_through _ _ _ _ _ (keys.search_complete t.names t.constants t.order t.header.counts.keys k w.sorted)))

spends_cost : (n : ℕ) → Spends (cost n)
unfolding cost
spends_cost n = spends_then (spends_links 1) (spends_work n)

-- the three answers, from the same tables with the header as charges have left it
module _ (k : Key) (t : KeyTables) (w : KeyedIn t) {s : Store} (c : Charging t.header s) where
  abbrev ready : KeyTables
  ready = key_tables s t.names t.constants t.order

  answers_again : (p : ℕ) → Sought k t (found p) → Answers k true t (get_or t.order p 0) ready
  answers_again p h = record { constants = rw (charge_counts c) (given_again k _ _ _ _ _ w p h); thresholds = rw (charge_counts c); header = besides_charge c }

  module _ (r : RoomIn t) where
    answers_new : Proper k → (low : ℕ) → Sought k t (absent low) → Ends (Answers k true t) (Refuses t) (add_key k low ready)
    answers_new proper low h = completes answers
      where
        answers : Answers k true t s.counts.constants
            (key_tables (with_keys (s.counts.keys + 1) (with_constants (s.counts.constants + 1) s)) (put_name t.names s.counts.constants (bytes_of k))
            (put_cells t.constants s.counts.constants (kind_cell k) (payload_cell k)) (inserted t.order low s.counts.keys s.counts.constants))
        answers = record {
          constants = rw (charge_counts c) (given_new k _ _ _ _ _ w r proper low h);
          thresholds = rw (charge_counts c);
          header = besides_more (besides_charge c) (besides_of s s.budget (s.counts.constants + 1) (s.counts.keys + 1) s.counts.thresholds (spent_none s.budget));
        }

    answers_large : Ends (Answers k false t) (Refuses t) (add_large ready)
    answers_large = completes answers
      where
        answers : Answers k false t s.counts.constants (key_tables (with_constants (s.counts.constants + 1) s) t.names (put_cells t.constants s.counts.constants 0 0) t.order)
        answers = record {
          constants = rw (charge_counts c) (given_large k _ _ _ _ _ w r);
          thresholds = rw (charge_counts c);
          header = besides_more (besides_charge c) (besides_of s s.budget (s.counts.constants + 1) s.counts.keys s.counts.thresholds (spent_none s.budget));
        }

module _ (k : Key) (proper : Proper k) (t : KeyTables) (w : KeyedIn t) (r : RoomIn t) where
  settled : {s : Store} → Charging t.header s → (p : Place) → Sought k t p → Ends (Answers k true t) (Refuses t) (settle k t.header.counts.keys p (key_tables s t.names t.constants t.order))
  unfolding settle
  settled c (found p) h = completes (answers_again k t w c p h)
  settled {s} c (absent low) h =
      on_then _ _ _ _ _ (add_key k low) _ (pays (spends_cost (t.header.counts.keys - low)) s)
      (λ _ u d. answers_new k t w (charging_more c d) r proper low h)
      (λ e u d. refuses t (d.0, charging_more c d.1))

  pub keep_keeps : Ends (Answers k true t) (Refuses t) (keep_key k t)
  unfolding keep_key
  keep_keeps = on_bind _ _ _ _ _ (settle k t.header.counts.keys) t (sought k t w) (λ p s h. settled h.0 p h.1) (λ e s h. refuses t h)

pub abandon_keeps : (k : Key) (t : KeyTables) → KeyedIn t → RoomIn t → Ends (Answers k false t) (Refuses t) (abandon t)
unfolding abandon
abandon_keeps k t w r = on_then _ _ _ _ _ add_large t (pays (spends_links 1) t.header) (λ _ s c. answers_large k t w c r) (λ e s c. refuses t c)

retain_keeps : (k : Key) → Proper k → (t : KeyTables) → KeyedIn t → RoomIn t → Ends (Answers k (retains t.header.budget.limits k) t) (Refuses t) (retain_key k t)
unfolding retain_key
retain_keeps k proper t w r = go (retains t.header.budget.limits k)
  where
    go : (b : Bool) → Ends (Answers k b t) (Refuses t) (cond b (keep_key k t) (abandon t))
    go true = keep_keeps k proper t w r
    go false = abandon_keeps k t w r

-- ---- the call

-- what the code's types say of a key: a number has 32 bits
abbrev pub Typed : Key → Type 0
Typed (number v) = Number v
Typed (name s) = Unit {0}

proper : (k : Key) → Typed k → length (bytes_of k) ≤ 64 → Proper k
proper (number v) h l = h
proper (name s) h l = l

-- the id is given
pub record Accepted (k : Key) (t : Tables) (id : ℕ) (t' : Tables) : Type 0 where
  -- the constants are in order, the id is the key's, and older constants are as they were
  pub constants : Given k (retains t.header.budget.limits k) t.header.counts.constants t.names t.constants t.order id
      t'.header.counts.constants t'.header.counts.keys t'.names t'.constants t'.order
  -- the thresholds are in order, none is lost, and those of a number stand
  pub thresholds : Marked k t.header.counts.thresholds t.thresholds t'.header.counts.thresholds t'.thresholds
  pub surrounds : Surrounds k t'.header.counts.thresholds t'.thresholds
  -- the header is as before, but for the counts of these tables and the charges
  pub header : Besides t.header t'.header

-- no constant is new: s is the header then, and `table` the thresholds
pub record Still (k : Key) (t : Tables) (s : Store) (table : List ℤ) : Type 0 where
  pub constants : s.counts.constants ≡ t.header.counts.constants
  pub keys : s.counts.keys ≡ t.header.counts.keys
  -- the thresholds are in order, and none is lost
  pub thresholds : Marked k t.header.counts.thresholds t.thresholds s.counts.thresholds table
  -- the header is as before, but for their count and the charges
  pub header : Besides t.header s

-- the call is turned down, with e
pub record Declined (k : Key) (t : Tables) (e : Told) (t' : Tables) : Type 0 where
  -- the tables of constants are as they were, and so are their counts
  pub names : t'.names ≡ t.names
  pub constants : t'.constants ≡ t.constants
  pub order : t'.order ≡ t.order
  pub still : Still k t t'.header t'.thresholds
  -- refusals 1 and 2 change nothing
  pub untouched : (e.number ≡ 1) ⊎ (e.number ≡ 2) → t' ≡ t

module _ (k : Key) (t : Tables) where
  still_none : Rises t.header.counts.thresholds t.thresholds → Still k t t.header t.thresholds
  still_none r = record { constants = refl; keys = refl; thresholds = marked_none k _ _ r; header = besides_none t.header }

  still_charge : {s s' : Store} {table : List ℤ} → Still k t s table → Charging s s' → Still k t s' table
  still_charge h c = record {
    constants = rw (charge_counts c) h.constants;
    keys = rw (charge_counts c) h.keys;
    thresholds = rw (charge_counts c) h.thresholds;
    header = besides_more h.header (besides_charge c);
  }

  still_marks : {s : Store} → Charging t.header s → {u : Marks} → Marking (marks s t.thresholds) u → MarkedIn k (marks s t.thresholds) u → Still k t u.header u.table
  still_marks c m g = record {
    constants = marks_constants m ∙ rw (charge_counts c);
    keys = marks_keys m ∙ rw (charge_counts c);
    thresholds = rw (charge_counts c) at g;
    header = besides_more (besides_charge c) (besides_marks m);
  }

  -- a test turns it down
  declined_first : Rises t.header.counts.thresholds t.thresholds → (e : Told) → Declined k t e t
  declined_first r e = record { names = refl; constants = refl; order = refl; still = still_none r; untouched = λ _. refl }

  -- or a charge does
  declined : {s : Store} {table : List ℤ} (e : Told) → Limited e → Still k t s table → Declined k t e (tables s t.names t.constants t.order table)
  declined {s} {table} e h q = record { names = refl; constants = refl; order = refl; still = q; untouched = λ f. absurd (other f) }
    where
      other : (e.number ≡ 1) ⊎ (e.number ≡ 2) → ⊥
      other (inl f) = omega arith
      other (inr f) = omega arith

  module _ {s : Store} {table : List ℤ} (h : Still k t s table) where
    declined_keys : (e : Told) {v : KeyTables} → Refuses (key_tables s t.names t.constants t.order) e v → Declined k t e (tables v.header v.names v.constants v.order table)
    declined_keys e {v} r = rw r.is (declined e r.number (still_charge h r.charge))

    accepted : Surrounds k s.counts.thresholds table → {id : ℕ} {v : KeyTables} → Answers k (retains s.budget.limits k) (key_tables s t.names t.constants t.order) id v →
        Accepted k t id (tables v.header v.names v.constants v.order table)
    accepted q a = record {
      constants = rw (h.constants, h.header.spent.limits) at a.constants;
      thresholds = rw a.thresholds h.thresholds;
      surrounds = rw a.thresholds q;
      header = besides_more h.header a.header;
    }

-- constants and thresholds are in order before the call
module _ (k : Key) (typed : Typed k) (t : Tables) (keyed : Keyed t.header.counts.constants t.header.counts.keys t.names t.constants t.order) (rises : Rises t.header.counts.thresholds t.thresholds) where
  -- the last step: the key is kept, or not
  last : Proper k → Room t.header.counts.constants t.header.counts.keys t.names t.constants t.order → {s : Store} {table : List ℤ} → Still k t s table → Surrounds k s.counts.thresholds table →
      Ends (Accepted k t) (Declined k t) (in_keys (retain_key k) (tables s t.names t.constants t.order table))
  last p room {s} h q =
      ends_through _ _ _ _ (retain_key k) _ (retain_keeps k p (key_tables s t.names t.constants t.order) (rw (h.constants, h.keys) keyed) (rw (h.constants, h.keys) room)) (λ id v a. accepted k t h q a)
      (λ e v r. declined_keys k t h e r)

  -- where the tests let it pass
  admitted : sized (length t.names) (length t.constants) (length t.order) (length t.thresholds) ≡ true → leb (length (bytes_of k)) 64 ≡ true → spacious t.header.counts ≡ true →
      Ends (Accepted k t) (Declined k t) ((in_header (billing (work 1)) >> in_marks (classify k) >> in_keys (retain_key k)) t)
  admitted z l r =
      on_then _ _ _ _ _ (in_marks (classify k) >> in_keys (retain_key k)) t (pays (spends_work 1) t.header) (λ _ s c. charged_once c) (λ e s c. declined k t e c.0 (still_charge k t (still_none k t rises) c.1))
    where
      lengths : (length t.names ≡ size.name_cells) × (length t.constants ≡ size.constant_cells) × (length t.order ≡ size.constants) × (length t.thresholds ≡ size.thresholds)
      lengths = sizes_yes _ _ _ _ z

      counts : (t.header.counts.constants < 1024) × ((t.header.counts.keys < 1024) × (t.header.counts.thresholds ≤ size.thresholds_before_call))
      counts = room_yes t.header.counts r

      room : Room t.header.counts.constants t.header.counts.keys t.names t.constants t.order
      room = record { bytes = omega (arith, lengths.0, counts.0); pair = omega (arith, lengths.1, counts.0); place = omega (arith, lengths.2, counts.1.0) }

      charged_once : {s : Store} → Charging t.header s → Ends (Accepted k t) (Declined k t) ((in_marks (classify k) >> in_keys (retain_key k)) (tables s t.names t.constants t.order t.thresholds))
      charged_once {s} c =
          on_then _ _ _ _ _ (in_keys (retain_key k)) (tables s t.names t.constants t.order t.thresholds)
          (classify_marks k (marks s t.thresholds) (rw (charge_counts c) rises) (rw (charge_counts c) (omega (arith, lengths.3, counts.1.1))))
          (λ _ u h. last (proper k typed (leb-true _ _ l)) room (still_marks k t c h.0 h.1) h.2)
          (λ e u h. declined k t e h.0 (still_marks k t c h.1 h.2))

  pub constant_keeps : Ends (Accepted k t) (Declined k t) (constant_call k t)
  unfolding constant_call
  constant_keeps =
      ends_test (sized (length t.names) (length t.constants) (length t.order) (length t.thresholds))
      (λ z.
      ends_test (leb (length (bytes_of k)) 64)
      (λ l. ends_test (open? t.header) (λ _. ends_test (spacious t.header.counts) (λ r. admitted z l r) (λ _. stops (declined_first k t rises _))) (λ _. stops (declined_first k t rises _)))
      (λ _. stops (declined_first k t rises _)))
      (λ _. stops (declined_first k t rises _))

-- ---- what follows

-- a call that is turned down leaves the constants in order too
pub declined_keyed : {k : Key} {t t' : Tables} {e : Told} → Declined k t e t' → Keyed t.header.counts.constants t.header.counts.keys t.names t.constants t.order →
    Keyed t'.header.counts.constants t'.header.counts.keys t'.names t'.constants t'.order
declined_keyed d w = rw (d.names, d.constants, d.order, d.still.constants, d.still.keys) w

-- the id of a retained key is that of the older constant that has it, if there is one, and then no constant is new
module _ {k : Key} {t t' : Tables} {id : ℕ} (a : Accepted k t id t') (r : retains t.header.budget.limits k ≡ true) (j : ℕ) (h : j < t.header.counts.constants)
    (held : Retained t.constants j) (e : key_at t.names t.constants j ≡ k) where
  pub old_id : id ≡ j
  old_id =
      one_id t'.names t'.constants t'.order a.constants.keyed k id j a.constants.within (go a.constants.numbered h) (a.constants.kept r).0
      (rw (a.constants.kinds j h) held) (a.constants.kept r).1 (a.constants.keys j h ∙ e)
    where
      go : {n n' : ℕ} → Numbered n id n' → j < n → j < n'
      go (again l f) g = omega arith
      go (newly l f) g = omega arith

  pub none_new : t'.header.counts.constants ≡ t.header.counts.constants
  none_new = go a.constants.numbered old_id
    where
      go : Numbered t.header.counts.constants id t'.header.counts.constants → id ≡ j → t'.header.counts.constants ≡ t.header.counts.constants
      go (again l f) g = f
      go (newly l f) g = absurd (omega arith)
