-- What `seed_value` leaves of the seeds and of the header, whichever way it ends: accepted, all that holds of the seeds holds again; refused, the
-- seeds and their counts are as they were, and with number 1 or 2 everything is.
use Rattle.sizes.specs.Sizes as size
use Prim.Native.Nat.{ℕ, ◌+◌, ◌-◌, ◌*◌, ◌^◌, ◌≤◌, ◌<◌}
use native.Mathlib.Omega.{arith}
use native.Mathlib.Nat.{min-le_left}
use mathlib.Core.Path.{◌≡◌, refl, ap, ◌∙◌}
use mathlib.Core.Logic.{◌⊎◌, inl, inr}
use mathlib.Core.Bool.{Bool, true, false, cond, ◌&&◌}
use mathlib.Core.List.{List, [], ◌∷◌}
use borrow.Author.Tests.{leb-true, ltb-true, eqb-true}
use lib.Dec.{leb, ltb, eqb}
use lib.IntN.{ℤ}
use lib.ListN.{length}
use lib.Seq.{sets, length-sets}
use Rattle.integers.specs.Order.{Number}
use Rattle.integers.proofs.Tests.{and_left, and_right}
use Rattle.limits.specs.declared.Stop.{Stop}
use Rattle.limits.specs.declared.Budget.{Budget}
use Rattle.limits.specs.Refusal.{Told}
use Rattle.limits.specs.Metered.{Run, going, stopped, Metered, pure, ◌>>◌, mapped, through}
use Rattle.limits.specs.Budget.{work, links, released, widened_once}
use Rattle.limits.specs.declared.Meter.{Meter}
use Rattle.limits.specs.Meter.{meter_of, with_meter, metered, holding}
use Rattle.limits.specs.Meter as meters
use Rattle.limits.proofs.Monad.{Ensures, Holds, both, by_through}
use Rattle.limits.proofs.Live.{Lives, LiveIn, live_as, live_holding}
use Rattle.limits.proofs.Ends.{Ends, completes, stops, ends_test, ends_bind, ends_then, ends_through}
use Rattle.interval.specs.declared.Constant.TheVariants.{Number as number}
use Rattle.lattice.specs.Value.{Value}
use Rattle.lattice.specs.Constants.{constant_at}
use Rattle.lattice.specs.Lattice.{join, loses}
use Rattle.lattice.proofs.Joins.{joined_list, joined_value, join_is}
use Rattle.lattice.proofs.LiveLaws.{constant_lives, join_lives}
use Rattle.sizes.specs.Sizes.{value_row}
use Rattle.rows.specs.Row.{entries_of, value_at, put}
use Rattle.rows.proofs.RowLaws.{size_is, length_put, put_back, put_other}
use Rattle.limits.specs.Context.{Context}
use Rattle.std.proofs.Common.{None, Some}
use Rattle.store.specs.declared.Store.{Store}
use Rattle.store.specs.Store.{with_budget, with_provenance}
use Rattle.store.specs.Calls.{billing}
use Rattle.store.proofs.Opened.{open?}
use Rattle.store.proofs.Frame.{Spent, spends_work, spends_links}
use Rattle.provenance.specs.Provenance.{records, record_in, provenance, recordable}
use Rattle.seeds.specs.Seed.{dropped, joined, rows, seed, constant_value, seed_constant, sized, spacious, Tables, tables, in_records, in_rows, seed_value_call}
use Rattle.rows.proofs.Lost.{lost, lost_step}
use Rattle.seeds.proofs.Seeded.{Regular, entries_in, regular_constant, constant_seed, constant_is, regular_join, old_part, seeded_put, live_put, lost_put}
use Rattle.seeds.proofs.Beside.{Standing, Beside, beside_more, Quiet, quiet_more, wider, same_count, standing_quiet, Kin, Bill, same_bill, beside_budget, quiet_bill, spent_bill, charged_ends}

-- ---- values made in a budget

metered_ends : {A : Type 0} {P : A → Type 0} {held : A → ℕ} {n : ℕ} {m : Metered Stop Meter A} → Ensures P m → Lives n held m → (e : ℕ) (b : Budget) → b.statistics.entries ≡ e + n →
    Ends (λ a c. P a × Bill (e + held a) b c) (λ _ c. Bill e b c) (metered m b)
unfolding through mapped
metered_ends {A} {P} {held} {m} h l e b k = go (m (meter_of b)) (h.at (meter_of b)) (l.at e (meter_of b) k)
  where
    bill : (n : ℕ) (t : Meter) → t.entries ≡ n → Bill n b (with_meter t b)
    bill n t q = record { kin = record { limits = refl; predicates = refl; positions = refl; rounds = refl }; entries = q; widened = refl }

    go : (x : Run Stop Meter A) → Holds P x → LiveIn e held x → Ends (λ a c. P a × Bill (e + held a) b c) (λ _ c. Bill e b c) (mapped (λ t. with_meter t b) (λ t. with_meter t b) (λ y. y) x)
    go (going a t) p q = completes (p, bill (e + held a) t q)
    go (stopped s t) p q = stops (bill e t q)

-- a constant's value
constant_ends : (constants : List ℕ) (k id : ℕ) (b : Budget) → id < k → k ≤ 1024 → ((n : ℤ) → constant_at constants id ≡ number n → Number n) →
    Ends (λ v c. (Regular b.limits.width k constants v × (v ≡ constant_seed id (constant_at constants id) b.limits.width)) × Bill (b.statistics.entries + entries_of v) b c)
    (λ _ c. Bill b.statistics.entries b c) (constant_value constants id b)
unfolding constant_value
constant_ends constants k id b i f g =
    metered_ends (both (regular_constant b.limits.width k constants id i f g) (constant_is id (constant_at constants id) b.limits.width)) (live_as size_is (constant_lives id (constant_at constants id) b.limits.width))
    b.statistics.entries b (omega arith)

-- ---- the join

-- what is left where the old seed was joined with a value: the entries of both are live no more
record Settled (e : ℕ) (old v new : Value) (b c : Budget) : Type 0 where
  pub is : new ≡ joined_value b.limits.width old v
  pub kin : Kin b c
  pub entries : c.statistics.entries ≡ e + (entries_of v + entries_of new) - (entries_of old + entries_of v)
  pub widened : c.statistics.widened ≤ b.statistics.widened + cond (loses old.values new.values) 1 0

settle : (e : ℕ) (old v new : Value) {b : Budget} (c : Budget) → new ≡ joined_value b.limits.width old v → Bill (e + (entries_of v + entries_of new)) b c → Settled e old v new b (dropped old v new c)
settle e old v new {b} c i h = record {
  is = i;
  kin = kin (loses old.values new.values);
  entries = entries (loses old.values new.values);
  widened = widened (loses old.values new.values);
}
  where
    kin : (t : Bool) → Kin b (released (entries_of old + entries_of v) (cond t (widened_once c) c))
    kin true = record { limits = h.kin.limits; predicates = h.kin.predicates; positions = h.kin.positions; rounds = h.kin.rounds }
    kin false = record { limits = h.kin.limits; predicates = h.kin.predicates; positions = h.kin.positions; rounds = h.kin.rounds }

    entries : (t : Bool) → (released (entries_of old + entries_of v) (cond t (widened_once c) c)).statistics.entries ≡ e + (entries_of v + entries_of new) - (entries_of old + entries_of v)
    entries true = ap (λ (n : ℕ). n - (entries_of old + entries_of v)) h.entries
    entries false = ap (λ (n : ℕ). n - (entries_of old + entries_of v)) h.entries

    widened : (t : Bool) → (released (entries_of old + entries_of v) (cond t (widened_once c) c)).statistics.widened ≤ b.statistics.widened + cond t 1 0
    widened true = omega (arith, h.widened, min-le_left (c.statistics.widened + 1) (2 ^ 64 - 1))
    widened false = omega (arith, h.widened)

joined_ends : (old v : Value) (e : ℕ) (b : Budget) → b.statistics.entries ≡ e + entries_of v →
    Ends (λ new c. Settled e old v new b c) (λ _ c. Bill e b c) (joined old v b)
unfolding joined
joined_ends old v e b k =
    ends_bind (metered (holding (entries_of v) (join b.limits.width old v))) (λ new c. going new (dropped old v new c)) b
    (metered_ends (by_through (λ w. w ≡ joined_value b.limits.width old v) (λ s. s) (λ _ t. t) (λ _ t. meters.released (entries_of v) t) (λ y. y) (join_is b.limits.width old v))
    (live_holding (entries_of v) (live_as size_is (join_lives b.limits.width old v))) e b k)
    (λ new c p. completes (settle e old v new c p.0 p.1))
    (λ _ c p. p)

-- ---- the seed of an argument, while e entries are live beside those of the value in hand

-- a step that was refused: with no number of the tests that come first
pub record Held (x : Told) (s : Store) (seeds : List ℕ) (s' : Store) (seeds' : List ℕ) : Type 0 where
  pub quiet : Quiet 0 0 s s'
  pub same : seeds' ≡ seeds
  pub late : 3 ≤ x.number

-- one that was accepted: v was joined to the seed of the argument a, and no other was changed
pub record Joins (constants : List ℕ) (a : ℕ) (v : Value) (s : Store) (seeds : List ℕ) (s' : Store) (seeds' : List ℕ) : Type 0 where
  pub standing : Standing constants s' seeds'
  pub beside : Beside 0 0 s s'
  pub joined : value_at seeds' a ≡ joined_value s.budget.limits.width (value_at seeds a) v
  pub others : (i : ℕ) → (i ≡ a → ⊥) → value_at seeds' i ≡ value_at seeds i
  pub size : length seeds' ≡ length seeds

module _ (constants : List ℕ) (a : ℕ) (s : Store) (seeds : List ℕ) (stands : Standing constants s seeds) (inside : a < s.counts.positions) (room : value_row * s.counts.positions ≤ length seeds) where
  module _ (v : Value) (regular : Regular s.budget.limits.width s.counts.constants constants v) (b : Budget) (held : Bill (s.budget.statistics.entries + entries_of v) s.budget b) where
    join_regular : (new : Value) → new ≡ joined_value b.limits.width (value_at seeds a) v → Regular s.budget.limits.width s.counts.constants constants new
    join_regular new e =
        rw (e, held.kin.limits) (regular_join s.budget.limits.width s.counts.constants constants (value_at seeds a) v (stands.seeded.at a inside) regular)

    kin_more : {c : Budget} → Kin b c → Kin s.budget c
    kin_more k = record {
      limits = k.limits ∙ held.kin.limits;
      predicates = k.predicates ∙ held.kin.predicates;
      positions = k.positions ∙ held.kin.positions;
      rounds = k.rounds ∙ held.kin.rounds;
    }

    new_standing : (new : Value) (c : Budget) → Settled s.budget.statistics.entries (value_at seeds a) v new b c → Standing constants (with_budget c s) (put seeds a new)
    new_standing new c h =
        let r = join_regular new h.is in
        let n = s.counts.positions in
        let old = value_at seeds a in
        let part : entries_of old ≤ entries_in seeds n = old_part n seeds a new inside room entries_of r.formed in
        let l : s.budget.statistics.entries ≡ entries_in seeds n = stands.live in
        let w : new.values ≡ joined_list b.limits.width old.values v.values = ap (λ (x : Value). x.values) h.is in
        let q : lost old.values + cond (loses old.values new.values) 1 0 ≡ lost new.values = rw w (lost_step b.limits.width old.values v.values) in
        record {
          seeded = rw (kin_more h.kin).limits (seeded_put n seeds a new inside room s.budget.limits.width s.counts.constants constants stands.seeded r);
          live = live_put n seeds a new inside room s.budget.statistics.entries c.statistics.entries r.formed stands.live (omega (arith, h.entries));
          lost = lost_put n seeds a new inside room s.budget.statistics.widened c.statistics.widened r.formed stands.lost (omega (arith, h.widened, held.widened));
        }

    new_joins : (new : Value) (c : Budget) → Settled s.budget.statistics.entries (value_at seeds a) v new b c → Joins constants a v s seeds (with_budget c s) (put seeds a new)
    new_joins new c h = record {
      standing = new_standing new c h;
      beside = beside_budget s (kin_more h.kin);
      joined = put_back seeds a new (omega arith) (join_regular new h.is).formed ∙ h.is ∙ rw held.kin.limits;
      others = λ i d. put_other seeds a new i d;
      size = length_put seeds a new;
    }

    pub seed_ends_lem : Ends (λ _ t. Joins constants a v s seeds t.header t.seeds) (λ x t. Held x s seeds t.header t.seeds) (seed a v (rows (with_budget b s) seeds))
    unfolding seed
    seed_ends_lem =
        ends_bind _ _ (rows (with_budget b s) seeds)
        (ends_through (λ t. t.header) (λ t u. rows u t.seeds) (λ t u. rows u t.seeds) (λ e. e)
        {R = λ new t. (c : Budget) × Settled s.budget.statistics.entries (value_at seeds a) v new b c × (t ≡ rows (with_budget c s) seeds)}
        {U = λ x t. Held x s seeds t.header t.seeds}
        (billing (joined (value_at seeds a) v)) (rows (with_budget b s) seeds)
        (charged_ends (joined (value_at seeds a) v) (with_budget b s) (joined_ends (value_at seeds a) v s.budget.statistics.entries b held.entries))
        (λ new u p. (p.0, p.1, rw p.2))
        (λ x u p. record { quiet = rw p.4 (quiet_bill s (record { kin = kin_more p.3.kin; entries = p.3.entries; widened = p.3.widened ∙ held.widened })); same = refl; late = p.0 }))
        (λ new t p. rw p.2 (completes (new_joins new p.0 p.1)))
        (λ x t p. p)

  -- a constant
  constant_joins : (id : ℕ) → id < s.counts.constants → s.counts.constants ≤ 1024 → ((n : ℤ) → constant_at constants id ≡ number n → Number n) →
      Ends (λ _ t. Joins constants a (constant_seed id (constant_at constants id) s.budget.limits.width) s seeds t.header t.seeds) (λ x t. Held x s seeds t.header t.seeds) (seed_constant constants a id (rows s seeds))
  constant_joins id i f g =
      ends_bind _ _ (rows s seeds)
      (ends_through (λ t. t.header) (λ t u. rows u t.seeds) (λ t u. rows u t.seeds) (λ e. e)
      {R = λ v t. (b : Budget) × ((Regular s.budget.limits.width s.counts.constants constants v × (v ≡ constant_seed id (constant_at constants id) s.budget.limits.width)) × Bill (s.budget.statistics.entries + entries_of v) s.budget b) × (t ≡ rows (with_budget b s) seeds)}
      {U = λ x t. Held x s seeds t.header t.seeds}
      (billing (constant_value constants id)) (rows s seeds)
      (charged_ends (constant_value constants id) s (constant_ends constants s.counts.constants id s.budget i f g))
      (λ v u p. (p.0, p.1, rw p.2))
      (λ x u p. record { quiet = rw p.4 (quiet_bill s p.3); same = refl; late = p.0 }))
      (λ v t p. rw (← p.1.0.1, p.2) (seed_ends_lem v p.1.0.0 p.0 p.1.1))
      (λ x t p. p)

-- ---- the provenance record

-- of an argument in the context in force; without one there is none
abbrev pub Noted : ℕ → Context → ℕ → List ℕ → ℕ → List ℕ → Type 0
Noted a None n table n' table' = (n' ≡ n) × (table' ≡ table)
Noted a (Some c) n table n' table' = (n' ≡ n + 1) × (table' ≡ sets table (2 * n) (a ∷ c ∷ []))

pub noted_size : (a : ℕ) (c : Context) (n n' : ℕ) (table table' : List ℕ) → Noted a c n table n' table' → length table' ≡ length table
noted_size a None n n' table table' h = ap length h.1
noted_size a (Some c) n n' table table' h = ap length h.1 ∙ length-sets table (2 * n) (a ∷ c ∷ [])

-- with room for one there is room for it
pub noted_fits : (a : ℕ) (c : Context) (n n' : ℕ) (table table' : List ℕ) → Noted a c n table n' table' → recordable c n ≡ true → n ≤ 1024 → n' ≤ 1024
noted_fits a None n n' table table' h r l = omega (arith, h.0)
noted_fits a (Some c) n n' table table' h r l = omega (arith, h.0, leb-true n size.records_before_call r)

-- a step that leaves the seeds alone
pub record Notes (a : ℕ) (s : Store) (table : List ℕ) (s' : Store) (table' : List ℕ) : Type 0 where
  pub inside : a < s.counts.positions
  pub quiet : Quiet 1 0 s s'
  pub noted : Noted a s.context s.counts.provenance table s'.counts.provenance table'

pub record Unnoted (x : Told) (s : Store) (table : List ℕ) (s' : Store) (table' : List ℕ) : Type 0 where
  pub quiet : Quiet 0 0 s s'
  pub same : table' ≡ table
  pub count : s'.counts.provenance ≡ s.counts.provenance
  pub late : 3 ≤ x.number

one_more : (s : Store) {b : Budget} → Bill s.budget.statistics.entries s.budget b → Quiet 1 0 s (with_provenance (s.counts.provenance + 1) (with_budget b s))
one_more s k = record {
  beside = record {
    predicates = refl;
    positions = refl;
    constants = refl;
    keys = refl;
    expressions = refl;
    rules = refl;
    fewest_records = omega arith;
    most_records = omega arith;
    fewest_marks = omega arith;
    most_marks = omega arith;
    context = refl;
    phase = refl;
    limits = k.kin.limits;
    charged_predicates = k.kin.predicates;
    charged_positions = k.kin.positions;
    charged_rounds = k.kin.rounds;
  };
  entries = k.entries;
  widened = k.widened;
}

pub provenance_ends : (a : ℕ) (s : Store) (table : List ℕ) →
    Ends (λ _ t. Notes a s table t.header t.table) (λ x t. Unnoted x s table t.header t.table) (provenance a (records s table))
unfolding provenance pure
provenance_ends a s table =
    ends_test (ltb a s.counts.positions) (λ e. go s.context refl (ltb-true a s.counts.positions e))
    (λ _. stops record { quiet = quiet_bill s (same_bill s.budget); same = refl; count = refl; late = omega arith })
  where
    one : (c : ℕ) → s.context ≡ Some c → Noted a s.context s.counts.provenance table (s.counts.provenance + 1) (sets table (2 * s.counts.provenance) (a ∷ c ∷ []))
    one c e = rw e (refl, refl)

    go : (c : Context) → s.context ≡ c → a < s.counts.positions →
        Ends (λ _ t. Notes a s table t.header t.table) (λ x t. Unnoted x s table t.header t.table) (record_in a c (records s table))
    go None e i = completes {s = records s table} record { inside = i; quiet = wider (quiet_bill s (same_bill s.budget)); noted = rw e (refl, refl) }
    go (Some c) e i =
        ends_then _ _ (records s table)
        (ends_through (λ t. t.header) (λ t u. records u t.table) (λ t u. records u t.table) (λ y. y)
        {R = λ _ t. (b : Budget) × Spent s.budget b × (t ≡ records (with_budget b s) table)}
        {U = λ x t. Unnoted x s table t.header t.table}
        (billing (links 1)) (records s table)
        (charged_ends (links 1) s ((spends_links 1).at s.budget))
        (λ _ u p. (p.0, p.1, rw p.2))
        (λ x u p. record { quiet = rw p.4 (quiet_bill s (spent_bill p.3)); same = refl; count = rw p.4; late = p.0 }))
        (λ _ t p. rw p.2 (completes record { inside = i; quiet = one_more s (spent_bill p.1); noted = one c e }))
        (λ x t p. p)

-- ---- `seed_value`

-- accepted
pub record ValueTaken (constants : List ℕ) (a k : ℕ) (t t' : Tables) : Type 0 where
  -- the seeds are regular, their entries are the live ones, and no more are widened than have no list
  pub standing : Standing constants t'.header t'.seeds
  -- the header, but for the budget and for one provenance record where a context is in force
  pub beside : Beside 1 0 t.header t'.header
  pub noted : Noted a t.header.context t.header.counts.provenance t.records t'.header.counts.provenance t'.records
  pub fits : t.header.counts.provenance ≤ 1024 → t'.header.counts.provenance ≤ 1024
  -- the argument exists; its seed is joined with the constant, and the others are as they were
  pub inside : a < t.header.counts.positions
  pub joined : value_at t'.seeds a ≡ joined_value t.header.budget.limits.width (value_at t.seeds a) (constant_seed k (constant_at constants k) t.header.budget.limits.width)
  pub others : (i : ℕ) → (i ≡ a → ⊥) → value_at t'.seeds i ≡ value_at t.seeds i
  pub size : length t'.seeds ≡ length t.seeds

-- refused
pub record ValueRefused (a : ℕ) (x : Told) (t t' : Tables) : Type 0 where
  -- the seeds, their live entries and the count of widened arguments
  pub same : t'.seeds ≡ t.seeds
  pub quiet : Quiet 1 0 t.header t'.header
  -- the provenance record that comes before the seed stays
  pub noted : Noted a None t.header.counts.provenance t.records t'.header.counts.provenance t'.records ⊎ Noted a t.header.context t.header.counts.provenance t.records t'.header.counts.provenance t'.records
  pub fits : t.header.counts.provenance ≤ 1024 → t'.header.counts.provenance ≤ 1024
  -- a store that is closed or has no room, and tables of another size, are left whole
  pub whole : x.number ≤ 2 → t' ≡ t

module _ (constants : List ℕ) (a k : ℕ) (t : Tables) (stands : Standing constants t.header t.seeds) (numbers : k < t.header.counts.constants → (n : ℤ) → constant_at constants k ≡ number n → Number n) where
  early : (x : Told) → Ends {A = Unit {0}} (λ _ u. ValueTaken constants a k t u) (λ y u. ValueRefused a y t u) (stopped x t)
  early x = stops record { same = refl; quiet = wider (quiet_bill t.header (same_bill t.header.budget)); noted = inl (refl, refl); fits = λ l. l; whole = λ _. refl }

  module _ (b : Budget) (paid : Spent t.header.budget b) (exists : k < t.header.counts.constants) (few : t.header.counts.constants ≤ 1024) (space : recordable t.header.context t.header.counts.provenance ≡ true)
      (room : value_row * t.header.counts.positions ≤ length t.seeds) where
    abbrev once : Store
    once = with_budget b t.header

    value_joins : (u : Tables) → Notes a once t.records u.header u.records → u.seeds ≡ t.seeds →
        Ends (λ _ w. ValueTaken constants a k t w) (λ x w. ValueRefused a x t w) (in_rows (seed_constant constants a k) u)
    value_joins u h e =
        let q : Quiet 1 0 t.header u.header = quiet_more (quiet_bill t.header (spent_bill paid)) h.quiet in
        let p = q.beside.positions in
        let c = q.beside.constants in
        let fit = noted_fits a t.header.context t.header.counts.provenance u.header.counts.provenance t.records u.records h.noted space in
        ends_through (λ w. rows w.header w.seeds) (λ w r. tables r.header r.seeds w.records) (λ w r. tables r.header r.seeds w.records) (λ y. y)
        (seed_constant constants a k) u
        (constant_joins constants a u.header u.seeds (rw e (standing_quiet q stands)) (rw p h.inside) (rw (p, e) room) k (rw c exists) (rw c few) (numbers exists))
        (λ _ r j. record {
          standing = j.standing;
          beside = beside_more q.beside j.beside;
          noted = rw (same_count j.beside) h.noted;
          fits = λ l. rw (same_count j.beside) (fit l);
          inside = h.inside;
          joined = rw (e, q.beside.limits) at j.joined;
          others = λ i d. rw e at (j.others i d);
          size = j.size ∙ ap length e;
        })
        (λ x r j. record {
          same = j.same ∙ e;
          quiet = quiet_more q j.quiet;
          noted = inr (rw (same_count j.quiet.beside) h.noted);
          fits = λ l. rw (same_count j.quiet.beside) (fit l);
          whole = λ l. absurd (omega (arith, j.late));
        })

    value_notes : Ends (λ _ w. ValueTaken constants a k t w) (λ x w. ValueRefused a x t w) ((in_records (provenance a) >> in_rows (seed_constant constants a k)) (tables once t.seeds t.records))
    value_notes =
        ends_then _ _ (tables once t.seeds t.records)
        (ends_through (λ w. records w.header w.records) (λ w r. tables r.header w.seeds r.table) (λ w r. tables r.header w.seeds r.table) (λ y. y)
        {R = λ _ u. Notes a once t.records u.header u.records × (u.seeds ≡ t.seeds)}
        {U = λ x u. ValueRefused a x t u}
        (provenance a) (tables once t.seeds t.records)
        (provenance_ends a once t.records)
        (λ _ r h. (h, refl))
        (λ x r h. record {
          same = refl;
          quiet = wider (quiet_more (quiet_bill t.header (spent_bill paid)) h.quiet);
          noted = inl (h.count, h.same);
          fits = λ l. rw h.count l;
          whole = λ l. absurd (omega (arith, h.late));
        }))
        (λ _ u h. value_joins u h.0 h.1)
        (λ x u h. h)

  pub seed_value_kept : Ends (λ _ u. ValueTaken constants a k t u) (λ x u. ValueRefused a x t u) (seed_value_call constants a k t)
  unfolding seed_value_call
  seed_value_kept =
      ends_test (eqb (length constants) size.constant_cells && sized (length t.seeds) (length t.records))
      (λ e.
      let z : length t.seeds ≡ size.argument_cells = eqb-true (length t.seeds) size.argument_cells (and_left _ (eqb (length t.records) size.record_cells) (and_right (eqb (length constants) size.constant_cells) _ e)) in
      ends_test (open? t.header)
      (λ _.
      ends_test (leb t.header.counts.constants 1024 && spacious t.header)
      (λ f.
      let c : t.header.counts.constants ≤ 1024 = leb-true t.header.counts.constants 1024 (and_left _ (spacious t.header) f) in
      let y : spacious t.header ≡ true = and_right (leb t.header.counts.constants 1024) _ f in
      let p : t.header.counts.positions ≤ 256 = leb-true t.header.counts.positions 256 (and_left _ (recordable t.header.context t.header.counts.provenance) y) in
      ends_then _ _ t
      (ends_through (λ w. w.header) (λ w s. tables s w.seeds w.records) (λ w s. tables s w.seeds w.records) (λ y. y)
      {R = λ _ u. (b : Budget) × Spent t.header.budget b × (u ≡ tables (with_budget b t.header) t.seeds t.records)}
      {U = λ x u. ValueRefused a x t u}
      (billing (work 1)) t
      (charged_ends (work 1) t.header ((spends_work 1).at t.header.budget))
      (λ _ s q. (q.0, q.1, rw q.2))
      (λ x s q. record { same = refl; quiet = rw q.4 (wider (quiet_bill t.header (spent_bill q.3))); noted = inl (rw q.4 (refl, refl)); fits = λ l. rw q.4 l; whole = λ l. absurd (omega (arith, q.0)) }))
      (λ _ u q.
      rw q.2
      (ends_test (ltb k t.header.counts.constants)
      (λ g. value_notes q.0 q.1 (ltb-true k t.header.counts.constants g) c (and_right (leb t.header.counts.positions 256) _ y) (omega arith))
      (λ _. stops record { same = refl; quiet = wider (quiet_bill t.header (spent_bill q.1)); noted = inl (refl, refl); fits = λ l. l; whole = λ l. absurd (omega arith) })))
      (λ x u q. q))
      (λ _. early _))
      (λ _. early _))
      (λ _. early _)
