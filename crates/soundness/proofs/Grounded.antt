-- A store whose tables hold what the accepted calls have said, and a round over it: from any values of the arguments, what the plain run seeds or
-- fires on values that lie in them lies in what the round gives.
use Prim.Native.Nat.{ℕ, ◌+◌, ◌*◌, ◌≤◌, ◌<◌, ◌^◌}
use native.Mathlib.Omega.{arith}
use mathlib.Core.Path.{◌≡◌, sym, subst}
use mathlib.Core.List.{List, [], ◌∷◌, map, Memᴰ}
use mathlib.Core.Option.{Option, some, none}
use lib.ListN.{length}
use Rattle.integers.specs.Lists.{All}
use Rattle.limits.specs.Metered.{Run, going}
use Rattle.limits.proofs.Ends.{Ends, completes, stops, ends_as, ends_both}
use Rattle.sizes.specs.Sizes.{value_row}
use Rattle.rows.specs.Row.{value_at}
use Rattle.rows.specs.WellFormed.{Short}
use Rattle.rows.proofs.Good.{Good}
use Rattle.lists.proofs.ListLaws.{Small}
use Rattle.keys.specs.Key.{Key}
use Rattle.rules.specs.declared.Head.{Head}
use Rattle.rules.specs.Read.{bindings_at, guards_at, heads_at}
use Rattle.slots.specs.Slots.{Slots, total, copies}
use Rattle.slots.proofs.Live.{Formed, Held, copies_ends}
use Rattle.rounds.specs.Round.{Given, given, Standing, apply, image}
use Rattle.rounds.proofs.Brings.{Brings, rows_of, Stands, rules_keep, rules_hit}
use Rattle.slots.proofs.Copied.{Same, copies_same}
use Rattle.rounds.proofs.Live.{Room, apply_keeps, image_brings, image_live}
use Rattle.input.specs.Input.{Tables}
use Rattle.input.proofs.Reached.{Reached}
use Rattle.soundness.specs.Plain.{GuardHolds, Opaque, PlainState, Choice, into, ProperKey, PlainBinding, positive, assign, range, aggregate, BindingHolds, AllHold, Fires, HeadsGive}
use Rattle.soundness.specs.Tied.{plain_binding, plain_guard, plain_head, Constants, Trees}
use Rattle.soundness.specs.Run.{Accepted, PlainRule, key_for, tree_at, Seeded, Firing, Produces}
use Rattle.soundness.proofs.Lies.{Lies}
use Rattle.soundness.proofs.Worth.{worth_proper, proper_into}
use Rattle.soundness.proofs.Binding.{Among}
use Rattle.soundness.proofs.Stored.{Stage, scene_of, Valued}
use Rattle.soundness.proofs.Round.{over, stored_fit, Has, apply_has, Hit, hit, apply_gives}

-- ---- the ties

-- a rule's row, with trees for ids, is the plain rule
pub record Stored (p : Accepted) (t : Tables) (r : PlainRule) : Type 0 where
  pub id : ℕ
  pub below : id < t.header.counts.rules
  pub bindings : r.bindings ≡ map (plain_binding (tree_at p)) (bindings_at t.rules id)
  pub guards : r.guards ≡ map (plain_guard (tree_at p)) (guards_at t.rules id)
  pub heads : r.heads ≡ map (plain_head (tree_at p)) (heads_at t.rules id)

-- a key that lies in an argument's value
pub record Inside (p : Accepted) (t : Tables) (values : List ℕ) (a : ℕ) (k : Key) : Type 0 where
  pub below : a < t.header.counts.positions
  pub proper : ProperKey k
  pub lies : Lies (key_for p) t.constants (value_at values a) k

pub record Grounded (p : Accepted) (t : Tables) : Type 0 where
  pub reached : Reached t
  pub cells : All (λ c. c < 2 ^ 32) t.constants
  pub keys : Constants (key_for p) t.constants
  pub trees : Trees (key_for p) (tree_at p) t.nodes
  pub rules : (r : PlainRule) → Memᴰ r p.rules → Stored p t r
  pub seeds : (a : ℕ) (k : Key) → Seeded p a k → Inside p t t.seeds a k

-- ---- one step of the plain run

pub data Stepped (o : Opaque) (p : Accepted) (s : PlainState) (a : ℕ) (k : Key) : Type 0 where
  seeded : Seeded p a k → Stepped o p s a k
  produced : (f : Firing) → Produces o p s f a k → Stepped o p s a k

-- more values fire as much
module _ (o : Opaque) (s u : PlainState) (more : (a : ℕ) (k : Key) → s a k → u a k) (x : ℕ → Key) where
  binding_on : (ch : Choice) (b : PlainBinding) → BindingHolds o s x ch b → BindingHolds o u x ch b
  binding_on ch (positive i a) h = more a (x i) h
  binding_on ch (assign i e) h = h
  binding_on ch (range i low high) h = h
  binding_on ch (aggregate i f) h = h

  bindings_on : (ch : Choice) (bs : List PlainBinding) → AllHold (BindingHolds o s x) ch bs → AllHold (BindingHolds o u x) ch bs
  bindings_on ch [] h = tt
  bindings_on ch (b ∷ bs) h = (binding_on (into 0 ch) b h.0, bindings_on (into 1 ch) bs h.1)

pub fires_on : (o : Opaque) (s u : PlainState) → ((a : ℕ) (k : Key) → s a k → u a k) → (p : Accepted) (f : Firing) (a : ℕ) (k : Key) → Produces o p s f a k → Produces o p u f a k
fires_on o s u more p f a k h = record {
  among = h.among;
  fires = record { bindings = bindings_on o s u more f.choices.slots (into 0 f.choices.choice) f.rule.bindings h.fires.bindings; guards = h.fires.guards };
  gives = h.gives;
}

pub stepped_on : (o : Opaque) (s u : PlainState) → ((a : ℕ) (k : Key) → s a k → u a k) → (p : Accepted) (a : ℕ) (k : Key) → Stepped o p s a k → Stepped o p u a k
stepped_on o s u more p a k (seeded h) = seeded h
stepped_on o s u more p a k (produced f h) = produced f (fires_on o s u more p f a k h)

-- ---- a round

-- what is shown for each i, beside what is shown once
pub ends_all : {E S A I : Type 0} {P : A → S → Type 0} {Q : E → S → Type 0} (T : I → A → S → Type 0) {x : Run E S A} → Ends P Q x → ((i : I) → Ends (T i) (λ _ _. Unit {0}) x) → Ends (λ a s. P a s × ((i : I) → T i a s)) Q x
ends_all T (completes {a = a} {s = s} h) f = completes (h, λ i. where_gone (f i))
  where
    where_gone : {E S A : Type 0} {P : A → S → Type 0} {Q : E → S → Type 0} {a : A} {s : S} → Ends P Q (going a s) → P a s
    where_gone (completes k) = k
ends_all T (stops h) f = stops h

module _ {p : Accepted} {t : Tables} (g : Grounded p t) (o : Opaque) (values : List ℕ) (room : Room t.header.counts.positions values) where
  abbrev n : ℕ
  n = t.header.counts.positions

  abbrev Among' : PlainState
  Among' a k = Inside p t values a k

  abbrev run : Given
  run = given (over t) t.rules t.header.counts.rules t.seeds n

  abbrev stage : Firing → Stage t
  stage f = record { reached = g.reached; cells = g.cells; opaque = o; key = key_for p; tree = tree_at p; keys = g.keys; trees = g.trees; choices = f.choices }

  valued : Valued t values
  valued = record { formed = λ a l. (room.1 a).formed; tidy = λ a l. (room.1 a).tidy }

  -- the rule's row, what it fires on, and the head that gives the value
  module _ (f : Firing) (a : ℕ) (k : Key) (h : Produces o p Among' f a k) where
    stored : Stored p t f.rule
    stored = g.rules f.rule h.among

    fires : Fires o (Among (scene_of (stage f)) values) f.choices (map (plain_binding (tree_at p)) (bindings_at t.rules stored.id)) (map (plain_guard (tree_at p)) (guards_at t.rules stored.id))
    fires =
        let e = fires_on o Among' (Among (scene_of (stage f)) values) (λ b z i. i.lies) p f a k h in
        record {
          bindings = subst (λ (l : List PlainBinding). AllHold (BindingHolds o (Among (scene_of (stage f)) values) f.choices.slots) (into 0 f.choices.choice) l) stored.bindings e.fires.bindings;
          guards = subst (AllHold (GuardHolds o f.choices.slots) (into 1 f.choices.choice)) stored.guards e.fires.guards;
        }

    given_by : Hit o f.choices.slots (tree_at p) (heads_at t.rules stored.id) a k
    given_by =
        hit o f.choices.slots (tree_at p) (into 2 f.choices.choice) (proper_into {ch = f.choices.choice} 2 record { at = f.choices.proper_choice }) (heads_at t.rules stored.id) a k
        (subst (λ l. HeadsGive o f.choices.slots (into 2 f.choices.choice) l a k) stored.heads h.gives)

    -- it is one of the store's arguments, and the value has 32 bits
    produced_inside : (a < n) × ProperKey k
    produced_inside =
        let below : given_by.head.argument < n = member (heads_at t.rules stored.id) given_by.among (stored_fit t g.reached stored.id stored.below).heads in
        (subst (λ (i : ℕ). i < n) given_by.argument below, worth_proper (scene_of (stage f)) given_by.choice given_by.proper given_by.head.value k given_by.value)
      where
        member : {x : Head} (hs : List Head) → Memᴰ x hs → All (λ h. h.argument < n) hs → x.argument < n
        member [] x3 q = elim x3 [ ]
        member (y ∷ hs) (Memᴰ.head e) q = subst (λ (z : Head). z.argument < n) (sym e) q.0
        member (y ∷ hs) (Memᴰ.tail m) q = member hs m q.1

  pub step_inside : (a : ℕ) (k : Key) → Stepped o p Among' a k → (a < n) × ProperKey k
  step_inside a k (seeded h) = let i = g.seeds a k h in (i.below, i.proper)
  step_inside a k (produced f h) = produced_inside f a k h

  -- a rule keeps what lies in a row
  keep : (a : ℕ) (k : Key) → a < n → ProperKey k → (id : ℕ) → id < t.header.counts.rules → Brings (rows_of n) (Has (key_for p) t.constants n a k) (Has (key_for p) t.constants n a k) (apply (over t) t.rules values id)
  keep a k l q id b = apply_has t g.cells (key_for p) n a l k q values room.1 id (stored_fit t g.reached id b)

  -- ---- from the copies of the seeds on

  pub seeds_good : (a : ℕ) → a < n → Good (value_at t.seeds a)
  seeds_good a l = let q = g.reached.standing.seeded.at a l in record { formed = q.formed; tidy = record { sorted = q.sorted; small = short (value_at t.seeds a).values q.formed.list } }
    where
      short : (x : Option (List ℕ)) → Short x → Small x
      short none s = tt
      short (some l) s = s.0

  module _ (e : ℕ) where
    copy_room : (s : Slots) → value_row * n ≤ length s.rows → Formed s.rows → s.meter.entries ≡ e →
        Ends (λ _ u. (u.meter.entries ≡ e + total u.rows n) × (Room n u.rows × Same t.seeds n u.rows)) (λ _ u. u.meter.entries ≡ e) (copies t.seeds 0 n s)
    unfolding total
    copy_room s r f q =
        ends_as
        (ends_both (copies_ends t.seeds n seeds_good 0 n e (omega arith) s (omega arith) record { room = omega arith; formed = f; live = omega arith })
        (copies_same t.seeds n (λ j l. (seeds_good j l).formed) 0 n (omega arith) s (omega arith) (λ j l. absurd (omega arith))))
        (λ _ u h. all u h.0 h.1) (λ _ u h. h.0)
      where
        all : (u : Slots) → Held (0 + n) e u → Same t.seeds (0 + n) u.rows → (u.meter.entries ≡ e + total u.rows n) × (Room n u.rows × Same t.seeds n u.rows)
        all u h m = let z : 0 + n ≡ n = omega arith in (rw z at h.live, ((omega (arith, h.room), h.formed), λ j l. m j (omega arith)))

    -- one step
    image_step : (a : ℕ) (k : Key) → Stepped o p Among' a k → (s : Standing) → value_row * n ≤ length s.rows → Formed s.rows → s.budget.statistics.entries ≡ e →
        Ends (λ _ u. Stands (rows_of n) e u × Has (key_for p) t.constants n a k u.rows) (λ _ u. u.budget.statistics.entries ≡ e) (image run values s)
    image_step a k (seeded h) s r f q =
        let i = g.seeds a k h in
        image_brings run values (Has (key_for p) t.constants n a k) (Has (key_for p) t.constants n a k) e
        (λ u r' f' q'. ends_as (copy_room u r' f' q') (λ _ w z. (z.0, record { room = z.1.0; lies = rw (z.1.1 a i.below) i.lies })) (λ _ w z. z))
        (λ u x y. rules_keep t.rules (apply (over t) t.rules values) (rows_of n) (Has (key_for p) t.constants n a k) e 0 t.header.counts.rules (λ id l. keep a k i.below i.proper id (omega arith)) u x y) s r f q
    image_step a k (produced j h) s r f q =
        let w = produced_inside j a k h in
        let st = stored j a k h in
        image_brings run values (Room n) (Has (key_for p) t.constants n a k) e
        (λ u r' f' q'. ends_as (copy_room u r' f' q') (λ _ z m. (m.0, m.1.0)) (λ _ z m. m))
        (λ u x y.
        rules_hit t.rules (apply (over t) t.rules values) (rows_of n) (Room n) (Has (key_for p) t.constants n a k) e 0 t.header.counts.rules st.id (omega arith) (omega (arith, st.below))
        (λ id l. apply_keeps (over t) g.cells n t.rules values room.1 id (stored_fit t g.reached id (omega arith)))
        (λ id l. keep a k w.0 w.1 id (omega arith))
        (apply_gives (stage j) values valued room.1 st.id st.below (fires j a k h) a w.0 k w.1 (given_by j a k h)) u x y) s r f q

    -- all of them
    pub image_sound : (s : Standing) → value_row * n ≤ length s.rows → Formed s.rows → s.budget.statistics.entries ≡ e →
        Ends (λ _ u. Stands (rows_of n) e u × (Room n u.rows × ((a : ℕ) (k : Key) → Stepped o p Among' a k → Inside p t u.rows a k))) (λ _ u. u.budget.statistics.entries ≡ e) (image run values s)
    image_sound s r f q =
        ends_as
        (ends_all (λ (i : (a : ℕ) × (k : Key) × Stepped o p Among' a k) _ u. Has (key_for p) t.constants n i.0 i.1 u.rows)
        (image_live run g.cells (λ id l. stored_fit t g.reached id l) seeds_good values room.1 e s r f q)
        (λ i. ends_as (image_step i.0 i.1 i.2 s r f q) (λ _ u z. z.1) (λ _ _ _. tt)))
        (λ _ u z. (z.0.0, (z.0.1, λ a k h. let w = step_inside a k h in record { below = w.0; proper = w.1; lies = (z.1 (a, k, h)).lies }))) (λ _ u z. z)
