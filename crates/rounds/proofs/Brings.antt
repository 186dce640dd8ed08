-- What a step does to a table while entries are counted: beside any others, e, those of the table (`size`) are live before it and after it,
-- whichever way it ends, and where it completes it brings F of the table to G. Live entries and what a round gives are both shown with it.
use Prim.Native.Nat.{ℕ, zero, suc, ◌+◌, ◌*◌, ◌≤◌, ◌<◌}
use native.Mathlib.Omega.{arith}
use native.Mathlib.Decide.{dec_lt, ℕ_discrete}
use mathlib.Core.Path.{◌≡◌, sym, subst}
use mathlib.Core.List.{List, [], ◌∷◌, Memᴰ}
use lib.ListN.{length}
use Rattle.integers.specs.Lists.{All}
use Rattle.limits.specs.declared.Stop.{Stop}
use Rattle.limits.specs.Metered.{Run, going, stopped, Metered, pure, ◌>>◌, finally}
use Rattle.limits.specs.declared.Meter.{Meter}
use Rattle.limits.specs.Meter.{work, released, meter_of, with_meter}
use Rattle.limits.proofs.Monad.{Holds, Ensures, any_value}
use Rattle.limits.proofs.Ends.{Ends, completes, stops, ends_pure, ends_then, ends_through, on_bind, on_then}
use Rattle.limits.proofs.Live.{LiveIn, Lives, live_work, live_ends}
use Rattle.lattice.specs.Value.{Value}
use Rattle.sizes.specs.Sizes.{value_row}
use Rattle.rows.specs.Row.{entries_of, value_at, put}
use Rattle.rows.specs.WellFormed.{WellFormed}
use Rattle.rules.specs.Read.{context_at, slots_at}
use Rattle.slots.specs.Slots.{Slots, slots, fewer, total, settled, replace, dropping, after_unit, each}
use Rattle.slots.proofs.Live.{total_put, total_part}
use Rattle.evaluation.specs.Evaluation.{Input}
use Rattle.rounds.specs.Locals.{Locals, own_locals, drop_locals, with_locals}
use Rattle.rounds.specs.Round.{Standing, standing, in_table, set_context, each_rule}

pub record Brings (size : List ℕ → ℕ) (F G : List ℕ → Type 0) (m : Metered Stop Slots (Unit {0})) : Type 0 where
  pub at : (e : ℕ) (s : Slots) → s.meter.entries ≡ e + size s.rows → F s.rows →
      Ends (λ _ t. (t.meter.entries ≡ e + size t.rows) × G t.rows) (λ _ t. t.meter.entries ≡ e + size t.rows) (m s)

module _ {size : List ℕ → ℕ} where
  pub brings_pure : {F : List ℕ → Type 0} → Brings size F F (pure tt)
  brings_pure = record { at = λ e s h p. ends_pure tt s (h, p) }

  pub brings_then : {F G H : List ℕ → Type 0} {m k : Metered Stop Slots (Unit {0})} → Brings size F G m → Brings size G H k → Brings size F H (m >> k)
  brings_then {m = m} {k = k} h l = record { at = λ e s p q. ends_then m k s (h.at e s p q) (λ _ t z. l.at e t z.0 z.1) (λ _ t z. z) }

  -- a unit of work first
  pub brings_step : {F G : List ℕ → Type 0} {m : Metered Stop Slots (Unit {0})} → Brings size F G m → Brings size F G (after_unit m)
  brings_step {m = m} h = record {
    at = λ e s p q.
        on_then (λ t. t.meter) (λ t n. slots n t.rows) (λ t n. slots n t.rows) (λ x. x) (work 1) m s (live_ends (live_work 1) (any_value (work 1)) s.meter)
        (λ _ n z. h.at e (slots n s.rows) (omega (arith, z.1)) q) (λ _ n z. omega arith);
  }

  module _ {A : Type 0} (f : A → Metered Stop Slots (Unit {0})) where
    -- what each keeps, all keep
    pub brings_each : (F : List ℕ → Type 0) (l : List A) → All (λ a. Brings size F F (f a)) l → Brings size F F (each f l)
    unfolding each
    brings_each F [] h = brings_pure
    brings_each F (a ∷ l) h = brings_then (brings_step h.0) (brings_each F l h.1)

    -- what one of them brings about, and all keep, holds at the end
    pub brings_hit : (F G : List ℕ → Type 0) (a : A) (l : List A) → Memᴰ a l → All (λ b. Brings size F F (f b)) l → All (λ b. Brings size G G (f b)) l → Brings size F G (f a) → Brings size F G (each f l)
    unfolding each
    brings_hit F G a [] x4 h g hit = elim x4 [ ]
    brings_hit F G a (b ∷ l) (Memᴰ.head e) h g hit = brings_then (brings_step (subst (λ (x : A). Brings size F G (f x)) e hit)) (brings_each G l g.1)
    brings_hit F G a (b ∷ l) (Memᴰ.tail m) h g hit = brings_then (brings_step h.0) (brings_hit F G a l m h.1 g.1 hit)

-- ---- one row of a table of n values

abbrev pub rows_of : ℕ → List ℕ → ℕ
rows_of n rows = total rows n

module _ {n : ℕ} (slot : ℕ) (inside : slot < n) (f : Value → Metered Stop Meter Value) (lives : (v : Value) → Lives 0 entries_of (f v)) (F G : List ℕ → Type 0)
    (room : (rows : List ℕ) → F rows → value_row * n ≤ length rows) (gives : (rows : List ℕ) → F rows → Ensures (λ v. WellFormed v × G (put rows slot v)) (f (value_at rows slot))) where
  settles : (e : ℕ) (s : Slots) → s.meter.entries ≡ e + total s.rows n → F s.rows → (x : Run Stop Meter Value) → LiveIn s.meter.entries entries_of x → Holds (λ v. WellFormed v × G (put s.rows slot v)) x →
      Ends (λ _ t. (t.meter.entries ≡ e + total t.rows n) × G t.rows) (λ _ t. t.meter.entries ≡ e + total t.rows n) (settled slot (value_at s.rows slot) s.rows x)
  settles e s h p (going v m) l w =
      completes {s = slots (released (entries_of (value_at s.rows slot)) m) (put s.rows slot v)}
      (omega (arith, total_put s.rows slot v n inside (room s.rows p) w.0, total_part s.rows slot n inside), w.1)
  settles e s h p (stopped x m) l w = stops {s = slots m s.rows} (omega arith)

  pub brings_replace : Brings (rows_of n) F G (replace slot f)
  unfolding replace
  brings_replace = record {
    at = λ e s h p.
        let old = value_at s.rows slot in
        settles e s h p (f old s.meter) ((lives old).at s.meter.entries s.meter (omega arith)) ((gives s.rows p).at s.meter);
  }

-- what is done while a value in hand is live, which then is dropped
pub owned_brings : {size : List ℕ → ℕ} {F G : List ℕ → Type 0} (v : Value) {m : Metered Stop Slots (Unit {0})} → Brings size F G m → (e : ℕ) (s : Slots) → s.meter.entries ≡ e + entries_of v + size s.rows → F s.rows →
    Ends (λ _ t. (t.meter.entries ≡ e + size t.rows) × G t.rows) (λ _ t. t.meter.entries ≡ e + size t.rows) (dropping v m s)
owned_brings {size} {G = G} v {m} h e s p q =
    ends_through (λ t. t) (λ _ t. fewer (entries_of v) t) (λ _ t. fewer (entries_of v) t) (λ x. x)
    {P = λ _ t. (t.meter.entries ≡ e + entries_of v + size t.rows) × G t.rows} {Q = λ _ t. t.meter.entries ≡ e + entries_of v + size t.rows}
    m s (h.at (e + entries_of v) s p q) (λ _ t z. (omega (arith, z.0), z.1)) (λ _ t z. omega arith)

-- ---- with a rule's slots, which are dropped in the end

-- the entries of both tables
abbrev pub held : ℕ → Locals → ℕ
held n l = total l.domains n + total l.produced n

module _ (i : Input) (rules : List ℕ) (id : ℕ) (arguments : List ℕ) (L : Locals → Type 0)
    (made : (m : Meter) → Ends (λ l n. (n.entries ≡ m.entries + held (slots_at rules id) l) × L l) (λ _ n. n.entries ≡ m.entries) (own_locals i rules id arguments m)) where
  pub brings_locals : {size : List ℕ → ℕ} {F G : List ℕ → Type 0} {m : Locals → Metered Stop Slots (Unit {0})} → ((l : Locals) → L l → Brings size F G (m l)) → Brings size F G (with_locals i rules id arguments m)
  unfolding with_locals
  brings_locals {size} {F} {G} {m} h = record {
    at = λ e s p q.
        on_bind (λ t. t.meter) (λ t n. slots n t.rows) (λ t n. slots n t.rows) (λ x. x) (own_locals i rules id arguments) (λ l. finally (drop_locals (slots_at rules id) l.domains l.produced) (m l)) s (made s.meter)
        (λ l n z. dropped e l (h l z.1) (slots n s.rows) (omega (arith, z.0)) q)
        (λ _ n z. omega arith);
  }
    where
      dropped : (e : ℕ) (l : Locals) → Brings size F G (m l) → (s : Slots) → s.meter.entries ≡ e + held (slots_at rules id) l + size s.rows → F s.rows →
          Ends (λ _ t. (t.meter.entries ≡ e + size t.rows) × G t.rows) (λ _ t. t.meter.entries ≡ e + size t.rows) (finally (drop_locals (slots_at rules id) l.domains l.produced) (m l) s)
      dropped e l b s p q =
          ends_through (λ t. t) (λ _ t. drop_locals (slots_at rules id) l.domains l.produced t) (λ _ t. drop_locals (slots_at rules id) l.domains l.produced t) (λ x. x)
          {P = λ _ t. (t.meter.entries ≡ e + held (slots_at rules id) l + size t.rows) × G t.rows} {Q = λ _ t. t.meter.entries ≡ e + held (slots_at rules id) l + size t.rows}
          (m l) s (b.at (e + held (slots_at rules id) l) s p q) (λ _ t z. (omega (arith, z.0), z.1)) (λ _ t z. omega arith)

-- ---- all rules; the context in force and the other counts are not looked at

abbrev pub Stands : (List ℕ → ℕ) → ℕ → Standing → Type 0
Stands size e s = s.budget.statistics.entries ≡ e + size s.rows

module _ (rules : List ℕ) (f : ℕ → Metered Stop Slots (Unit {0})) (size : List ℕ → ℕ) where
  -- one rule, and then the others
  first : (F G H : List ℕ → Type 0) (e k n : ℕ) → Brings size F G (f k) →
      ((s : Standing) → Stands size e s → G s.rows → Ends (λ _ t. Stands size e t × H t.rows) (λ _ t. Stands size e t) (each_rule rules f (k + 1) n s)) →
      (s : Standing) → Stands size e s → F s.rows → Ends (λ _ t. Stands size e t × H t.rows) (λ _ t. Stands size e t) (each_rule rules f k (suc n) s)
  unfolding each_rule
  first F G H e k n h more s p q =
      ends_then {P = λ _ t. Stands size e t × F t.rows} {Q = λ _ t. Stands size e t} (set_context (context_at rules k)) (in_table (f k) >> each_rule rules f (k + 1) n) s (completes (p, q))
      (λ _ t z.
      on_then (λ u. slots (meter_of u.budget) u.rows) (λ u v. standing (with_meter v.meter u.budget) u.context v.rows) (λ u v. standing (with_meter v.meter u.budget) u.context v.rows) (λ x. x)
      (f k) (each_rule rules f (k + 1) n) t (h.at e (slots (meter_of t.budget) t.rows) z.0 z.1) (λ _ u r. more (standing (with_meter u.meter t.budget) t.context u.rows) r.0 r.1) (λ _ u r. r))
      (λ _ t z. z)

  -- what each rule keeps, all keep
  pub rules_keep : (F : List ℕ → Type 0) (e k n : ℕ) → ((id : ℕ) → id < k + n → Brings size F F (f id)) → (s : Standing) → Stands size e s → F s.rows →
      Ends (λ _ t. Stands size e t × F t.rows) (λ _ t. Stands size e t) (each_rule rules f k n s)
  unfolding each_rule
  rules_keep F e k zero h s p q = ends_pure tt s (p, q)
  rules_keep F e k (suc n) h s p q = first F F F e k n (h k (omega arith)) (λ t r z. rules_keep F e (k + 1) n (λ id b. h id (omega arith)) t r z) s p q

  -- what one of them brings about, and all keep, holds at the end
  pub rules_hit : (F G : List ℕ → Type 0) (e k n j : ℕ) → k ≤ j → j < k + n → ((id : ℕ) → id < k + n → Brings size F F (f id)) → ((id : ℕ) → id < k + n → Brings size G G (f id)) → Brings size F G (f j) →
      (s : Standing) → Stands size e s → F s.rows → Ends (λ _ t. Stands size e t × G t.rows) (λ _ t. Stands size e t) (each_rule rules f k n s)
  rules_hit F G e k zero j a b h g hit s p q = absurd (omega arith)
  rules_hit F G e k (suc n) j a b h g hit s p q = elim (ℕ_discrete k j) [
    | yes d ↦ first F G G e k n (subst (λ (i : ℕ). Brings size F G (f i)) (sym d) hit) (λ t r z. rules_keep G e (k + 1) n (λ id c. g id (omega arith)) t r z) s p q
    | no d ↦
        let l : k + 1 ≤ j = later d in
        first F F G e k n (h k (omega arith)) (λ t r z. rules_hit F G e (k + 1) n j l (omega arith) (λ id c. h id (omega arith)) (λ id c. g id (omega arith)) hit t r z) s p q
  ]
    where
      later : (k ≡ j → ⊥) → k + 1 ≤ j
      later d = elim (dec_lt k j) [ yes m ↦ omega arith | no m ↦ absurd (d (omega arith)) ]
