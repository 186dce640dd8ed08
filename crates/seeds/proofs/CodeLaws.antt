-- What the code's answers are, over plain variables: values, seeds, and the thresholds of an interval's ends.
use Prim.Native.Nat.{ℕ, ◌+◌, ◌≤◌}
use native.Mathlib.Omega.{arith}
use mathlib.Core.Path.{◌≡◌, refl, ap, ◌∙◌}
use mathlib.Core.Bool.{Bool, true, false}
use mathlib.Core.List.{List}
use lib.IntN.{ℤ}
use Rattle.limits.specs.declared.Stop.{Stop}
use Rattle.limits.specs.declared.Budget.{Budget}
use Rattle.limits.specs.declared.Refusal.TheVariants.{Limit}
use Rattle.limits.specs.Refusal.{Told, told, replied}
use Rattle.limits.specs.declared.Refusal.{Refusal}
use Rattle.limits.proofs.Answering.{replied_through}
use Rattle.limits.specs.declared.Meter.{Meter}
use Rattle.limits.specs.Metered.{Run, going, stopped, Metered, answered, mapped, through, seen}
use Rattle.std.proofs.Common.{Result, Ok, Err}
use Rattle.limits.specs.Meter.{released as fewer, held_through, meter_of, with_meter, holding}
use Rattle.limits.specs.Budget.{released, widened_once}
use Rattle.limits.proofs.Monad.{bind_stop, bind_on, then_stop, then_on, through_on, through_stop}
use Rattle.interval.specs.declared.Interval.TheVariants.{Bounded}
use Rattle.interval.specs.declared.Constant.{Constant}
use Rattle.lattice.specs.declared.Abstract.{Abstract}
use Rattle.lattice.specs.Value.{Value, value_of}
use Rattle.lattice.specs.Constants.{constant_at}
use Rattle.lattice.specs.Lattice.{numeric, constant, join, loses}
use Rattle.rows.specs.Row.{entries_of, value_at, put}
use Rattle.thresholds.specs.Thresholds.{Entry, entry, around}
use Rattle.thresholds.proofs.Sorted.{Ending, Grows, around_grows}
use Rattle.store.specs.declared.Store.{Store}
use Rattle.store.specs.Store.{with_budget, with_thresholds}
use Rattle.store.specs.Calls.{Marks, marks, entering}
use Rattle.seeds.specs.Seed.{dropped, joined, Rows, rows, paying, seed, constant_value, seed_constant, marking, ends, seed_ends}

-- ---- the live entries of a value

module _ (old v new : Value) (b : Budget) {m n : ℕ} (p : m ≡ entries_of old) (q : n ≡ entries_of v) {t : Bool} (l : t ≡ loses old.values new.values) {r : Budget} where
  pub drop_lost : {c : Budget} → t ≡ true → c ≡ widened_once b → r ≡ released (m + n) c → r ≡ dropped old v new b
  drop_lost e c d = rw (d, c, ← l, e, p, q)

  pub drop_kept : t ≡ false → r ≡ released (m + n) b → r ≡ dropped old v new b
  drop_kept e d = rw (d, ← l, e, p, q)

-- ---- a step and then `Meter::holding`, whose value is seen

abbrev over : {A B : Type 0} → (A → B) → Run Stop Meter A → Run Stop Meter B
over f (going a m) = going (f a) m
over f (stopped e m) = stopped e m

seen_over : {A B : Type 0} (f : A → B) (r : Result A Stop) (m : Meter) → seen f r m ≡ over f (answered r m)
seen_over f (Ok a) m = refl
seen_over f (Err e) m = refl

pub held_seen : {A B : Type 0} (f : A → B) (n : ℕ) (c : Metered Stop Meter B) (m : Meter) (x r : Result A Stop) (m₁ m₂ : Meter) → seen f x m₁ ≡ c m → answered r m₂ ≡ held_through n x m₁ →
    seen f r m₂ ≡ holding n c m
unfolding through mapped
held_seen f n c m x r m₁ m₂ h k = seen_over f r m₂ ∙ ap (over f) k ∙ go x ∙ ap (mapped (λ t. t) (fewer n) (λ e. e)) h
  where
    go : (x : Result _ Stop) → over f (held_through n x m₁) ≡ mapped (λ t. t) (fewer n) (λ e. e) (seen f x m₁)
    go (Ok a) = refl
    go (Err e) = refl

-- ---- a join in a budget

module _ (old v : Value) (b : Budget) (m : Meter) where
  pub join_stopped : {s : Stop} → stopped s m ≡ holding (entries_of v) (join b.limits.width old v) (meter_of b) → stopped s (with_meter m b) ≡ joined old v b
  unfolding joined
  join_stopped h = bind_stop _ b _ (through_stop _ _ _ _ (holding (entries_of v) (join b.limits.width old v)) b h)

  pub join_done : {new : Value} → going new m ≡ holding (entries_of v) (join b.limits.width old v) (meter_of b) → going new (dropped old v new (with_meter m b)) ≡ joined old v b
  unfolding joined
  join_done h = bind_on _ b _ (through_on _ _ _ _ (holding (entries_of v) (join b.limits.width old v)) b h) refl

-- ---- the value of a constant

pub constant_made : (constants : List ℕ) (k : ℕ) (b : Budget) (r : Result Abstract Stop) (m : Meter) {x : Constant} → x ≡ constant_at constants k → seen value_of r m ≡ constant k x b.limits.width (meter_of b) →
    seen value_of r (with_meter m b) ≡ constant_value constants k b
unfolding constant_value through mapped
constant_made constants k b r m e h = rw (← e, ← h) (go r)
  where
    go : (r : Result Abstract Stop) → seen value_of r (with_meter m b) ≡ mapped (λ n. with_meter n b) (λ n. with_meter n b) (λ e. e) (seen value_of r m)
    go (Ok v) = refl
    go (Err e) = refl

-- ---- seeds

-- what is charged in a call
module _ {A : Type 0} (m : Metered Stop Budget A) (s : Store) (t : List ℕ) where
  pub paying_on : {a : A} {b : Budget} → going a b ≡ m s.budget → going a (rows (with_budget b s) t) ≡ paying m (rows s t)
  unfolding through mapped
  paying_on h = rw (← h)

  pub paying_stop : {e : Stop} {b : Budget} → stopped e b ≡ m s.budget → stopped (told (Limit e)) (rows (with_budget b s) t) ≡ paying m (rows s t)
  unfolding through mapped
  paying_stop h = rw (← h)

module _ (a : ℕ) (v : Value) (s : Store) (t : List ℕ) {old : Value} (o : old ≡ value_at t a) {b : Budget} where
  pub seed_stopped : {e : Stop} → stopped e b ≡ joined old v s.budget → stopped (told (Limit e)) (rows (with_budget b s) t) ≡ seed a v (rows s t)
  unfolding seed
  seed_stopped h = rw (← o) (bind_stop _ (rows s t) _ (paying_stop (joined old v) s t h))

  pub seed_done : {new : Value} {t' : List ℕ} → going new b ≡ joined old v s.budget → t' ≡ put t a new → going tt (rows (with_budget b s) t') ≡ seed a v (rows s t)
  unfolding seed
  seed_done h p = rw (← o) (bind_on _ (rows s t) _ (paying_on (joined old v) s t h) (rw p))

module _ (constants : List ℕ) (a id : ℕ) (s : Store) (t : List ℕ) {b : Budget} where
  pub seed_constant_stopped : {e : Stop} → stopped e b ≡ constant_value constants id s.budget → stopped (told (Limit e)) (rows (with_budget b s) t) ≡ seed_constant constants a id (rows s t)
  seed_constant_stopped h = bind_stop _ (rows s t) _ (paying_stop (constant_value constants id) s t h)

  pub seed_constant_done : {v : Value} {y : Run Told Rows (Unit {0})} → going v b ≡ constant_value constants id s.budget → y ≡ seed a v (rows (with_budget b s) t) → y ≡ seed_constant constants a id (rows s t)
  seed_constant_done h k = bind_on _ (rows s t) _ (paying_on (constant_value constants id) s t h) k

-- ---- an interval's ends

-- at most three thresholds more
pub low_room : (low : ℤ) (s : Store) (t : List ℤ) {t₁ : List ℤ} {u : Store} → going tt (marks u t₁) ≡ entering (around low) (marks s t) → u.counts.thresholds ≤ s.counts.thresholds + 3
unfolding through mapped
low_room low s t {t₁} {u} h = go (around low (entry s.budget s.counts.thresholds t)) (around_grows low (entry s.budget s.counts.thresholds t)) h
  where
    go : (x : Run Stop Entry (Unit {0})) → Ending (Grows 3 (entry s.budget s.counts.thresholds t)) (Grows 3 (entry s.budget s.counts.thresholds t)) x →
        going tt (marks u t₁) ≡
        mapped (λ m. m) (λ m. m) (λ e. told (Limit e))
        (mapped (λ e. marks (with_thresholds e.count (with_budget e.budget s)) e.table) (λ e. marks (with_thresholds e.count (with_budget e.budget s)) e.table) (λ e. e) x) →
        u.counts.thresholds ≤ s.counts.thresholds + 3
    go (going a n) g k =
        let e : marks u t₁ ≡ marks (with_thresholds n.count (with_budget n.budget s)) n.table = cc in
        let f : u.counts.thresholds ≡ n.count = ap (λ (m : Marks). m.header.counts.thresholds) e in
        omega (arith, f, g.2)
    go (stopped e n) g k = let z : ◌≡◌ {A = ℕ} 0 1 = cc in absurd (omega arith)

module _ (a : ℕ) (low high : ℤ) (s : Store) (t : List ℕ) (h : List ℤ) {u : Store} {h₁ : List ℤ} where
  pub ends_stopped : {x : Told} → stopped x (marks u h₁) ≡ (marking low high) (marks s h) → stopped x (ends u t h₁) ≡ seed_ends a low high (ends s t h)
  unfolding seed_ends
  ends_stopped e = then_stop _ (ends s t h) _ (through_stop _ _ _ _ (marking low high) (ends s t h) e)

  module _ (e : going tt (marks u h₁) ≡ (marking low high) (marks s h)) where
    pub ends_went : (r : Result (Unit {0}) Refusal) (w : Store) (t' : List ℕ) {v : Value} → v ≡ numeric (Bounded low high) → replied r (rows w t') ≡ seed a v (rows u t) → replied r (ends w t' h₁) ≡ seed_ends a low high (ends s t h)
    unfolding seed_ends
    ends_went r w t' n k =
        then_on _ (ends s t h) _ (through_on _ _ _ _ (marking low high) (ends s t h) e)
        (replied_through (λ e. rows e.header e.seeds) (λ r e. ends r.header r.seeds e.thresholds) (seed a (numeric (Bounded low high))) (ends u t h₁) r _ (rw (← n) k))
