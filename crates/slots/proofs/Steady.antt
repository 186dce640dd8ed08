-- From two states with the same rows, whatever their meters are, a computation completes with the same value and the same rows. Each of slots
-- does.
use Prim.Native.Nat.{ℕ, zero, suc, ◌+◌}
use mathlib.Core.Path.{refl, ap}
use mathlib.Core.List.{List, [], ◌∷◌}
use Rattle.limits.specs.declared.Stop.{Stop}
use Rattle.limits.specs.Metered.{Run, going, stopped, Metered}
use Rattle.limits.specs.declared.Meter.{Meter}
use Rattle.limits.specs.Meter.{work}
use Rattle.limits.proofs.Monad.{Agree, Steady, steady_unit}
use Rattle.limits.proofs.Alike.{Alike, SteadyOn, on_pure, on_bind, on_then, on_through, steady_on}
use Rattle.interval.specs.declared.Interval.{Interval}
use Rattle.std.specs.Prelude.{None}
use Rattle.lattice.specs.Value.{Value}
use Rattle.lattice.specs.Lattice.{top}
use Rattle.lattice.proofs.Steadiness.{copied_steady, meet_steady, refine_steady}
use Rattle.rows.specs.Row.{value_at, put}
use Rattle.rules.specs.declared.Binding.{Binding}
use Rattle.rules.specs.declared.Binding.TheVariants.{Positive, Assign, Range, Aggregate}
use Rattle.slots.specs.Slots.{Slots, paying, dropping, holding_rows, putting, settled, replace, meet_into, meet_owned, refine_into, after_unit, each, tops, meet_argument, marked, depending, mark_dependent, copies}

abbrev pub OnRows : {A : Type 0} → Metered Stop Slots A → Type 0
OnRows m = SteadyOn (λ s. s.rows) m

-- ---- charges, and what is dropped: the rows stay

module _ {A : Type 0} where
  pub on_paying : {m : Metered Stop Meter A} → Steady m → OnRows (paying m)
  on_paying h = on_through _ _ _ _ (λ s t e. refl) (λ s t u v e _. e) (steady_on h)

  pub on_dropping : (v : Value) {m : Metered Stop Slots A} → OnRows m → OnRows (dropping v m)
  on_dropping v h = on_through _ _ _ _ (λ s t e. e) (λ s t u v _ e. e) h

  pub on_holding : (n : ℕ) {m : Metered Stop Slots A} → OnRows m → OnRows (holding_rows n m)
  on_holding n h = on_through _ _ _ _ (λ s t e. e) (λ s t u v _ e. e) h

-- ---- one row

pub on_putting : (slot : ℕ) (v : Value) → OnRows (putting slot v)
on_putting slot v = record { same = λ s t e. (refl, ap (λ (l : List ℕ). put l slot v) e) }

settled_alike : (slot : ℕ) (old : Value) (rows : List ℕ) (x y : Run Stop Meter Value) → Agree x y → Alike (λ s. s.rows) (settled slot old rows x) (settled slot old rows y)
settled_alike slot old rows (going u m) (going v n) h = (refl, ap (put rows slot) h)
settled_alike slot old rows (going u m) (stopped e n) h = tt
settled_alike slot old rows (stopped e m) y h = tt

pub on_replace : (slot : ℕ) {f : Value → Metered Stop Meter Value} → ((v : Value) → Steady (f v)) → OnRows (replace slot f)
unfolding replace
on_replace slot {f} h = record {
  same = λ s t e.
      rw e
      (settled_alike slot (value_at t.rows slot) t.rows (f (value_at t.rows slot) s.meter) (f (value_at t.rows slot) t.meter)
      ((h (value_at t.rows slot)).same s.meter t.meter));
}

pub on_meet : (constants : List ℕ) (slot : ℕ) (v : Value) → OnRows (meet_into constants slot v)
on_meet constants slot v = on_replace slot (λ old. meet_steady constants old v)

pub on_owned : (constants : List ℕ) (slot : ℕ) (v : Value) → OnRows (meet_owned constants slot v)
unfolding meet_owned
on_owned constants slot v = on_dropping v (on_meet constants slot v)

pub on_refine : (constants : List ℕ) (slot : ℕ) (i : Interval) → OnRows (refine_into constants slot i)
on_refine constants slot i = on_replace slot (λ old. refine_steady constants old i)

-- ---- all rows

pub on_step : {m : Metered Stop Slots (Unit {0})} → OnRows m → OnRows (after_unit m)
on_step h = on_then (on_paying (steady_unit (work 1))) h

pub on_each : {A : Type 0} {f : A → Metered Stop Slots (Unit {0})} → ((a : A) → OnRows (f a)) → (l : List A) → OnRows (each f l)
unfolding each
on_each h [] = on_pure tt
on_each h (a ∷ l) = on_then (on_step (h a)) (on_each h l)

pub on_tops : (k n : ℕ) → OnRows (tops k n)
unfolding tops
on_tops k zero = on_pure tt
on_tops k (suc n) = on_then (on_step (on_putting k (top None))) (on_tops (k + 1) n)

pub on_argument : (constants arguments : List ℕ) (b : Binding) → OnRows (meet_argument constants arguments b)
on_argument constants arguments (Positive slot argument) = on_meet constants slot (value_at arguments argument)
on_argument constants arguments (Assign slot value) = on_pure tt
on_argument constants arguments (Range slot low high) = on_pure tt
on_argument constants arguments (Aggregate slot function) = on_pure tt

pub on_depending : (slot : ℕ) → OnRows (depending slot)
on_depending slot = record { same = λ s t e. (refl, ap (λ (l : List ℕ). marked l slot (value_at l slot).values) e) }

pub on_dependent : (b : Binding) → OnRows (mark_dependent b)
on_dependent (Positive slot argument) = on_depending slot
on_dependent (Assign slot value) = on_pure tt
on_dependent (Range slot low high) = on_pure tt
on_dependent (Aggregate slot function) = on_pure tt

pub on_copies : (domains : List ℕ) (k n : ℕ) → OnRows (copies domains k n)
unfolding copies
on_copies domains k zero = on_pure tt
on_copies domains k (suc n) =
    on_bind (on_holding k (on_paying (copied_steady (value_at domains k)))) (λ v. on_then (on_putting k v) (on_copies domains (k + 1) n))
