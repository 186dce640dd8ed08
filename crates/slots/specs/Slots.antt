-- The values of a rule's slots, before guards and after (`domains` and `produced` of transfer.rs): rows of a table, changed one by one.
use Rattle.std.specs.Prelude.{ℕ, zero, suc, ◌+◌, ◌*◌, List, [], ◌∷◌, replicate}
use Rattle.sizes.specs.Sizes as size
use Rattle.std.proofs.Math.Option.{Option, some, none}
use Rattle.limits.specs.declared.Stop.{Stop}
use Rattle.limits.specs.Metered.{Run, going, stopped, Metered, pure, ◌>>=◌, ◌>>◌, on_stop, finally, zoom}
use Rattle.limits.specs.declared.Meter.{Meter}
use Rattle.limits.specs.Meter.{work, released}
use Rattle.interval.specs.declared.Interval.{Interval}
use Rattle.lattice.specs.declared.Widening.TheVariants.{Dependency}
use Rattle.std.specs.Prelude.{None, Some}
use Rattle.lattice.specs.Value.{Value, value}
use Rattle.lattice.specs.Lattice.{top, copied, meet, refine}
use Rattle.rows.specs.Row.{entries_of, value_at, put}
use Rattle.rules.specs.declared.Binding.{Binding}
use Rattle.rules.specs.declared.Binding.TheVariants.{Positive, Assign, Range, Aggregate}

-- the counts, and a table of values
pub record Slots : Type 0 where
  pub meter : Meter
  pub rows : List ℕ

abbrev pub slots : Meter → List ℕ → Slots
slots m t = record { meter = m; rows = t }

-- a table of n rows that nothing has been written into
abbrev pub blank : ℕ → List ℕ
blank n = replicate (size.value_row * n) 0

abbrev pub paying : {A : Type 0} → Metered Stop Meter A → Metered Stop Slots A
paying = zoom (λ s. s.meter) (λ m s. slots m s.rows)

-- ---- what is dropped

-- the entries of the first n rows
unfoldable pub total : List ℕ → ℕ → ℕ
total rows zero = 0
total rows (suc n) = total rows n + entries_of (value_at rows n)

abbrev pub fewer : ℕ → Slots → Slots
fewer n s = slots (released n s.meter) s.rows

-- m while a value in hand is live, which is dropped whichever way m ends
abbrev pub dropping : {A : Type 0} → Value → Metered Stop Slots A → Metered Stop Slots A
dropping v m = finally (fewer (entries_of v)) m

-- m while the first n rows are live, which are dropped where m is stopped
abbrev pub holding_rows : {A : Type 0} → ℕ → Metered Stop Slots A → Metered Stop Slots A
holding_rows n m = on_stop (λ s. fewer (total s.rows n) s) m

-- ---- one row

abbrev pub putting : ℕ → Value → Metered Stop Slots (Unit {0})
putting slot v s = going tt (slots s.meter (put s.rows slot v))

-- the new value takes the place of the old one, which is dropped; a stop leaves the old one
abbrev pub settled : ℕ → Value → List ℕ → Run Stop Meter Value → Run Stop Slots (Unit {0})
settled slot old rows (going new m) = going tt (slots (released (entries_of old) m) (put rows slot new))
settled slot old rows (stopped e m) = stopped e (slots m rows)

unfoldable pub replace : ℕ → (Value → Metered Stop Meter Value) → Metered Stop Slots (Unit {0})
replace slot f s = settled slot (value_at s.rows slot) s.rows (f (value_at s.rows slot) s.meter)

-- `domains[slot] = domains[slot].meet(value)`
abbrev pub meet_into : List ℕ → ℕ → Value → Metered Stop Slots (Unit {0})
meet_into constants slot v = replace slot (λ old. meet constants old v)

-- the same with a value in hand, which is dropped after the meet
unfoldable pub meet_owned : List ℕ → ℕ → Value → Metered Stop Slots (Unit {0})
meet_owned constants slot v = dropping v (meet_into constants slot v)

-- `produced[slot] = produced[slot].refine(interval)`
abbrev pub refine_into : List ℕ → ℕ → Interval → Metered Stop Slots (Unit {0})
refine_into constants slot i = replace slot (λ old. refine constants old i)

-- ---- all rows

-- a unit of work before each
abbrev pub after_unit : Metered Stop Slots (Unit {0}) → Metered Stop Slots (Unit {0})
after_unit m = paying (work 1) >> m

unfoldable pub each : {A : Type 0} → (A → Metered Stop Slots (Unit {0})) → List A → Metered Stop Slots (Unit {0})
each f [] = pure tt
each f (a ∷ l) = after_unit (f a) >> each f l

-- rows that nothing is known of, n of them from k on
unfoldable pub tops : ℕ → ℕ → Metered Stop Slots (Unit {0})
tops k zero = pure tt
tops k (suc n) = after_unit (putting k (top None)) >> tops (k + 1) n

-- transfer.rs: "Positive occurrences constrain complete bindings, regardless of join order."
abbrev pub meet_argument : List ℕ → List ℕ → Binding → Metered Stop Slots (Unit {0})
meet_argument constants arguments (Positive slot argument) = meet_into constants slot (value_at arguments argument)
meet_argument constants arguments (Assign slot e) = pure tt
meet_argument constants arguments (Range slot low high) = pure tt
meet_argument constants arguments (Aggregate slot function) = pure tt

-- the reason of a slot without a list is then that it depends on an argument, whatever it was before
abbrev pub marked : List ℕ → ℕ → Option (List ℕ) → List ℕ
marked rows slot none = put rows slot (value (value_at rows slot).bound none (Some Dependency))
marked rows slot (some l) = rows

abbrev pub depending : ℕ → Metered Stop Slots (Unit {0})
depending slot s = going tt (slots s.meter (marked s.rows slot (value_at s.rows slot).values))

abbrev pub mark_dependent : Binding → Metered Stop Slots (Unit {0})
mark_dependent (Positive slot argument) = depending slot
mark_dependent (Assign slot e) = pure tt
mark_dependent (Range slot low high) = pure tt
mark_dependent (Aggregate slot function) = pure tt

-- copies of the rows of `domains`, n of them from k on
unfoldable pub copies : List ℕ → ℕ → ℕ → Metered Stop Slots (Unit {0})
copies domains k zero = pure tt
copies domains k (suc n) = do
  v ← holding_rows k (paying (copied (value_at domains k)))
  putting k v
  copies domains (k + 1) n
