-- What the code of slots answers is what the definitions say, over plain variables.
use Prim.Native.Nat.{ℕ, suc, ◌+◌, ◌-◌, ◌≤◌, ◌<◌}
use native.Mathlib.Omega.{arith}
use native.Mathlib.Numerals.{add-one}
use mathlib.Core.Path.{◌≡◌, refl, ap, ◌∙◌}
use mathlib.Core.List.{List}
use Rattle.std.proofs.Common.{Result}
use Rattle.std.specs.Prelude.{None}
use Rattle.integers.specs.Lists.{from}
use Rattle.limits.specs.declared.Stop.{Stop}
use Rattle.limits.specs.Metered.{Run, going, stopped, Metered, answered, ◌>>=◌, ◌>>◌}
use Rattle.limits.specs.declared.Meter.{Meter}
use Rattle.limits.specs.Meter.{work, released, with_entries}
use Rattle.limits.proofs.Onward.{Onward, onward_begins, onward_ends, bind_stops, bind_goes, then_stops, then_goes}
use Rattle.limits.proofs.Answering.{answered_through}
use Rattle.limits.proofs.Monad.{then_stop, then_on, through_on, through_stop, pure_is}
use Rattle.lattice.specs.Value.{Value}
use Rattle.lattice.specs.Lattice.{top, copied}
use Rattle.rows.specs.Row.{entries_of, value_at, put}
use Rattle.rules.specs.declared.Binding.{Binding}
use Rattle.rules.specs.declared.Binding.TheVariants.{Positive, Assign, Range, Aggregate}
use Rattle.slots.specs.Slots.{Slots, slots, paying, total, fewer, holding_rows, putting, settled, replace, meet_into, meet_owned, after_unit, each, tops, meet_argument, marked, mark_dependent, copies}

-- ---- rows that are dropped

-- k of them are
pub record Dropped (rows : List ℕ) (m : Meter) (k : ℕ) (left : Meter) : Type 0 where
  pub is : left ≡ released (total rows k) m

module _ (rows : List ℕ) (m : Meter) where
  pub dropped_none : Dropped rows m 0 m
  unfolding total
  dropped_none = let e : m.entries ≡ m.entries - total rows 0 = omega arith in record { is = ap (λ (i : ℕ). with_entries i m) e }

  pub dropped_more : {k n : ℕ} {live left : Meter} → Dropped rows m k live → n ≡ entries_of (value_at rows k) → left ≡ released n live → Dropped rows m (k + 1) left
  unfolding total
  dropped_more {k} {n} h p q =
      let e : (m.entries - total rows k) - entries_of (value_at rows k) ≡ m.entries - (total rows k + entries_of (value_at rows k)) = omega arith in
      record { is = rw (q, h.is, p, add-one k) (ap (λ (i : ℕ). with_entries i m) e) }

  pub dropped_all : {k count : ℕ} {live : Meter} → Dropped rows m k live → k ≡ count → live ≡ released (total rows count) m
  dropped_all h e = h.is ∙ ap (λ (n : ℕ). released (total rows n) m) e

-- ---- a value in the place of another

pub replaced_stop : (slot : ℕ) (f : Value → Metered Stop Meter Value) (m : Meter) (rows : List ℕ) {old : Value} {e : Stop} {t : Meter} →
    old ≡ value_at rows slot → stopped e t ≡ f old m → stopped e (slots t rows) ≡ replace slot f (slots m rows)
unfolding replace
replaced_stop slot f m rows a h = rw (← a, ← h)

pub replaced_on : (slot : ℕ) (f : Value → Metered Stop Meter Value) (m : Meter) (rows : List ℕ) {old new : Value} {t : Meter} {y : Run Stop Slots (Unit {0})} →
    old ≡ value_at rows slot → going new t ≡ f old m → y ≡ settled slot (value_at rows slot) rows (going new t) → y ≡ replace slot f (slots m rows)
unfolding replace
replaced_on slot f m rows a h k = k ∙ ap (settled slot (value_at rows slot) rows) (h ∙ ap (λ (v : Value). f v m) a)

pub owned : (constants : List ℕ) (slot : ℕ) (v : Value) (s : Slots) (r : Result (Unit {0}) Stop) (t : Meter) (rows : List ℕ) {left : Meter} {n : ℕ} →
    answered r (slots t rows) ≡ meet_into constants slot v s → n ≡ entries_of v → left ≡ released n t → answered r (slots left rows) ≡ meet_owned constants slot v s
unfolding meet_owned
owned constants slot v s r t rows h live q = rw (q, live) (answered_through (λ u. u) (λ _ u. fewer (entries_of v) u) (meet_into constants slot v) s r (slots t rows) h)

-- ---- a unit of work, and then the step

module _ (m : Metered Stop Slots (Unit {0})) (s : Meter) (rows : List ℕ) where
  pub step_stop : {e : Stop} {t : Meter} → stopped e t ≡ work 1 s → stopped e (slots t rows) ≡ after_unit m (slots s rows)
  step_stop h = then_stop (paying (work 1)) (slots s rows) m (through_stop _ _ _ _ (work 1) (slots s rows) h)

  pub step_goes : {t : Meter} {y : Run Stop Slots (Unit {0})} → going tt t ≡ work 1 s → y ≡ m (slots t rows) → y ≡ after_unit m (slots s rows)
  step_goes h k = then_on (paying (work 1)) (slots s rows) m (through_on _ _ _ _ (work 1) (slots s rows) h) k

-- ---- rows that nothing is known of

module _ (count : ℕ) (m : Meter) (rows : List ℕ) where
  abbrev pub Filling : ℕ → Meter → List ℕ → Type 0
  Filling k t now = Onward (tops 0 count) (slots m rows) (tops k (count - k)) (slots t now)

  pub filling : Filling 0 m rows
  filling = let e : count ≡ count - 0 = omega arith in onward_begins (slots m rows) (ap (tops 0) e)

  module _ {k : ℕ} {t : Meter} {now : List ℕ} (h : Filling k t now) where
    next : k < count → tops k (count - k) ≡ (after_unit (putting k (top None)) >> tops (k + 1) (count - (k + 1)))
    unfolding tops
    next l = let e : count - k ≡ suc (count - (k + 1)) = omega arith in ap (tops k) e

    pub filled : count ≤ k → going tt (slots t now) ≡ tops 0 count (slots m rows)
    unfolding tops
    filled l = let e : count - k ≡ 0 = omega arith in onward_ends h (ap (tops k) e)

    pub fill_stopped : {e : Stop} {u : Meter} → k < count → stopped e u ≡ work 1 t → stopped e (slots u now) ≡ tops 0 count (slots m rows)
    fill_stopped l w = then_stops h (after_unit (putting k (top None))) _ (next l) (step_stop (putting k (top None)) t now w)

    pub fill_more : {u : Meter} {v : Value} {now' : List ℕ} → k < count → going tt u ≡ work 1 t → v ≡ top None → now' ≡ put now k v → Filling (k + 1) u now'
    fill_more l w p q = then_goes h (after_unit (putting k (top None))) _ (next l) (step_goes (putting k (top None)) t now w (rw (q, p)))

-- ---- one after another, of a run of items

module _ {A : Type 0} (f : A → Metered Stop Slots (Unit {0})) (g : ℕ → A) (count : ℕ) (s : Slots) where
  abbrev pub Going : ℕ → Slots → Type 0
  Going j t = Onward (each f (from g 0 count)) s (each f (from g j (count - j))) t

  pub goes : Going 0 s
  goes = let e : count ≡ count - 0 = omega arith in onward_begins s (ap (λ (n : ℕ). each f (from g 0 n)) e)

  module _ {j : ℕ} {t : Slots} (h : Going j t) where
    pub gone : count ≤ j → going tt t ≡ each f (from g 0 count) s
    unfolding each from
    gone l = let e : count - j ≡ 0 = omega arith in onward_ends h (ap (λ (n : ℕ). each f (from g j n)) e)

    module _ (l : j < count) {a : A} (q : a ≡ g j) where
      next_of : each f (from g j (count - j)) ≡ (after_unit (f (g j)) >> each f (from g (j + 1) (count - (j + 1))))
      unfolding each from
      next_of = let e : count - j ≡ suc (count - (j + 1)) = omega arith in ap (λ (n : ℕ). each f (from g j n)) e

      pub one_stopped : {e : Stop} {u : Slots} → stopped e u ≡ after_unit (f a) t → stopped e u ≡ each f (from g 0 count) s
      one_stopped k = then_stops h (after_unit (f a)) (each f (from g (j + 1) (count - (j + 1)))) (rw q next_of) k

      pub one_more : {u : Slots} → going tt u ≡ after_unit (f a) t → Going (j + 1) u
      one_more k = then_goes h (after_unit (f a)) (each f (from g (j + 1) (count - (j + 1)))) (rw q next_of) k

-- ---- a binding, by its case

module _ (constants arguments : List ℕ) (s : Slots) where
  pub positive_met : {b : Binding} {slot argument : ℕ} {v : Value} {y : Run Stop Slots (Unit {0})} → b ≡ Positive slot argument → v ≡ value_at arguments argument → y ≡ meet_into constants slot v s →
      y ≡ meet_argument constants arguments b s
  positive_met q p h = h ∙ rw (q, p)

  pub other_met : (b : Binding) → ((slot argument : ℕ) → b ≡ Positive slot argument → ⊥) → going tt s ≡ meet_argument constants arguments b s
  other_met (Positive slot argument) n = absurd (n slot argument refl)
  other_met (Assign slot value) n = pure_is tt s
  other_met (Range slot low high) n = pure_is tt s
  other_met (Aggregate slot function) n = pure_is tt s

module _ (m : Meter) (rows : List ℕ) where
  pub positive_marked : {b : Binding} {slot argument : ℕ} {rows' : List ℕ} → b ≡ Positive slot argument → rows' ≡ marked rows slot (value_at rows slot).values →
      going tt (slots m rows') ≡ mark_dependent b (slots m rows)
  positive_marked q p = rw (q, p)

  pub other_marked : (b : Binding) → ((slot argument : ℕ) → b ≡ Positive slot argument → ⊥) → going tt (slots m rows) ≡ mark_dependent b (slots m rows)
  other_marked (Positive slot argument) n = absurd (n slot argument refl)
  other_marked (Assign slot value) n = pure_is tt (slots m rows)
  other_marked (Range slot low high) n = pure_is tt (slots m rows)
  other_marked (Aggregate slot function) n = pure_is tt (slots m rows)

-- ---- copies

module _ (domains : List ℕ) (count : ℕ) (s : Slots) where
  abbrev pub Copying : ℕ → Slots → Type 0
  Copying k t = Onward (copies domains 0 count) s (copies domains k (count - k)) t

  pub copying : Copying 0 s
  copying = let e : count ≡ count - 0 = omega arith in onward_begins s (ap (copies domains 0) e)

  abbrev copy : ℕ → Metered Stop Slots Value
  copy k = holding_rows k (paying (copied (value_at domains k)))

  -- what follows the copy of a row
  abbrev onward : ℕ → Value → Metered Stop Slots (Unit {0})
  onward k v = putting k v >> copies domains (k + 1) (count - (k + 1))

  module _ {k : ℕ} {t : Meter} {now : List ℕ} (h : Copying k (slots t now)) where
    pub copied_all : count ≤ k → going tt (slots t now) ≡ copies domains 0 count s
    unfolding copies
    copied_all l = let e : count - k ≡ 0 = omega arith in onward_ends h (ap (copies domains k) e)

    module _ (l : k < count) {old : Value} (a : old ≡ value_at domains k) where
      copies_next : copies domains k (count - k) ≡ (copy k >>= onward k)
      unfolding copies
      copies_next = let e : count - k ≡ suc (count - (k + 1)) = omega arith in ap (copies domains k) e

      pub copy_stopped : {e : Stop} {u left : Meter} → stopped e u ≡ copied old t → left ≡ released (total now k) u → stopped e (slots left now) ≡ copies domains 0 count s
      copy_stopped c r =
          rw r
          (bind_stops h (copy k) (onward k) copies_next
          (through_stop _ _ _ _ (paying (copied (value_at domains k))) (slots t now)
          (through_stop _ _ _ _ (copied (value_at domains k)) (slots t now) (rw a at c))))

      pub copy_made : {v : Value} {u : Meter} {now' : List ℕ} → going v u ≡ copied old t → now' ≡ put now k v → Copying (k + 1) (slots u now')
      copy_made {v} c p =
          then_goes
          (bind_goes h (copy k) (onward k) copies_next
          (through_on _ _ _ _ (paying (copied (value_at domains k))) (slots t now)
          (through_on _ _ _ _ (copied (value_at domains k)) (slots t now) (rw a at c))))
          (putting k v) (copies domains (k + 1) (count - (k + 1))) refl (rw p)
