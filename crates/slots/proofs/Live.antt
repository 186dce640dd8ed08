-- Live entries of a table of slots. Beside any others, e, the entries of its rows are live, before a step and after it, whichever way it ends;
-- whoever lends the table drops them where the step is stopped.
use Prim.Native.Nat.{ℕ, zero, suc, ◌+◌, ◌*◌, ◌^◌, ◌≤◌, ◌<◌}
use native.Mathlib.Omega.{arith}
use native.Mathlib.Nat.{add-zero}
use native.Mathlib.Decide.{dec_lt, ℕ_discrete}
use native.Mathlib.Numerals.{add-one}
use mathlib.Core.Path.{◌≡◌, refl, sym, ap, ◌∙◌}
use mathlib.Core.List.{List, [], ◌∷◌}
use mathlib.Core.Option.{Option, some, none}
use lib.ListN.{length}
use Rattle.integers.specs.Lists.{All}
use Rattle.limits.specs.declared.Stop.{Stop}
use Rattle.limits.specs.Metered.{Run, going, stopped, Metered, pure, ◌>>◌}
use Rattle.limits.specs.declared.Meter.{Meter}
use Rattle.limits.specs.Meter.{work, released}
use Rattle.limits.proofs.Monad.{Holds, Ensures, any_value}
use Rattle.limits.proofs.Ends.{Ends, completes, stops, ends_pure, ends_then, ends_bind, ends_through, ends_as}
use Rattle.limits.proofs.Live.{LiveIn, Lives, live_work, live_as, live_ends}
use Rattle.interval.specs.declared.Interval.{Interval}
use Rattle.std.specs.Prelude.{None, Some}
use Rattle.lattice.specs.declared.Widening.TheVariants.{Dependency}
use Rattle.lattice.specs.Value.{Value, value}
use Rattle.lattice.specs.Lattice.{top, copied, meet, refine}
use Rattle.lattice.proofs.LiveLaws.{meet_lives, refine_lives, copied_lives}
use Rattle.sizes.specs.Sizes.{value_row}
use Rattle.rows.specs.Row.{list_of, entries_of, value_at, put}
use Rattle.rows.specs.WellFormed.{Proper, WellFormed}
use Rattle.rows.proofs.RowLaws.{size_is, length_put, put_back, put_other}
use Rattle.rows.proofs.Good.{Good, meet_good, refine_good, copied_good, top_good}
use Rattle.rules.specs.declared.Binding.{Binding}
use Rattle.rules.specs.declared.Binding.TheVariants.{Positive, Assign, Range, Aggregate}
use Rattle.slots.specs.Slots.{Slots, slots, paying, fewer, holding_rows, total, putting, settled, replace, meet_into, meet_owned, refine_into, after_unit, each, tops, meet_argument, marked, depending, mark_dependent, copies}

-- ---- sums over rows

pub total_same : (rows rows' : List ℕ) (n : ℕ) → ((i : ℕ) → i < n → value_at rows' i ≡ value_at rows i) → total rows' n ≡ total rows n
unfolding total
total_same rows rows' zero h = refl
total_same rows rows' (suc n) h =
    let d : entries_of (value_at rows' n) ≡ entries_of (value_at rows n) = ap entries_of (h n (omega arith)) in
    omega (arith, total_same rows rows' n (λ i l. h i (omega arith)))

module _ (rows : List ℕ) (slot : ℕ) (v : Value) where
  -- the rows before a row that is put
  pub total_before : (n : ℕ) → n ≤ slot → total (put rows slot v) n ≡ total rows n
  total_before n h = total_same rows (put rows slot v) n (λ i l. put_other rows slot v i (λ e. omega arith))

  -- one value in the place of another
  pub total_put : (n : ℕ) → slot < n → value_row * n ≤ length rows → WellFormed v → total (put rows slot v) n + entries_of (value_at rows slot) ≡ total rows n + entries_of v
  unfolding total
  total_put zero l r w = absurd (omega arith)
  total_put (suc n) l r w = elim (ℕ_discrete slot n) [
    | yes e ↦
        let p : entries_of (value_at (put rows slot v) n) ≡ entries_of v = ap entries_of (ap (value_at (put rows slot v)) (sym e) ∙ put_back rows slot v (omega arith) w) in
        let q : entries_of (value_at rows slot) ≡ entries_of (value_at rows n) = ap (λ (i : ℕ). entries_of (value_at rows i)) e in
        omega (arith, total_before n (omega arith))
    | no d ↦
        let p : entries_of (value_at (put rows slot v) n) ≡ entries_of (value_at rows n) = ap entries_of (put_other rows slot v n (λ e. d (sym e))) in
        let b : slot < n = below d in
        omega (arith, total_put n b (omega arith) w)
  ]
    where
      below : (slot ≡ n → ⊥) → slot < n
      below d = elim (dec_lt slot n) [ yes k ↦ k | no k ↦ absurd (d (omega arith)) ]

pub total_part : (rows : List ℕ) (slot n : ℕ) → slot < n → entries_of (value_at rows slot) ≤ total rows n
unfolding total
total_part rows slot zero l = absurd (omega arith)
total_part rows slot (suc n) l = elim (dec_lt slot n) [
  | yes m ↦ omega (arith, total_part rows slot n m)
  | no m ↦
      let e : slot ≡ n = omega arith in
      let p : entries_of (value_at rows slot) ≡ entries_of (value_at rows n) = ap (λ (i : ℕ). entries_of (value_at rows i)) e in
      omega arith
]

-- ---- a table of n values

-- each value is one that the engine makes, beyond the n rows too, where nothing has been written yet
abbrev pub Formed : List ℕ → Type 0
Formed rows = (i : ℕ) → Good (value_at rows i)

pub record Held (n e : ℕ) (s : Slots) : Type 0 where
  pub room : value_row * n ≤ length s.rows
  pub formed : Formed s.rows
  pub live : s.meter.entries ≡ e + total s.rows n

pub formed_put : (rows : List ℕ) (slot : ℕ) (v : Value) → value_row * slot + value_row ≤ length rows → Good v → Formed rows → Formed (put rows slot v)
formed_put rows slot v r w f i = elim (ℕ_discrete i slot) [
  | yes e ↦ rw (e, put_back rows slot v r w.formed) w
  | no d ↦ rw (put_other rows slot v i d) (f i)
]

-- one value in the place of another
pub held_put : {n e : ℕ} {m m' : Meter} {rows : List ℕ} (slot : ℕ) (v : Value) → slot < n → Good v → Held n e (slots m rows) → m'.entries + entries_of (value_at rows slot) ≡ m.entries + entries_of v →
    Held n e (slots m' (put rows slot v))
held_put {n} {rows = rows} slot v l w h q = record {
  room = omega (arith, length_put rows slot v, h.room);
  formed = formed_put rows slot v (omega (arith, h.room)) w h.formed;
  live = omega (arith, total_put rows slot v n l h.room w.formed, h.live);
}

-- m leaves the entries of n rows live, beside any others
pub record Keeps (n : ℕ) (m : Metered Stop Slots (Unit {0})) : Type 0 where
  pub at : (e : ℕ) (s : Slots) → Held n e s → Ends (λ _ t. Held n e t) (λ _ t. Held n e t) (m s)

pub keeps_pure : {n : ℕ} → Keeps n (pure tt)
keeps_pure = record { at = λ e s h. ends_pure tt s h }

pub keeps_then : {n : ℕ} {m k : Metered Stop Slots (Unit {0})} → Keeps n m → Keeps n k → Keeps n (m >> k)
keeps_then {m = m} {k = k} h l = record { at = λ e s p. ends_then m k s (h.at e s p) (λ _ t q. l.at e t q) (λ _ t q. q) }

-- where the one who lends the rows drops them
pub held_rows : {n : ℕ} {m : Metered Stop Slots (Unit {0})} → Keeps n m → (e : ℕ) (s : Slots) → Held n e s → Ends (λ _ t. Held n e t) (λ _ t. t.meter.entries ≡ e) (holding_rows n m s)
held_rows {n} {m} h e s p =
    ends_through (λ t. t) (λ _ t. t) (λ _ t. fewer (total t.rows n) t) (λ x. x) {P = λ _ t. Held n e t} {Q = λ _ t. Held n e t} m s (h.at e s p) (λ _ t q. q) (λ _ t q. omega (arith, q.live))

-- ---- a charge of work

-- the same rows, beside other entries
pub held_as : {n e e' : ℕ} {s t : Slots} → t.rows ≡ s.rows → t.meter.entries + e ≡ s.meter.entries + e' → Held n e s → Held n e' t
held_as {n} r q h = record { room = rw r h.room; formed = rw r h.formed; live = omega (arith, h.live, ap (λ (l : List ℕ). total l n) r) }

work_ends : {n e : ℕ} (s : Slots) → Held n e s → Ends (λ _ t. (t.rows ≡ s.rows) × Held n e t) (λ _ t. (t.rows ≡ s.rows) × Held n e t) (paying (work 1) s)
work_ends {n} {e} s h =
    ends_through (λ t. t.meter) (λ t m. slots m t.rows) (λ t m. slots m t.rows) (λ x. x) (work 1) s
    (live_ends (live_work 1) (any_value (work 1)) s.meter) (λ _ m q. (refl, held_as refl (omega (arith, q.1)) h)) (λ _ m q. (refl, held_as refl (omega arith) h))

pub keeps_step : {n : ℕ} {m : Metered Stop Slots (Unit {0})} → Keeps n m → Keeps n (after_unit m)
keeps_step {m = m} h = record { at = λ e s p. ends_then (paying (work 1)) m s (work_ends s p) (λ _ t q. h.at e t q.1) (λ _ t q. q.1) }

pub keeps_each : {A : Type 0} {n : ℕ} (f : A → Metered Stop Slots (Unit {0})) (l : List A) → All (λ a. Keeps n (f a)) l → Keeps n (each f l)
unfolding each
keeps_each f [] h = keeps_pure
keeps_each f (a ∷ l) h = keeps_then (keeps_step h.0) (keeps_each f l h.1)

-- ---- one row

module _ {n : ℕ} (slot : ℕ) (inside : slot < n) (f : Value → Metered Stop Meter Value) (lives : (v : Value) → Lives 0 entries_of (f v)) (formed : (v : Value) → Good v → Ensures Good (f v)) where
  settles : (e : ℕ) (s : Slots) → Held n e s → (x : Run Stop Meter Value) → LiveIn s.meter.entries entries_of x → Holds Good x →
      Ends (λ _ t. Held n e t) (λ _ t. Held n e t) (settled slot (value_at s.rows slot) s.rows x)
  settles e s h (going new m) l w =
      completes (held_put {m = s.meter} {m' = released (entries_of (value_at s.rows slot)) m} {rows = s.rows} slot new inside w h (omega (arith, total_part s.rows slot n inside, h.live)))
  settles e s h (stopped x m) l w = stops (held_as {t = slots m s.rows} refl (omega arith) h)

  pub keeps_replace : Keeps n (replace slot f)
  unfolding replace
  keeps_replace = record {
    at = λ e s h.
        let old = value_at s.rows slot in
        settles e s h (f old s.meter) ((lives old).at s.meter.entries s.meter (omega arith)) ((formed old (h.formed slot)).at s.meter);
  }

module _ (constants : List ℕ) (small : All (λ c. c < 2 ^ 32) constants) {n : ℕ} (slot : ℕ) (inside : slot < n) where
  pub keeps_meet : (v : Value) → Good v → Keeps n (meet_into constants slot v)
  keeps_meet v w = keeps_replace slot inside (λ old. meet constants old v) (λ old. live_as size_is (meet_lives constants old v)) (λ old g. meet_good constants small old v g w)

  pub keeps_refine : (i : Interval) → Proper i → Keeps n (refine_into constants slot i)
  keeps_refine i p = keeps_replace slot inside (λ old. refine constants old i) (λ old. live_as size_is (refine_lives constants old i)) (λ old g. refine_good constants small old i g p)

  -- the entries of the value in hand are live before, and not afterwards
  pub owned_ends : (v : Value) → Good v → (e : ℕ) (s : Slots) → Held n (e + entries_of v) s → Ends (λ _ t. Held n e t) (λ _ t. Held n e t) (meet_owned constants slot v s)
  unfolding meet_owned
  owned_ends v w e s h =
      ends_through (λ t. t) (λ _ t. fewer (entries_of v) t) (λ _ t. fewer (entries_of v) t) (λ x. x) {P = λ _ t. Held n (e + entries_of v) t} {Q = λ _ t. Held n (e + entries_of v) t}
      (meet_into constants slot v) s ((keeps_meet v w).at (e + entries_of v) s h) (λ _ t q. left q) (λ _ t q. left q)
    where
      left : {t : Slots} → Held n (e + entries_of v) t → Held n e (fewer (entries_of v) t)
      left q = held_as refl (omega (arith, q.live)) q

-- ---- the bindings of a rule

-- the slot of a binding is one of n
abbrev pub SlotIn : ℕ → Binding → Type 0
SlotIn n (Positive slot argument) = slot < n
SlotIn n (Assign slot value) = slot < n
SlotIn n (Range slot low high) = slot < n
SlotIn n (Aggregate slot function) = slot < n

module _ (constants : List ℕ) (small : All (λ c. c < 2 ^ 32) constants) (arguments : List ℕ) (formed : Formed arguments) {n : ℕ} where
  pub keeps_argument : (b : Binding) → SlotIn n b → Keeps n (meet_argument constants arguments b)
  keeps_argument (Positive slot argument) h = keeps_meet constants small slot h (value_at arguments argument) (formed argument)
  keeps_argument (Assign slot value) h = keeps_pure
  keeps_argument (Range slot low high) h = keeps_pure
  keeps_argument (Aggregate slot function) h = keeps_pure

  pub keeps_arguments : (l : List Binding) → All (SlotIn n) l → Keeps n (each (meet_argument constants arguments) l)
  keeps_arguments l h = keeps_each (meet_argument constants arguments) l (all l h)
    where
      all : (l : List Binding) → All (SlotIn n) l → All (λ b. Keeps n (meet_argument constants arguments b)) l
      all [] h = tt
      all (b ∷ l) h = (keeps_argument b h.0, all l h.1)

module _ {n : ℕ} where
  pub keeps_depending : (slot : ℕ) → slot < n → Keeps n (depending slot)
  keeps_depending slot l = record { at = λ e s h. completes (go e s h (value_at s.rows slot).values refl) }
    where
      go : (e : ℕ) (s : Slots) → Held n e s → (o : Option (List ℕ)) → (value_at s.rows slot).values ≡ o → Held n e (slots s.meter (marked s.rows slot o))
      go e s h none q =
          held_put slot (value (value_at s.rows slot).bound none (Some Dependency)) l record { formed = record { interval = (h.formed slot).formed.interval; list = tt }; tidy = record { sorted = tt; small = tt } } h
          (ap (λ (o : Option (List ℕ)). s.meter.entries + length (list_of o)) q)
      go e s h (some x) q = h

  pub keeps_dependent : (b : Binding) → SlotIn n b → Keeps n (mark_dependent b)
  keeps_dependent (Positive slot argument) h = keeps_depending slot h
  keeps_dependent (Assign slot value) h = keeps_pure
  keeps_dependent (Range slot low high) h = keeps_pure
  keeps_dependent (Aggregate slot function) h = keeps_pure

  pub keeps_dependents : (l : List Binding) → All (SlotIn n) l → Keeps n (each mark_dependent l)
  keeps_dependents l h = keeps_each mark_dependent l (all l h)
    where
      all : (l : List Binding) → All (SlotIn n) l → All (λ b. Keeps n (mark_dependent b)) l
      all [] h = tt
      all (b ∷ l) h = (keeps_dependent b h.0, all l h.1)

-- ---- a table that is filled: k rows stand, and there is room for all

-- one row more; the entries of its value are live
pub held_more : {k e : ℕ} {m m' : Meter} {rows : List ℕ} (v : Value) → value_row * (k + 1) ≤ length rows → Good v → Held k e (slots m rows) → m'.entries ≡ m.entries + entries_of v →
    Held (k + 1) e (slots m' (put rows k v))
unfolding total
held_more {k} {rows = rows} v r w h q =
    let b : entries_of (value_at (put rows k v) k) ≡ entries_of v = ap entries_of (put_back rows k v (omega arith) w.formed) in
    record {
      room = omega (arith, length_put rows k v);
      formed = formed_put rows k v (omega arith) w h.formed;
      live = rw (add-one k) (omega (arith, total_before rows k v k (omega arith), h.live));
    }

-- tops have no entries
pub tops_ends : (k n e : ℕ) (s : Slots) → value_row * (k + n) ≤ length s.rows → Held k e s →
    Ends (λ _ t. Held (k + n) e t) (λ _ t. t.meter.entries ≡ s.meter.entries) (tops k n s)
unfolding tops
tops_ends k zero e s r h = ends_pure tt s (rw (add-zero k) h)
tops_ends k (suc n) e s r h =
    let q : k + suc n ≡ k + 1 + n = omega arith in
    rw q
    (ends_then {P = λ _ t. Held (k + 1) e t × (value_row * (k + 1 + n) ≤ length t.rows) × (t.meter.entries ≡ s.meter.entries)} {Q = λ _ t. t.meter.entries ≡ s.meter.entries} (after_unit (putting k (top None))) (tops (k + 1) n) s (one k n e s r h)
    (λ _ t p. ends_as (tops_ends (k + 1) n e t p.1 p.0) (λ _ u z. z) (λ _ u z. z ∙ p.2))
    (λ _ t p. p))
  where
    one : (k n e : ℕ) (s : Slots) → value_row * (k + suc n) ≤ length s.rows → Held k e s →
        Ends (λ _ t. Held (k + 1) e t × (value_row * (k + 1 + n) ≤ length t.rows) × (t.meter.entries ≡ s.meter.entries)) (λ _ t. t.meter.entries ≡ s.meter.entries) (after_unit (putting k (top None)) s)
    one k n e s r h =
        ends_then {P = λ _ t. (t.rows ≡ s.rows) × Held k e t} {Q = λ _ t. (t.rows ≡ s.rows) × Held k e t} (paying (work 1)) (putting k (top None)) s (work_ends s h)
        (λ _ t p.
        completes (
          held_more {m = t.meter} {m' = t.meter} {rows = t.rows} (top None) (omega (arith, ap length p.0)) (top_good None) p.1 (omega arith),
          omega (arith, length_put t.rows k (top None), ap length p.0),
          omega (arith, p.1.live, h.live, ap (λ (l : List ℕ). total l k) p.0),
        ))
        (λ _ t p. omega (arith, p.1.live, h.live, ap (λ (l : List ℕ). total l k) p.0))

-- a value is made while the rows stay
pub made_ends : {m : Metered Stop Meter Value} → Lives 0 entries_of m → Ensures Good m → (s : Slots) →
    Ends (λ v t. Good v × (t.rows ≡ s.rows) × (t.meter.entries ≡ s.meter.entries + entries_of v)) (λ _ t. (t.rows ≡ s.rows) × (t.meter.entries ≡ s.meter.entries)) (paying m s)
made_ends {m} l w s =
    ends_through (λ t. t.meter) (λ t u. slots u t.rows) (λ t u. slots u t.rows) (λ x. x) m s (live_ends l w s.meter) (λ v u q. (q.0, refl, q.1)) (λ _ u q. (refl, q))

-- copies of values that are held elsewhere; all of them go where one is stopped
module _ (domains : List ℕ) (bound : ℕ) (formed : (j : ℕ) → j < bound → Good (value_at domains j)) where
  copy_ends : (k e : ℕ) → k < bound → (s : Slots) → Held k e s →
      Ends (λ v t. Good v × (t.rows ≡ s.rows) × (t.meter.entries ≡ s.meter.entries + entries_of v)) (λ _ t. t.meter.entries ≡ e) (holding_rows k (paying (copied (value_at domains k))) s)
  copy_ends k e l s h =
      ends_through (λ t. t) (λ _ t. t) (λ _ t. fewer (total t.rows k) t) (λ x. x) (paying (copied (value_at domains k))) s
      (made_ends (live_as size_is (copied_lives (value_at domains k))) (copied_good (value_at domains k) (formed k l)) s)
      (λ v t q. q)
      (λ _ t q. omega (arith, q.1, h.live, ap (λ (l : List ℕ). total l k) q.0))

  pub copies_ends : (k n e : ℕ) → k + n ≤ bound → (s : Slots) → value_row * (k + n) ≤ length s.rows → Held k e s → Ends (λ _ t. Held (k + n) e t) (λ _ t. t.meter.entries ≡ e) (copies domains k n s)
  unfolding copies
  copies_ends k zero e l s r h = ends_pure tt s (rw (add-zero k) h)
  copies_ends k (suc n) e l s r h =
      let q : k + suc n ≡ k + 1 + n = omega arith in
      rw q
      (ends_bind (holding_rows k (paying (copied (value_at domains k)))) (λ v. putting k v >> copies domains (k + 1) n) s (copy_ends k e (omega arith) s h)
      (λ v t p.
      ends_then {P = λ _ u. Held (k + 1) e u × (value_row * (k + 1 + n) ≤ length u.rows)} {Q = λ _ u. u.meter.entries ≡ e} (putting k v) (copies domains (k + 1) n) t
      (completes (more k n e s r h v t p))
      (λ _ u z. copies_ends (k + 1) n e (omega arith) u z.1 z.0)
      (λ _ u z. z))
      (λ _ t p. p))
    where
      more : (k n e : ℕ) (s : Slots) → value_row * (k + suc n) ≤ length s.rows → Held k e s → (v : Value) (t : Slots) → Good v × (t.rows ≡ s.rows) × (t.meter.entries ≡ s.meter.entries + entries_of v) →
          Held (k + 1) e (slots t.meter (put t.rows k v)) × (value_row * (k + 1 + n) ≤ length (put t.rows k v))
      more k n e s r h v t p = rw p.1 (held_more v (omega arith) p.0 h p.2, omega (arith, length_put s.rows k v))
