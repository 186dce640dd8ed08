-- Each binding keeps every firing that satisfies it inside the values of the slots: after `bind` the value of each slot lies in its row.
use Prim.Native.Nat.{ℕ, zero, suc, ◌+◌, ◌*◌, ◌≤◌, ◌<◌, ◌^◌}
use native.Mathlib.Omega.{arith}
use native.Mathlib.Decide.{ℕ_discrete, dec_lt}
use mathlib.Core.Path.{◌≡◌, refl, sym, ap, subst, ◌∙◌}
use mathlib.Core.List.{List, [], ◌∷◌, map}
use mathlib.Core.Option.{Option, some, none}
use lib.IntN.{ℤ}
use lib.ListN.{length}
use Rattle.integers.specs.Order.{Number, Between, least32, greatest32}
use Rattle.integers.specs.Lists.{All}
use Rattle.limits.specs.declared.Stop.{Stop}
use Rattle.limits.specs.Metered.{Run, going, stopped, Metered, pure, ◌>>◌}
use Rattle.limits.specs.declared.Meter.{Meter}
use Rattle.limits.specs.Meter.{work}
use Rattle.limits.proofs.Monad.{Holds, Ensures, by_pure, bind, weaken, both, by_through}
use Rattle.limits.proofs.Ends.{Ends, completes, stops, ends_pure, ends_then, ends_bind, ends_through, with_value, in_some_way}
use Rattle.interval.specs.declared.Interval.{Interval}
use Rattle.interval.specs.declared.Interval.TheVariants.{Bottom, Bounded, Unbounded}
use Rattle.interval.specs.Cousot.{◌∋◌}
use Rattle.interval.specs.Interval.{cousot}
use Rattle.interval.proofs.Members.{checked_has}
use Rattle.lattice.specs.declared.Widening.TheVariants.{Dependency, HeadTerm}
use Rattle.lattice.specs.Value.{Reason}
use Rattle.std.specs.Prelude.{None, Some}
use Rattle.lattice.specs.Value.{Value, value}
use Rattle.lattice.specs.Lattice.{top, numeric, meet}
use Rattle.lattice.proofs.Tidiness.{Tidy, numeric_tidy, meet_tidy}
use Rattle.sizes.specs.Sizes.{value_row}
use Rattle.rows.specs.Row.{value_at, put}
use Rattle.rows.specs.WellFormed.{WellFormed, Proper as ProperEnds}
use Rattle.rows.proofs.RowLaws.{length_put, put_back, put_other}
use Rattle.rows.proofs.Formed.{meet_formed, top_formed, numeric_formed}
use Rattle.operators.proofs.Formed.{span_proper}
use Rattle.keys.specs.Key.{number}
use Rattle.rules.specs.declared.AggregateFunction.{AggregateFunction}
use Rattle.rules.specs.declared.AggregateFunction.TheVariants.{Count, Sum, SumPlus, Min, Max}
use Rattle.rules.specs.declared.Binding.{Binding}
use Rattle.rules.specs.declared.Binding.TheVariants.{Positive, Assign, Range, Aggregate}
use Rattle.producers.specs.Producer.{Scope, scope}
use Rattle.producers.proofs.Scoped.{Scoped, BindingIn}
use Rattle.slots.specs.Slots.{Slots, paying, holding_rows, dropping, putting, settled, replace, meet_into, meet_owned, after_unit, each, tops, meet_argument, marked, mark_dependent}
use Rattle.refinements.specs.Refinement.{Refinement}
use Rattle.operators.specs.Arithmetic.{span}
use Rattle.evaluation.specs.Evaluation.{Input}
use Rattle.evaluation.specs.Evaluation as evaluation
use Rattle.bindings.specs.Bindings.{assigned, aggregate, spanning, ranged, meeting, meet_binding, three_passes}
use Rattle.bindings.specs.Bindings as bindings
use Rattle.soundness.specs.Plain.{Choice, into, worth, ProperKey, PlainState, Within, Aggregated, BindingHolds, AllHold}
use Rattle.soundness.specs.Tied.{plain_binding}
use Rattle.soundness.proofs.Lies.{Lies, top_lies, numeric_lies, meet_lies}
use Rattle.soundness.proofs.Worth.{Scene, ProperChoice, proper_into, Worth}
use Rattle.soundness.proofs.Evaluating.{Sound, SlotsIn, expression_sound}
use Rattle.soundness.proofs.Evaluating as evaluating

-- ---- rows that hold the firing's values

-- a value for a slot: its list is in order, its row holds it exactly, and the slot's value lies in it
pub record Good (w : Scene) (slot : ℕ) (v : Value) : Type 0 where
  pub tidy : Tidy v
  pub formed : WellFormed v
  pub lies : Lies w.key w.constants v (w.slots slot)

-- the first n rows are such, in a table that has them
pub record Held (w : Scene) (n : ℕ) (rows : List ℕ) : Type 0 where
  pub room : value_row * n ≤ length rows
  pub good : (s : ℕ) → s < n → Good w s (value_at rows s)

pub held_slots : {w : Scene} {n : ℕ} {rows : List ℕ} → Held w n rows → SlotsIn w n rows
held_slots h = record { tidy = λ s l. (h.good s l).tidy; formed = λ s l. (h.good s l).formed; lies = λ s l. (h.good s l).lies }

pub held_put : (w : Scene) (n slot : ℕ) (rows : List ℕ) (v : Value) → Held w n rows → slot < n → Good w slot v → Held w n (put rows slot v)
held_put w n slot rows v h l g = record {
  room = rw (length_put rows slot v) h.room;
  good = λ s m.
      elim (ℕ_discrete s slot) [
        | yes e ↦
            let b : value_at (put rows slot v) s ≡ v = ap (value_at (put rows slot v)) e ∙ put_back rows slot v (omega (arith, h.room)) g.formed in
            rw b (subst (λ (i : ℕ). Good w i v) (sym e) g)
        | no e ↦ rw (put_other rows slot v s e) (h.good s m)
      ];
}

-- ---- computations that keep them

pub record Keeps (I : List ℕ → Type 0) (m : Metered Stop Slots (Unit {0})) : Type 0 where
  pub at : (s : Slots) → I s.rows → Ends (λ _ t. I t.rows) (λ _ _. Unit {0}) (m s)

module _ {I : List ℕ → Type 0} where
  pub keeps_pure : Keeps I (pure tt)
  keeps_pure = record { at = λ s h. ends_pure tt s h }

  pub keeps_then : {m k : Metered Stop Slots (Unit {0})} → Keeps I m → Keeps I k → Keeps I (m >> k)
  keeps_then {m} {k} f g = record { at = λ s h. ends_then m k s (f.at s h) (λ _ t i. g.at t i) (λ _ _ _. tt) }

  -- what changes no rows
  pub keeps_paying : (m : Metered Stop Meter (Unit {0})) → Keeps I (paying m)
  keeps_paying m = record {
    at = λ s h. ends_through _ _ _ _ {P = λ _ _. Unit {0}} {Q = λ _ _. Unit {0}} m s (in_some_way (m s.meter)) (λ _ _ _. h) (λ _ _ _. tt);
  }

  pub keeps_step : {m : Metered Stop Slots (Unit {0})} → Keeps I m → Keeps I (after_unit m)
  keeps_step h = keeps_then (keeps_paying (work 1)) h

  pub keeps_dropping : (v : Value) {m : Metered Stop Slots (Unit {0})} → Keeps I m → Keeps I (dropping v m)
  keeps_dropping v {m} f = record { at = λ s h. ends_through _ _ _ _ {P = λ _ t. I t.rows} {Q = λ _ _. Unit {0}} m s (f.at s h) (λ _ _ i. i) (λ _ _ _. tt) }

  pub keeps_holding : (n : ℕ) {m : Metered Stop Slots (Unit {0})} → Keeps I m → Keeps I (holding_rows n m)
  keeps_holding n {m} f = record { at = λ s h. ends_through _ _ _ _ {P = λ _ t. I t.rows} {Q = λ _ _. Unit {0}} m s (f.at s h) (λ _ _ i. i) (λ _ _ _. tt) }

  pub keeps_each : {A : Type 0} (f : A → Metered Stop Slots (Unit {0})) (l : List A) → All (λ a. Keeps I (f a)) l → Keeps I (each f l)
  unfolding each
  keeps_each f [] h = keeps_pure
  keeps_each f (a ∷ l) h = keeps_then (keeps_step h.0) (keeps_each f l h.1)

-- a value for a slot takes the place of the old one
module _ (w : Scene) (n slot : ℕ) (l : slot < n) where
  settled_held : (old : Value) (rows : List ℕ) → Held w n rows → (x : Run Stop Meter Value) → Holds (Good w slot) x → Ends (λ _ t. Held w n t.rows) (λ _ _. Unit {0}) (settled slot old rows x)
  settled_held old rows h (going v m) g = completes (held_put w n slot rows v h l g)
  settled_held old rows h (stopped e m) g = stops tt

  pub keeps_replace : (f : Value → Metered Stop Meter Value) → ((v : Value) → Good w slot v → Ensures (Good w slot) (f v)) → Keeps (Held w n) (replace slot f)
  unfolding replace
  keeps_replace f g = record {
    at = λ s h.
        settled_held (value_at s.rows slot) s.rows h (f (value_at s.rows slot) s.meter)
        ((g (value_at s.rows slot) (h.good slot l)).at s.meter);
  }

  module _ (small : All (λ k. k < 2 ^ 32) w.constants) where
    meet_good : (u v : Value) → Good w slot u → Good w slot v → Ensures (Good w slot) (meet w.constants u v)
    meet_good u v p q =
        weaken (λ x h. record { tidy = h.0; formed = h.1.0; lies = h.1.1 })
        (both (meet_tidy w.constants u v p.tidy q.tidy)
        (both (meet_formed w.constants small u v p.formed q.formed)
        (meet_lies w.key w.constants w.keys u v p.tidy q.tidy (w.slots slot) (w.proper slot) p.lies q.lies)))

    pub keeps_meet : (v : Value) → Good w slot v → Keeps (Held w n) (meet_into w.constants slot v)
    keeps_meet v q = keeps_replace (λ old. meet w.constants old v) (λ old p. meet_good old v p q)

    pub keeps_owned : (v : Value) → Good w slot v → Keeps (Held w n) (meet_owned w.constants slot v)
    unfolding meet_owned
    keeps_owned v q = keeps_dropping v (keeps_meet v q)

-- ---- at first nothing is known

pub good_top : (w : Scene) (slot : ℕ) → Good w slot (top None)
good_top w slot = record {
  tidy = record { sorted = tt; small = tt };
  formed = top_formed None;
  lies = top_lies w.key w.constants None (w.slots slot) (w.proper slot);
}

-- one row more
pub held_more : (w : Scene) (k : ℕ) (rows : List ℕ) (v : Value) → Held w k rows → value_row * (k + 1) ≤ length rows → Good w k v → Held w (k + 1) (put rows k v)
held_more w k rows v h r g = record {
  room = rw (length_put rows k v) r;
  good = λ s m.
      elim (ℕ_discrete s k) [
        | yes e ↦
            let b : value_at (put rows k v) s ≡ v = ap (value_at (put rows k v)) e ∙ put_back rows k v (omega arith) g.formed in
            rw b (subst (λ (i : ℕ). Good w i v) (sym e) g)
        | no e ↦ rw (put_other rows k v s e) (h.good s (below s e m))
      ];
}
  where
    below : (s : ℕ) → (s ≡ k → ⊥) → s < k + 1 → s < k
    below s e m = elim (dec_lt s k) [ yes h ↦ h | no h ↦ absurd (e (omega arith)) ]

pub tops_held : (w : Scene) (k n : ℕ) (s : Slots) → Held w k s.rows → value_row * (k + n) ≤ length s.rows → Ends (λ _ t. Held w (k + n) t.rows) (λ _ _. Unit {0}) (tops k n s)
unfolding tops
tops_held w k zero s h r = ends_pure tt s (subst (λ (i : ℕ). Held w i s.rows) (omega arith) h)
tops_held w k (suc n) s h r =
    ends_then {P = λ _ t. Held w (k + 1) t.rows × (length t.rows ≡ length s.rows)} {Q = λ _ _. Unit {0}} (after_unit (putting k (top None))) (tops (k + 1) n) s
    (ends_then {P = λ _ t. t.rows ≡ s.rows} {Q = λ _ _. Unit {0}} (paying (work 1)) (putting k (top None)) s
    (ends_through _ _ _ _ {P = λ _ _. Unit {0}} {Q = λ _ _. Unit {0}} (work 1) s (in_some_way (work 1 s.meter)) (λ _ _ _. refl) (λ _ _ _. tt))
    (λ _ t e.
    let g : Held w (k + 1) (put t.rows k (top None)) × (length (put t.rows k (top None)) ≡ length s.rows) =
    (rw e (held_more w k s.rows (top None) h (omega arith) (good_top w k)), rw e (length_put s.rows k (top None))) in
    completes g)
    (λ _ _ _. tt))
    (λ _ t p. subst (λ (i : ℕ). Ends (λ _ u. Held w i u.rows) (λ _ _. Unit {0}) (tops (k + 1) n t)) (omega arith) (tops_held w (k + 1) n t p.0 (omega (arith, p.1))))
    (λ _ _ _. tt)

-- ---- the span of two values

-- a number between one of the first and one of the second lies in their span
pub span_in : (x y : Interval) (a b n : ℤ) → cousot x ∋ a → cousot y ∋ b → Between a b n → Number n → cousot (span x y) ∋ n
span_in Bottom y a b n p q h f = absurd p
span_in (Bounded c d) Bottom a b n p q h f = absurd q
span_in (Bounded c d) (Bounded e g) a b n p q h f = (checked_has c g n f).1 (omega arith, omega arith)
span_in (Bounded c d) Unbounded a b n p q h f = (checked_has c greatest32 n f).1 (omega arith, f.1)
span_in Unbounded Bottom a b n p q h f = absurd q
span_in Unbounded (Bounded e g) a b n p q h f = (checked_has least32 g n f).1 (f.0, omega arith)
span_in Unbounded Unbounded a b n p q h f = (checked_has least32 greatest32 n f).1 f

-- ---- two expressions

pub both_sound : (w : Scene) (small : All (λ k. k < 2 ^ 32) w.constants) (expressions n width low high : ℕ) → Scoped (scope w.nodes expressions n) low → Scoped (scope w.nodes expressions n) high →
    (rows : List ℕ) → SlotsIn w n rows → (known : List Refinement) → All (evaluating.Holds w) known →
    Ensures (λ p. Sound w low p.first × Sound w high p.second) (evaluation.both (record { nodes = w.nodes; constants = w.constants; width = width }) rows known low high)
unfolding evaluation.both
both_sound w small expressions n width low high sl sh rows inside known hold =
    bind (expression_sound w small expressions n width rows inside known hold low sl)
    (λ a f. bind (by_through (Sound w high) _ _ _ _ (expression_sound w small expressions n width rows inside known hold high sh)) (λ b g. by_pure _ (f, g)))

-- ---- the bindings

-- a store's state as the analysis has it: what lies in the arguments' values
abbrev pub Among : Scene → List ℕ → PlainState
Among w arguments a k = Lies w.key w.constants (value_at arguments a) k

module _ (w : Scene) (expressions n width : ℕ) (arguments : List ℕ) (count : ℕ) (small : All (λ k. k < 2 ^ 32) w.constants)
    (formed : (a : ℕ) → a < count → WellFormed (value_at arguments a)) (tidy : (a : ℕ) → a < count → Tidy (value_at arguments a)) where
  abbrev here : Scope
  here = scope w.nodes expressions n

  abbrev over : Input
  over = record { nodes = w.nodes; constants = w.constants; width = width }

  positive_keeps : (b : Binding) (ch : Choice) → BindingIn count here b → BindingHolds w.opaque (Among w arguments) w.slots ch (plain_binding w.tree b) →
      Keeps (Held w n) (meet_argument w.constants arguments b)
  positive_keeps (Positive slot a) ch i h = keeps_meet w n slot i.0 small (value_at arguments a) record { tidy = tidy a i.1; formed = formed a i.1; lies = h }
  positive_keeps (Assign slot e) ch i h = keeps_pure
  positive_keeps (Range slot low high) ch i h = keeps_pure
  positive_keeps (Aggregate slot f) ch i h = keeps_pure

  -- the reason is no part of what lies in a value
  reasoned : (slot : ℕ) (rows : List ℕ) → slot < n → Held w n rows → (o : Option (List ℕ)) → (value_at rows slot).values ≡ o → Held w n (marked rows slot o)
  reasoned slot rows l h none e =
      let g = h.good slot l in
      held_put w n slot rows (value (value_at rows slot).bound none (Some Dependency)) h l
      record { tidy = record { sorted = tt; small = tt }; formed = record { interval = g.formed.interval; list = tt }; lies = record { bound = g.lies.bound; list = tt } }
  reasoned slot rows l h (some x) e = h

  dependent_keeps : (b : Binding) → BindingIn count here b → Keeps (Held w n) (mark_dependent b)
  dependent_keeps (Positive slot a) i = record { at = λ s h. completes (reasoned slot s.rows i.0 h (value_at s.rows slot).values refl) }
  dependent_keeps (Assign slot e) i = keeps_pure
  dependent_keeps (Range slot low high) i = keeps_pure
  dependent_keeps (Aggregate slot f) i = keeps_pure

  -- ---- values for a slot

  slot_number : (slot : ℕ) (z : ℤ) → w.slots slot ≡ number z → Number z
  slot_number slot z e = subst ProperKey e (w.proper slot)

  numeric_good : (slot : ℕ) (j : Interval) (z : ℤ) → w.slots slot ≡ number z → ProperEnds j → cousot j ∋ z → Good w slot (numeric j)
  numeric_good slot j z e p h = record {
    tidy = numeric_tidy j;
    formed = numeric_formed j p;
    lies = subst (Lies w.key w.constants (numeric j)) (sym e) (numeric_lies w.key w.constants j z (slot_number slot z e) h);
  }

  top_good : (slot : ℕ) (r : Reason) → Good w slot (top r)
  top_good slot r = record {
    tidy = record { sorted = tt; small = tt };
    formed = top_formed r;
    lies = top_lies w.key w.constants r (w.slots slot) (w.proper slot);
  }

  -- ---- values that are worked out over the rows

  -- an expression that is worth the slot's value
  assign_good : (slot e : ℕ) (ch : Choice) → ProperChoice ch → Scoped here e → Worth w ch e (w.slots slot) → (rows : List ℕ) → Held w n rows → Ensures (Good w slot) (assigned over rows e)
  unfolding assigned
  assign_good slot e ch pch sc h rows held =
      weaken (λ v g. record { tidy = g.tidy; formed = g.formed; lies = g.covers.at ch pch (w.slots slot) h })
      (expression_sound w small expressions n width rows (held_slots held) [] tt e sc)

  range_good : (slot low high : ℕ) (ch : Choice) → ProperChoice ch → Scoped here low → Scoped here high →
      Within (worth w.opaque w.slots (into 0 ch) (w.tree low)) (worth w.opaque w.slots (into 1 ch) (w.tree high)) (w.slots slot) →
      (rows : List ℕ) → Held w n rows → Ensures (Good w slot) (ranged over rows low high)
  unfolding ranged spanning
  range_good slot low high ch pch sl sh h rows held =
      bind (both_sound w small expressions n width low high sl sh rows (held_slots held) [] tt)
      (λ p g.
      by_through (Good w slot) _ _ _ _
      (by_through (Good w slot) _ _ _ _
      (by_pure _
      (numeric_good slot (span p.first.bound.interval p.second.bound.interval) h.at h.is (span_proper p.first.bound.interval p.second.bound.interval)
      (span_in p.first.bound.interval p.second.bound.interval h.from h.to h.at
      (g.0.covers.at (into 0 ch) (proper_into 0 pch) (number h.from) h.low).bound (g.1.covers.at (into 1 ch) (proper_into 1 pch) (number h.to) h.high).bound
      h.between (slot_number slot h.at h.is))))))

  aggregate_good : (slot : ℕ) (f : AggregateFunction) → Aggregated f (w.slots slot) → Good w slot (aggregate f)
  aggregate_good slot Count h = numeric_good slot Unbounded h.0 h.1 tt (tt, tt)
  aggregate_good slot Sum h = numeric_good slot Unbounded h.0 h.1 tt (tt, tt)
  aggregate_good slot SumPlus h = numeric_good slot Unbounded h.0 h.1 tt (tt, tt)
  aggregate_good slot Min h = top_good slot (Some HeadTerm)
  aggregate_good slot Max h = top_good slot (Some HeadTerm)

  -- what is worked out meets the slot
  meeting_keeps : (slot : ℕ) → slot < n → (f : List ℕ → Metered Stop Meter Value) → ((rows : List ℕ) → Held w n rows → Ensures (Good w slot) (f rows)) →
      Keeps (Held w n) (meeting w.constants slot f)
  unfolding meeting
  meeting_keeps slot l f g = record {
    at = λ s h.
        ends_bind {P = λ v t. Good w slot v × Held w n t.rows} {Q = λ _ _. Unit {0}} (paying (f s.rows)) (meet_owned w.constants slot) s
        (ends_through _ _ _ _ {P = λ v _. Good w slot v} {Q = λ _ _. Unit {0}} (f s.rows) s (with_value (f s.rows s.meter) ((g s.rows h).at s.meter)) (λ v _ p. (p, h)) (λ _ _ _. tt))
        (λ v t p. (keeps_owned w n slot l small v p.0).at t p.1) (λ _ _ _. tt);
  }

  binding_keeps : (b : Binding) (ch : Choice) → ProperChoice ch → BindingIn count here b → BindingHolds w.opaque (Among w arguments) w.slots ch (plain_binding w.tree b) →
      Keeps (Held w n) (meet_binding over b)
  binding_keeps (Positive slot a) ch pch i h = keeps_pure
  binding_keeps (Assign slot e) ch pch i h = meeting_keeps slot i.0 (λ rows. assigned over rows e) (assign_good slot e (into 0 ch) (proper_into 0 pch) i.1 h)
  binding_keeps (Range slot low high) ch pch i h =
      meeting_keeps slot i.0 (λ rows. ranged over rows low high) (range_good slot low high ch pch i.1.0 i.1.1 h)
  binding_keeps (Aggregate slot f) ch pch i h = keeps_owned w n slot i small (aggregate f) (aggregate_good slot f h)

  -- ---- all of them

  -- what the choices of each say of each
  choices_all : (P : Binding → Type 0) → ((b : Binding) (ch : Choice) → ProperChoice ch → BindingIn count here b → BindingHolds w.opaque (Among w arguments) w.slots ch (plain_binding w.tree b) → P b) →
      (bs : List Binding) (ch : Choice) → ProperChoice ch → All (BindingIn count here) bs → AllHold (BindingHolds w.opaque (Among w arguments) w.slots) ch (map (plain_binding w.tree) bs) → All P bs
  choices_all P f [] ch pch i h = tt
  choices_all P f (b ∷ bs) ch pch i h = (f b (into 0 ch) (proper_into 0 pch) i.0 h.0, choices_all P f bs (into 1 ch) (proper_into 1 pch) i.1 h.1)

  module _ (bs : List Binding) (ch : Choice) (pch : ProperChoice ch) (inside : All (BindingIn count here) bs)
      (holds : AllHold (BindingHolds w.opaque (Among w arguments) w.slots) ch (map (plain_binding w.tree) bs)) where
    passes_keep : Keeps (Held w n) (three_passes over arguments bs)
    unfolding three_passes
    passes_keep =
        keeps_then
        (keeps_each (meet_argument w.constants arguments) bs (choices_all (λ b. Keeps (Held w n) (meet_argument w.constants arguments b)) (λ b c _. positive_keeps b c) bs ch pch inside holds))
        (keeps_then (keeps_each mark_dependent bs (choices_all (λ b. Keeps (Held w n) (mark_dependent b)) (λ b _ _ i _. dependent_keeps b i) bs ch pch inside holds))
        (keeps_each (meet_binding over) bs (choices_all (λ b. Keeps (Held w n) (meet_binding over b)) binding_keeps bs ch pch inside holds)))

    -- a firing whose bindings hold stays inside the slots' values
    pub bind_sound : (s : Slots) → value_row * n ≤ length s.rows → Ends (λ _ t. Held w n t.rows) (λ _ _. Unit {0}) (bindings.bind over arguments n bs s)
    unfolding bindings.bind
    bind_sound s room =
        ends_then {P = λ _ t. Held w n t.rows} {Q = λ _ _. Unit {0}} (tops 0 n) (holding_rows n (three_passes over arguments bs)) s
        (subst (λ (i : ℕ). Ends (λ _ t. Held w i t.rows) (λ _ _. Unit {0}) (tops 0 n s)) (omega arith)
        (tops_held w 0 n s record { room = omega arith; good = λ i l. absurd (omega arith) } (omega arith)))
        (λ _ t h. (keeps_holding n passes_keep).at t h) (λ _ _ _. tt)
