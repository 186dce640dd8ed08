-- Live entries of a rule's slots before guards: those before the bindings plus the lists of the n rows where they complete, those before where
-- they are stopped.
use Prim.Native.Nat.{ℕ, ◌+◌, ◌*◌, ◌^◌, ◌≤◌, ◌<◌}
use native.Mathlib.Omega.{arith}
use native.Mathlib.Nat.{zero-add}
use mathlib.Core.Path.{◌≡◌, refl, ◌∙◌}
use mathlib.Core.List.{List, [], ◌∷◌}
use lib.ListN.{length}
use Rattle.integers.specs.Lists.{All}
use Rattle.limits.specs.declared.Stop.{Stop}
use Rattle.limits.specs.Metered.{Metered, pure, mapped, through}
use Rattle.limits.specs.declared.Meter.{Meter}
use Rattle.limits.proofs.Monad as monad
use Rattle.limits.proofs.Monad.{Ensures, by_pure, by_through}
use Rattle.limits.proofs.Ends.{Ends, ends_then, ends_bind}
use Rattle.limits.proofs.Live.{Lives, live_bind}
use Rattle.interval.specs.declared.Interval.TheVariants.{Unbounded}
use Rattle.lattice.specs.Value.{Value}
use Rattle.sizes.specs.Sizes.{value_row}
use Rattle.rows.specs.Row.{entries_of}
use Rattle.rows.proofs.Good.{Good, top_good, numeric_good}
use Rattle.rules.specs.declared.AggregateFunction.{AggregateFunction}
use Rattle.rules.specs.declared.AggregateFunction.TheVariants.{Count, Sum, SumPlus, Min, Max}
use Rattle.rules.specs.declared.Binding.{Binding}
use Rattle.rules.specs.declared.Binding.TheVariants.{Positive, Assign, Range, Aggregate}
use Rattle.slots.specs.Slots.{Slots, total, paying, holding_rows, meet_owned, tops}
use Rattle.slots.proofs.Live.{Formed, Held, held_as, Keeps, keeps_pure, keeps_then, held_rows, keeps_each, owned_ends, SlotIn, keeps_arguments, keeps_dependents, tops_ends, made_ends}
use Rattle.operators.specs.Arithmetic.{span}
use Rattle.evaluation.specs.Evaluation.{Input, Values}
use Rattle.rows.proofs.RowLaws.{numeric_none}
use Rattle.evaluation.proofs.Live.{expression_lives, both_lives}
use Rattle.operators.proofs.Formed.{span_proper}
use Rattle.evaluation.proofs.Formed.{expression_good, both_good}
use Rattle.bindings.specs.Bindings.{assigned, aggregate, spanning, ranged, meeting, meet_binding, three_passes, bind}

-- ---- what is worked out: the entries of its own list alone

pub assigned_lives : (i : Input) (rows : List ℕ) (id : ℕ) → Lives 0 entries_of (assigned i rows id)
unfolding assigned
assigned_lives i rows id = expression_lives i rows [] id

pub spanning_lives : (p : Values) → Lives (entries_of p.first + entries_of p.second) entries_of (spanning p)
unfolding spanning through mapped pure
spanning_lives p = record { at = λ e m h. omega (arith, numeric_none (span p.first.bound.interval p.second.bound.interval)) }

pub ranged_lives : (i : Input) (rows : List ℕ) (low high : ℕ) → Lives 0 entries_of (ranged i rows low high)
unfolding ranged
ranged_lives i rows low high = live_bind (both_lives i rows [] low high) spanning_lives

aggregate_none : (f : AggregateFunction) → entries_of (aggregate f) ≡ 0
aggregate_none Count = refl
aggregate_none Sum = refl
aggregate_none SumPlus = refl
aggregate_none Min = refl
aggregate_none Max = refl

-- ---- and it is one that a row holds exactly

aggregate_good : (f : AggregateFunction) → Good (aggregate f)
aggregate_good Count = numeric_good Unbounded tt
aggregate_good Sum = numeric_good Unbounded tt
aggregate_good SumPlus = numeric_good Unbounded tt
aggregate_good Min = top_good _
aggregate_good Max = top_good _

spanning_good : (p : Values) → Ensures Good (spanning p)
unfolding spanning
spanning_good p = by_through Good _ _ _ _ (by_through Good _ _ _ _ (by_pure _ (numeric_good (span p.first.bound.interval p.second.bound.interval) (span_proper p.first.bound.interval p.second.bound.interval))))

module _ (i : Input) (small : All (λ c. c < 2 ^ 32) i.constants) where
  assigned_good : (id : ℕ) (rows : List ℕ) → Formed rows → Ensures Good (assigned i rows id)
  unfolding assigned
  assigned_good id rows f = expression_good i small rows f [] tt id

  ranged_good : (low high : ℕ) (rows : List ℕ) → Formed rows → Ensures Good (ranged i rows low high)
  unfolding ranged
  ranged_good low high rows f = monad.bind (both_good i small rows f [] tt low high) (λ p _. spanning_good p)

-- ---- one binding

module _ (constants : List ℕ) (small : All (λ c. c < 2 ^ 32) constants) {n : ℕ} (slot : ℕ) (inside : slot < n) where
  -- what is worked out over the rows is in hand until it has met the slot
  keeps_meeting : (f : List ℕ → Metered Stop Meter Value) → ((rows : List ℕ) → Lives 0 entries_of (f rows)) → ((rows : List ℕ) → Formed rows → Ensures Good (f rows)) → Keeps n (meeting constants slot f)
  unfolding meeting
  keeps_meeting f l w = record {
    at = λ e s h.
        ends_bind (paying (f s.rows)) (meet_owned constants slot) s (made_ends (l s.rows) (w s.rows h.formed) s)
        (λ v t q. owned_ends constants small slot inside v q.0 e t (held_as q.1 (omega (arith, q.2)) h))
        (λ _ t q. held_as q.0 (omega (arith, q.1)) h);
  }

  keeps_owned : (v : Value) → Good v → entries_of v ≡ 0 → Keeps n (meet_owned constants slot v)
  keeps_owned v w z = record { at = λ e s h. owned_ends constants small slot inside v w e s (held_as refl (omega arith) h) }

module _ (i : Input) (small : All (λ c. c < 2 ^ 32) i.constants) {n : ℕ} where
  pub keeps_binding : (b : Binding) → SlotIn n b → Keeps n (meet_binding i b)
  keeps_binding (Positive slot argument) h = keeps_pure
  keeps_binding (Assign slot value) h = keeps_meeting i.constants small slot h _ (λ rows. assigned_lives i rows value) (assigned_good i small value)
  keeps_binding (Range slot low high) h = keeps_meeting i.constants small slot h _ (λ rows. ranged_lives i rows low high) (ranged_good i small low high)
  keeps_binding (Aggregate slot function) h = keeps_owned i.constants small slot h (aggregate function) (aggregate_good function) (aggregate_none function)

  -- ---- all of them

  module _ (arguments : List ℕ) (formed : Formed arguments) (bs : List Binding) (inside : All (SlotIn n) bs) where
    pub keeps_passes : Keeps n (three_passes i arguments bs)
    unfolding three_passes
    keeps_passes =
        keeps_then (keeps_arguments i.constants small arguments formed bs inside)
        (keeps_then (keeps_dependents bs inside) (keeps_each (meet_binding i) bs (all bs inside)))
      where
        all : (l : List Binding) → All (SlotIn n) l → All (λ b. Keeps n (meet_binding i b)) l
        all [] h = tt
        all (b ∷ l) h = (keeps_binding b h.0, all l h.1)

    pub bind_ends : (e : ℕ) (s : Slots) → value_row * n ≤ length s.rows → Formed s.rows → s.meter.entries ≡ e → Ends (λ _ t. Held n e t) (λ _ t. t.meter.entries ≡ e) (bind i arguments n bs s)
    unfolding bind total
    bind_ends e s room f q =
        ends_then {P = λ _ t. Held (0 + n) e t} {Q = λ _ t. t.meter.entries ≡ s.meter.entries} (tops 0 n) (holding_rows n (three_passes i arguments bs)) s
        (tops_ends 0 n e s (omega arith) record { room = omega arith; formed = f; live = omega arith })
        (λ _ t p. held_rows keeps_passes e t (rw zero-add at p)) (λ _ t p. p ∙ q)
