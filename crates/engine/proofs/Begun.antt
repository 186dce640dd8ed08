-- What a run begins with: both ends of 32 bits are thresholds, and the current values are the seeds. Where it is stopped, live entries are as before.
use Prim.Native.Nat.{ℕ, ◌+◌, ◌*◌, ◌≤◌, ◌<◌}
use native.Mathlib.Omega.{arith}
use mathlib.Core.Path.{◌≡◌, ◌∙◌}
use mathlib.Core.List.{List}
use lib.IntN.{ℤ}
use lib.ListN.{length}
use Rattle.integers.specs.Order.{Number, least32, greatest32}
use Rattle.integers.specs.Lists.{All}
use Rattle.limits.specs.declared.Budget.{Budget}
use Rattle.limits.specs.declared.Resource.TheVariants.{Work}
use Rattle.limits.specs.Metered.{◌>>◌}
use Rattle.limits.specs.Meter.{meter_of, with_meter}
use Rattle.limits.specs.Budget.{work, released}
use Rattle.limits.proofs.Ends.{Ends, completes, ends_as, ends_both, ends_then, ends_through, on_then}
use Rattle.sizes.specs.Sizes.{value_row}
use Rattle.rows.specs.Row.{value_at}
use Rattle.rows.proofs.Good.{Good}
use Rattle.store.proofs.Frame.{ending_ends}
use Rattle.thresholds.specs.Thresholds.{Entry, entry, enter}
use Rattle.thresholds.proofs.Outcomes.{Charging, charging_more}
use Rattle.thresholds.proofs.Numbers.{enter_numbers}
use Rattle.thresholds.proofs.Sorted.{Rises, Has, Kept, enter_keeps}
use Rattle.slots.specs.Slots.{Slots, slots, total, copies}
use Rattle.slots.proofs.Live.{Formed, Held, copies_ends}
use Rattle.limits.proofs.Charging.{charge_ends}
use Rattle.slots.proofs.Copied.{Same, copies_same}
use Rattle.rounds.proofs.Live.{Room}
use Rattle.engine.specs.Run.{enter_ends, Start, start, paying_growth, clearing, seeded, Beginning, beginning, in_start, begin}

-- ---- thresholds

-- thresholds in order, of 32 bits, in a table of the same size
pub record Marks (room : ℕ) (s t : Entry) : Type 0 where
  pub rises : Rises t.count t.table
  pub numbers : All Number t.table
  pub old : (z : ℤ) → Has s z → Has t z
  pub most : t.count ≤ s.count + room
  pub size : length t.table ≡ length s.table

one_marks : (v : ℤ) → Number v → (s : Entry) → Rises s.count s.table → All Number s.table → s.count < length s.table → Ends (λ _ t. (Marks 1 s t × Has t v) × Charging s.budget t.budget) (λ _ t. Marks 1 s t × Charging s.budget t.budget) (enter v s)
one_marks v p s r a l =
    ends_as (ends_both (ending_ends (enter v s) (enter_keeps v s r l)) (enter_numbers v p s a))
    (λ _ t h. ((marks t h.0.0 h.1, h.0.1), h.0.0.charging)) (λ _ t h. (marks t h.0 h.1, h.0.charging))
  where
    marks : (t : Entry) → Kept (λ z. z ≡ v) 1 s t → All Number t.table → Marks 1 s t
    marks t k n = record { rises = k.rises; numbers = n; old = k.old; most = k.most; size = k.size }

-- both ends stand
pub record Ended (s t : Entry) : Type 0 where
  pub marks : Marks 2 s t
  pub least : Has t least32
  pub greatest : Has t greatest32

more_marks : {s t u : Entry} → Marks 1 s t → Marks 1 t u → Marks 2 s u
more_marks h k = record {
  rises = k.rises;
  numbers = k.numbers;
  old = λ z m. k.old z (h.old z m);
  most = omega (arith, h.most, k.most);
  size = k.size ∙ h.size;
}

wider_marks : {s t : Entry} → Marks 1 s t → Marks 2 s t
wider_marks h = record { rises = h.rises; numbers = h.numbers; old = h.old; most = omega (arith, h.most); size = h.size }

pub ends_enter : (s : Entry) → Rises s.count s.table → All Number s.table → s.count + 2 ≤ length s.table → Ends (λ _ t. Ended s t × Charging s.budget t.budget) (λ _ t. Marks 2 s t × Charging s.budget t.budget) (enter_ends s)
unfolding enter_ends
ends_enter s r a l =
    ends_then (enter least32) (enter greatest32) s (one_marks least32 (omega arith, omega arith) s r a (omega arith))
    (λ _ t h.
    ends_as (one_marks greatest32 (omega arith, omega arith) t h.0.0.rises h.0.0.numbers (omega (arith, h.0.0.most, h.0.0.size)))
    (λ _ u k. (record { marks = more_marks h.0.0 k.0.0; least = k.0.0.old least32 h.0.1; greatest = k.0.1 }, charging_more h.1 k.1)) (λ _ u k. (more_marks h.0.0 k.0, charging_more h.1 k.1)))
    (λ _ t h. (wider_marks h.0, h.1))

-- ---- the seeds

-- current values that are the seeds
pub record Sown (seeds : List ℕ) (n e entries : ℕ) (current : List ℕ) : Type 0 where
  pub live : entries ≡ e + total current n
  pub room : Room n current
  pub same : Same seeds n current

module _ (seeds : List ℕ) (n : ℕ) (good : (a : ℕ) → a < n → Good (value_at seeds a)) (e : ℕ) where
  copied : (s : Slots) → value_row * n ≤ length s.rows → Formed s.rows → s.meter.entries ≡ e → Ends (λ _ t. Sown seeds n e t.meter.entries t.rows) (λ _ t. t.meter.entries ≡ e) (copies seeds 0 n s)
  unfolding total
  copied s r f q =
      ends_as
      (ends_both (copies_ends seeds n good 0 n e (omega arith) s (omega arith) record { room = omega arith; formed = f; live = omega arith })
      (copies_same seeds n (λ j l. (good j l).formed) 0 n (omega arith) s (omega arith) (λ j l. absurd (omega arith))))
      (λ _ t h. all t h.0 h.1) (λ _ t h. h.0)
    where
      all : (t : Slots) → Held (0 + n) e t → Same seeds (0 + n) t.rows → Sown seeds n e t.meter.entries t.rows
      all t h m = let z : 0 + n ≡ n = omega arith in record { live = rw z at h.live; room = (omega (arith, h.room), h.formed); same = λ j l. m j (omega arith) }

  seeded_ends : (s : Start) → value_row * n ≤ length s.current → Formed s.current → s.budget.statistics.entries ≡ e →
      Ends (λ _ t. Sown seeds n e t.budget.statistics.entries t.current) (λ _ t. t.budget.statistics.entries ≡ e) (seeded seeds n s)
  unfolding seeded
  seeded_ends s r f q =
      on_then (λ u. slots (meter_of u.budget) u.current) (λ u v. start (with_meter v.meter u.budget) v.rows u.growth) (λ u v. start (with_meter v.meter u.budget) v.rows u.growth) (λ x. x)
      (copies seeds 0 n) (paying_growth n >> clearing n) s (copied (slots (meter_of s.budget) s.current) r f q)
      (λ _ u p. charged (start (with_meter u.meter s.budget) u.rows s.growth) p) (λ _ u p. p)
    where
      charged : (t : Start) → Sown seeds n e t.budget.statistics.entries t.current → Ends (λ _ u. Sown seeds n e u.budget.statistics.entries u.current) (λ _ u. u.budget.statistics.entries ≡ e) ((paying_growth n >> clearing n) t)
      charged t p =
          ends_then {P = λ _ u. Sown seeds n e u.budget.statistics.entries u.current} {Q = λ _ u. u.budget.statistics.entries ≡ e} (paying_growth n) (clearing n) t
          (ends_through (λ u. u) (λ _ u. u) (λ _ u. start (released (total u.current n) u.budget) u.current u.growth) (λ x. x)
          {P = λ _ u. Sown seeds n e u.budget.statistics.entries u.current} {Q = λ _ u. Sown seeds n e u.budget.statistics.entries u.current} _ t
          (ends_through (λ u. u.budget) (λ u b. start b u.current u.growth) (λ u b. start b u.current u.growth) (λ x. x) (work n) t (charge_ends Work n t.budget) (λ _ b z. rw z p) (λ _ b z. rw z.1 p))
          (λ _ u z. z) (λ _ u z. omega (arith, z.live)))
          (λ _ u z. completes z) (λ _ u z. z)

  pub begin_ends : (s : Beginning) → Rises s.entry.count s.entry.table → All Number s.entry.table → s.entry.count + 2 ≤ length s.entry.table →
      value_row * n ≤ length s.current → Formed s.current → s.entry.budget.statistics.entries ≡ e →
      Ends (λ _ t. Sown seeds n e t.entry.budget.statistics.entries t.current × Ended s.entry t.entry) (λ _ t. t.entry.budget.statistics.entries ≡ e) (begin seeds n s)
  unfolding begin
  begin_ends s r a l room f q =
      on_then (λ u. u.entry) (λ u x. beginning x u.current u.growth) (λ u x. beginning x u.current u.growth) (λ x. x) enter_ends (in_start (seeded seeds n)) s (ends_enter s.entry r a l)
      (λ _ x p.
      ends_through (λ u. start u.entry.budget u.current u.growth) (λ u v. beginning (entry v.budget u.entry.count u.entry.table) v.current v.growth)
      (λ u v. beginning (entry v.budget u.entry.count u.entry.table) v.current v.growth) (λ y. y) (seeded seeds n) (beginning x s.current s.growth)
      (seeded_ends (start x.budget s.current s.growth) room f (p.1.entries ∙ q))
      (λ _ v k. (k, ended p.0)) (λ _ v k. k))
      (λ _ x p. p.1.entries ∙ q)
    where
      -- the budget is no part of what is said of thresholds
      ended : {x y : Entry} → Ended x y → {b : Budget} → Ended x (entry b y.count y.table)
      ended h = record {
        marks = record { rises = h.marks.rises; numbers = h.marks.numbers; old = h.marks.old; most = h.marks.most; size = h.marks.size };
        least = h.least;
        greatest = h.greatest;
      }
