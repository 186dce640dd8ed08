-- What the start of a run keeps: the limits; and at most two thresholds are new.
use Prim.Native.Nat.{ℕ, ◌+◌, ◌≤◌}
use native.Mathlib.Omega.{arith}
use mathlib.Core.Path.{◌≡◌, refl, sym, subst, ◌∙◌}
use mathlib.Core.List.{List}
use lib.IntN.{ℤ}
use Rattle.integers.specs.Order.{least32, greatest32}
use Rattle.limits.specs.declared.Resource.TheVariants.{Work}
use Rattle.limits.specs.declared.Stop.{Stop}
use Rattle.limits.specs.Metered.{Run, going, ◌>>◌, zoom}
use Rattle.limits.specs.Meter.{meter_of, with_meter}
use Rattle.limits.specs.Budget.{work, released}
use Rattle.limits.proofs.Ends.{Ends, completes, stops, where_going, in_some_way, ends_as, ends_then, ends_through, on_then}
use Rattle.thresholds.specs.Thresholds.{Entry, entry, enter}
use Rattle.thresholds.proofs.Outcomes.{Leaves, standing, new, refused, enter_leaves}
use Rattle.slots.specs.Slots.{slots, total, copies}
use Rattle.limits.proofs.Charging.{charge_ends}
use Rattle.engine.specs.Run.{enter_ends, Start, start, paying_growth, clearing, seeded, Beginning, beginning, in_start, begin}

-- ---- both ends

-- of entering n numbers
abbrev Enters : ℕ → Entry → Entry → Type 0
Enters n s t = (t.budget.limits ≡ s.budget.limits) × (t.count ≤ s.count + n)

enter_keeps : (v : ℤ) (s : Entry) → Ends (λ _ t. Enters 1 s t) (λ _ _. Unit {0}) (enter v s)
enter_keeps v s = go (enter_leaves v s)
  where
    go : {x : Run Stop Entry (Unit {0})} → Leaves v s x → Ends (λ _ t. Enters 1 s t) (λ _ _. Unit {0}) x
    go (standing h k l) = let e : s.count ≤ s.count + 1 = omega arith in completes (h.limits, e)
    go (new h k l) = let e : s.count + 1 ≤ s.count + 1 = omega arith in completes (h.limits, e)
    go (refused h) = stops tt

ends_keep : (s : Entry) → Ends (λ _ t. Enters 2 s t) (λ _ _. Unit {0}) (enter_ends s)
unfolding enter_ends
ends_keep s =
    ends_then (enter least32) (enter greatest32) s (enter_keeps least32 s)
    (λ _ t h. ends_as (enter_keeps greatest32 t) (λ _ u k. second t u h k) (λ _ _ _. tt)) (λ _ _ _. tt)
  where
    second : (t u : Entry) → Enters 1 s t → Enters 1 t u → Enters 2 s u
    second t u h k = (k.0 ∙ h.0, omega (arith, h.1, k.1))

-- ---- the seeds

seeds_keep : (seeds : List ℕ) (n : ℕ) (s : Start) → Ends (λ _ t. t.budget.limits ≡ s.budget.limits) (λ _ _. Unit {0}) (seeded seeds n s)
unfolding seeded
seeds_keep seeds n s =
    on_then (λ t. slots (meter_of t.budget) t.current) (λ t u. start (with_meter u.meter t.budget) u.rows t.growth)
    (λ t u. start (with_meter u.meter t.budget) u.rows t.growth) (λ e. e)
    (copies seeds 0 n) (paying_growth n >> clearing n) s (in_some_way (copies seeds 0 n (slots (meter_of s.budget) s.current)))
    (λ _ u _. charged (start (with_meter u.meter s.budget) u.rows s.growth) refl) (λ _ _ _. tt)
  where
    charged : (t : Start) → t.budget.limits ≡ s.budget.limits → Ends (λ _ u. u.budget.limits ≡ s.budget.limits) (λ _ _. Unit {0}) ((paying_growth n >> clearing n) t)
    charged t h =
        on_then (λ u. u) (λ _ u. u) (λ _ u. start (released (total u.current n) u.budget) u.current u.growth) (λ e. e)
        (zoom (λ u. u.budget) (λ b u. start b u.current u.growth) (work n)) (clearing n) t
        (ends_through (λ u. u.budget) (λ u b. start b u.current u.growth) (λ u b. start b u.current u.growth) (λ e. e)
        {R = λ _ u. u.budget.limits ≡ s.budget.limits} {U = λ _ _. Unit {0}} (work n) t (charge_ends Work n t.budget) (λ _ b p. rw p h) (λ _ _ _. tt))
        (λ _ u p. completes p) (λ _ _ _. tt)

-- ---- both

module _ (seeds : List ℕ) (n : ℕ) (s : Beginning) where
  begin_keeps : Ends (λ _ t. Enters 2 s.entry t.entry) (λ _ _. Unit {0}) (begin seeds n s)
  unfolding begin
  begin_keeps =
      on_then (λ t. t.entry) (λ t e. beginning e t.current t.growth) (λ t e. beginning e t.current t.growth) (λ e. e)
      enter_ends (in_start (seeded seeds n)) s (ends_keep s.entry)
      (λ _ e h.
      ends_through (λ t. start t.entry.budget t.current t.growth) (λ t u. beginning (entry u.budget t.entry.count t.entry.table) u.current u.growth)
      (λ t u. beginning (entry u.budget t.entry.count t.entry.table) u.current u.growth) (λ e. e)
      (seeded seeds n) (beginning e s.current s.growth) (seeds_keep seeds n (start e.budget s.current s.growth))
      (λ _ t k. (k ∙ h.0, h.1)) (λ _ _ _. tt))
      (λ _ _ _. tt)

  module _ {t : Beginning} (h : going tt t ≡ begin seeds n s) where
    begun_keeps : Enters 2 s.entry t.entry
    begun_keeps = where_going (subst (Ends (λ _ u. Enters 2 s.entry u.entry) (λ _ _. Unit {0})) (sym h) begin_keeps)

    pub begin_grown : t.entry.count ≤ s.entry.count + 2
    begin_grown = begun_keeps.1
