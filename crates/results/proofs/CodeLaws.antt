-- What the code of results answers is what the definitions say, over plain variables.
use Prim.Native.Nat.{ℕ, suc, ◌+◌, ◌-◌, ◌<◌, ◌≤◌}
use native.Mathlib.Omega.{arith}
use mathlib.Core.Path.{◌≡◌, ap, ◌∙◌}
use mathlib.Core.Bool.{Bool}
use mathlib.Core.List.{List}
use borrow.Author.Tests.{lt-ltb, le-ltb}
use lib.Seq.{sets}
use Rattle.limits.specs.declared.Stop.{Stop}
use Rattle.limits.specs.declared.Meter.{Meter}
use Rattle.limits.specs.Metered.{going, stopped, Metered, ◌>>◌}
use Rattle.limits.specs.Meter as inner
use Rattle.limits.proofs.Onward.{Onward, onward_begins, onward_ends, then_stops, then_goes}
use Rattle.interval.specs.declared.Bound.{Bound}
use Rattle.rows.specs.Row.{bound_cells, value_at}
use Rattle.slots.specs.Slots.{Slots, slots, after_unit}
use Rattle.slots.proofs.CodeLaws.{step_stop, step_goes}
use Rattle.results.specs.Result.{bound_place, put_bound, keeping, keep_bounds}

-- ---- the cells of a bound

module _ (cells : List ℕ) (id slot : ℕ) (after : Bool) (b : Bound) where
  pub put_no_rule : 256 ≤ id → cells ≡ put_bound cells id slot after b
  unfolding put_bound
  put_no_rule h = rw (le-ltb id 256 h)

  pub put_no_slot : id < 256 → 16 ≤ slot → cells ≡ put_bound cells id slot after b
  unfolding put_bound
  put_no_slot h k = rw (lt-ltb id 256 h, le-ltb slot 16 k)

  pub put_there : id < 256 → slot < 16 → {n : ℕ} {r : List ℕ} → n ≡ bound_place id slot after → r ≡ sets cells n (bound_cells b) → r ≡ put_bound cells id slot after b
  unfolding put_bound
  put_there h k p q = q ∙ rw (p, lt-ltb id 256 h, lt-ltb slot 16 k)

-- ---- the bounds of a rule's slots

module _ (rows : List ℕ) (id : ℕ) (after : Bool) (count : ℕ) (s : Slots) where
  abbrev pub Keeping : ℕ → Slots → Type 0
  Keeping k t = Onward (keep_bounds rows id after 0 count) s (keep_bounds rows id after k (count - k)) t

  pub keep_begun : Keeping 0 s
  keep_begun = let e : count ≡ count - 0 = omega arith in onward_begins s (ap (keep_bounds rows id after 0) e)

  module _ {k : ℕ} {t : Meter} {now : List ℕ} (h : Keeping k (slots t now)) where
    pub kept : count ≤ k → going tt (slots t now) ≡ keep_bounds rows id after 0 count s
    unfolding keep_bounds
    kept l = let e : count - k ≡ 0 = omega arith in onward_ends h (ap (keep_bounds rows id after k) e)

    module _ (l : k < count) where
      abbrev one : Metered Stop Slots (Unit {0})
      one = keeping id k after (value_at rows k).bound

      keep_next : keep_bounds rows id after k (count - k) ≡ (after_unit one >> keep_bounds rows id after (k + 1) (count - (k + 1)))
      unfolding keep_bounds
      keep_next = let e : count - k ≡ suc (count - (k + 1)) = omega arith in ap (keep_bounds rows id after k) e

      pub keep_stopped : {e : Stop} {u : Meter} → stopped e u ≡ inner.work 1 t → stopped e (slots u now) ≡ keep_bounds rows id after 0 count s
      keep_stopped w = then_stops h (after_unit one) _ keep_next (step_stop one t now w)

      pub keep_more : {u : Meter} {b : Bound} {now' : List ℕ} → going tt u ≡ inner.work 1 t → b ≡ (value_at rows k).bound → now' ≡ put_bound now id k after b → Keeping (k + 1) (slots u now')
      keep_more w p q = then_goes h (after_unit one) _ keep_next (step_goes one t now w (rw (q, p)))
