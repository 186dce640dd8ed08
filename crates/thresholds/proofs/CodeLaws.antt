-- What the code's answers are, over plain variables: one law for each way out of a step.
use Prim.Native.Nat.{ℕ, ◌+◌, ◌-◌, ◌≤◌}
use mathlib.Core.Path.{◌≡◌, refl, ap, ◌∙◌}
use mathlib.Core.Bool.{Bool, true, false, cond}
use mathlib.Core.List.{List}
use lib.IntN.{ℤ, pos, ◌+ℤ◌, ◌-ℤ◌}
use mir.Syntax.{w32}
use mir.Val.{SFits}
use Rattle.thresholds.specs.Optional.{enter_some}
use Rattle.std.proofs.Common.{Result, Ok, Err, Option, Some, None}
use Rattle.std.specs.Option.{SomeIff}
use Rattle.integers.specs.Order.{number?}
use Rattle.integers.specs.Lists.{inserted}
use Rattle.integers.proofs.Bits.{number_fits, fits_number}
use Rattle.integers.proofs.OrderLaws.{yes_number, number_yes}
use Rattle.limits.specs.declared.Stop.{Stop}
use Rattle.limits.specs.declared.Budget.{Budget}
use Rattle.limits.specs.declared.Meter.{Meter}
use Rattle.limits.specs.Metered.{Run, going, stopped, answered, pure, after, ◌>>=◌, ◌>>◌, through, mapped}
use Rattle.limits.specs.Meter.{meter_of, with_meter}
use Rattle.limits.proofs.Answering as answering
use Rattle.limits.proofs.Monad.{then_stop, then_on}
use Rattle.search.specs.Seek.{Place, found, absent}
use Rattle.search.proofs.Complete.{absent_within}
use Rattle.thresholds.specs.Thresholds.{Entry, entry, against, seek_number, cost, insert, settle, enter, enter_number, around}

-- ---- the ways of `enter`

module _ (v : ℤ) (b : Budget) (n : ℕ) (t : List ℤ) (m : Meter) {r : Result Place Stop} (h : answered r m ≡ seek_number t n v (meter_of b)) {b' : Budget} (k : b' ≡ with_meter m b) where
  pub enter_halted : {s : Stop} → r ≡ Err s → stopped s (entry b' n t) ≡ enter v (entry b n t)
  unfolding enter ◌>>=◌ after through mapped
  enter_halted e = rw (k, ← h, e)

  pub enter_found : {p : Place} {i : ℕ} → r ≡ Ok p → p ≡ found i → going tt (entry b' n t) ≡ enter v (entry b n t)
  unfolding enter settle pure ◌>>=◌ after through mapped
  enter_found e f = rw (k, ← h, e, f)

  module _ {p : Place} {low : ℕ} (e : r ≡ Ok p) (f : p ≡ absent low) where
    pub place_within : low ≤ n
    unfolding seek_number
    place_within = absent_within (against t v) n n (meter_of b) (answering.went h (e ∙ ap Ok f))

    pub enter_unpaid : {s : Stop} {c : Budget} → stopped s c ≡ cost (n - low + 1) b' → stopped s (entry c n t) ≡ enter v (entry b n t)
    unfolding enter settle ◌>>◌ ◌>>=◌ after through mapped
    enter_unpaid q = rw (← h, e, f, ← k, ← q)

    pub enter_new : {c : Budget} {t' : List ℤ} → going tt c ≡ cost (n - low + 1) b' → t' ≡ inserted t low n v → going tt (entry c (n + 1) t') ≡ enter v (entry b n t)
    unfolding enter settle insert ◌>>◌ ◌>>=◌ after through mapped
    enter_new q i = rw (← h, e, f, ← k, ← q, i)

-- ---- v's neighbours, as 32 bits hold them

pub some_number : (z : ℤ) (o : Option ℤ) (s : Entry) → SomeIff o (SFits w32 z) z → enter_some o s ≡ enter_number z s
unfolding enter_number
some_number z (Some v) s h = rw (yes_number z (fits_number z h.0), h.1)
some_number z None s h = go (number? z) refl
  where
    go : (b : Bool) → number? z ≡ b → pure tt s ≡ cond b (enter z) (pure tt) s
    go true e = absurd (h (number_fits z (number_yes z e)))
    go false e = refl

-- ---- the ways of `around`

module _ (v : ℤ) (s : Entry) {s₁ : Entry} where
  pub around_first : {e : Stop} → stopped e s₁ ≡ enter_number (v -ℤ pos 1) s → stopped e s₁ ≡ around v s
  unfolding around
  around_first h = then_stop (enter_number (v -ℤ pos 1)) s _ h

  module _ (h : going tt s₁ ≡ enter_number (v -ℤ pos 1) s) {s₂ : Entry} where
    pub around_second : {e : Stop} → stopped e s₂ ≡ enter v s₁ → stopped e s₂ ≡ around v s
    unfolding around
    around_second k = then_on (enter_number (v -ℤ pos 1)) s _ h (then_stop (enter v) s₁ _ k)

    pub around_third : {x : Run Stop Entry (Unit {0})} → going tt s₂ ≡ enter v s₁ → x ≡ enter_number (v +ℤ pos 1) s₂ → x ≡ around v s
    unfolding around
    around_third k l = then_on (enter_number (v -ℤ pos 1)) s _ h (then_on (enter v) s₁ _ k l)
