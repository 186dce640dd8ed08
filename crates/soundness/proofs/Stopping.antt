-- What a call is stopped with is told by a number of a list: the rules, step by step.
use Prim.Native.Nat.{ℕ}
use mathlib.Core.Path.{◌≡◌}
use mathlib.Core.Logic.{inl, inr}
use mathlib.Core.Bool.{Bool, true, false, cond}
use mathlib.Core.List.{List}
use lib.IntN.{ℤ, pos, ◌+ℤ◌, ◌-ℤ◌}
use Rattle.integers.proofs.ListLaws.{has}
use Rattle.integers.specs.Order.{number?}
use Rattle.limits.specs.declared.Resource.{Resource}
use Rattle.limits.specs.declared.Resource.TheVariants.{Work, Links, ValueEntries}
use Rattle.limits.specs.declared.Stop.{Stop}
use Rattle.limits.specs.declared.Budget.{Budget}
use Rattle.limits.specs.declared.Refusal.{Refusal}
use Rattle.limits.specs.declared.Refusal.TheVariants.{Limit}
use Rattle.limits.specs.Refusal.{Told, told, resource_number}
use Rattle.limits.specs.Metered.{going, Metered, pure, ◌>>=◌, ◌>>◌, through, zoom}
use Rattle.limits.proofs.Ends.{Ends, completes, stops, ends_test, ends_after, ends_through}
use Rattle.thresholds.specs.Thresholds.{Entry, around, enter, enter_number}
use Rattle.store.specs.Calls.{unless, billing, entering}
use Rattle.soundness.proofs.HaltingRules.{Halts, halts_pure, halts_test, halts_as, halts_bind, halts_then, halts_through, halts_charge, halts_work, seek_halts, Spends, join_halts, constant_halts}
use Rattle.soundness.proofs.Halting.{EntryResource, enter_halts}

-- ---- what stops a computation is told by a number of the list, from any state

module _ (l : List ℕ) where
  abbrev pub Told? : Told → Type 0
  Told? t = has l t.number ≡ true

  abbrev pub Charged : Resource → Type 0
  Charged r = has l (resource_number r) ≡ true

  pub record Stops {S A : Type 0} (m : Metered Told S A) : Type 0 where
    pub at : (s : S) → Ends (λ _ _. Unit {0}) (λ e _. Told? e) (m s)

module _ {l : List ℕ} where
  module _ {S A : Type 0} where
    pub stops_pure : (a : A) → Stops l {S = S} (pure a)
    unfolding pure
    stops_pure a = record { at = λ s. completes tt }

    -- what answers
    pub stops_any : {f : S → A} {g : S → S} → Stops l (λ s. going (f s) (g s))
    stops_any = record { at = λ s. completes tt }

    pub stops_test : (b : Bool) {m n : Metered Told S A} → Stops l m → Stops l n → Stops l (cond b m n)
    stops_test true h k = h
    stops_test false h k = k

    pub stops_unless : (p : S → Bool) (r : Refusal) {m : Metered Told S A} → Told? l (told r) → Stops l m → Stops l (unless p r m)
    stops_unless p r t h = record { at = λ s. ends_test (p s) (λ _. h.at s) (λ _. stops t) }

  module _ {S A B : Type 0} where
    pub stops_bind : {m : Metered Told S A} {f : A → Metered Told S B} → Stops l m → ((a : A) → Stops l (f a)) → Stops l (m >>= f)
    unfolding ◌>>=◌
    stops_bind {m} {f} h k = record { at = λ s. ends_after f (h.at s) (λ a t _. (k a).at t) (λ _ _ p. p) }

    pub stops_then : {m : Metered Told S A} {k : Metered Told S B} → Stops l m → Stops l k → Stops l (m >> k)
    unfolding ◌>>◌
    stops_then h k = stops_bind h (λ _. k)

  module _ {S T A : Type 0} where
    pub stops_zoom : (get : S → T) (back : T → S → S) {m : Metered Told T A} → Stops l m → Stops l (zoom get back m)
    stops_zoom get back {m} h = record { at = λ s. ends_through get _ _ (λ e. e) m s (h.at (get s)) (λ _ _ _. tt) (λ _ _ p. p) }

    -- a charge, told as its refusal
    pub stops_charge : (get : S → T) (kept left : S → T → S) {m : Metered Stop T A} → Halts (Charged l) m → Stops l (through get kept left (λ e. told (Limit e)) m)
    stops_charge get kept left {m} h = record { at = λ s. ends_through get kept left (λ e. told (Limit e)) m s (h.at (get s)) (λ _ _ _. tt) (λ _ _ p. p) }

  module _ {A : Type 0} where
    pub stops_bill : {m : Metered Stop Budget A} → Halts (Charged l) m → Stops l (billing m)
    stops_bill h = stops_charge _ _ _ (halts_through _ _ _ h)

    pub stops_enter : {m : Metered Stop Entry A} → Halts (Charged l) m → Stops l (entering m)
    stops_enter h = stops_charge _ _ _ (halts_through _ _ _ h)

-- what the engine's own computations charge
module _ (l : List ℕ) where
  pub spent : Charged l Work → Charged l ValueEntries → (r : Resource) → Spends r → Charged l r
  spent w v r (inl e) = rw e w
  spent w v r (inr e) = rw e v

  pub entered : Charged l Work → Charged l Links → (r : Resource) → EntryResource r → Charged l r
  entered w k r (inl e) = rw e w
  entered w k r (inr e) = rw e k

  pub around_stops : Charged l Work → Charged l Links → (v : ℤ) → Stops l (entering (around v))
  unfolding around enter_number
  around_stops w k v = stops_enter (halts_then (one (v -ℤ pos 1)) (halts_then (enters v) (one (v +ℤ pos 1))))
    where
      enters : (z : ℤ) → Halts (Charged l) (enter z)
      enters z = halts_as (entered w k) (enter_halts z)

      one : (z : ℤ) → Halts (Charged l) (enter_number z)
      one z = halts_test (number? z) (enters z) (halts_pure tt)

pub ruleset steps = (
  stops_unless,
  stops_then,
  stops_bind,
  stops_zoom,
  stops_bill,
  stops_test,
  stops_pure,
  stops_any,
  halts_then,
  halts_through,
  halts_test,
  halts_pure,
  halts_charge,
  halts_work,
)
