-- What follows from a clause `answered r s ≡ y`, at each way out of the code.
use Prim.Native.Nat.{ℕ}
use native.Mathlib.Omega.{arith}
use mathlib.Core.Bool.{true, false}
use mathlib.Core.Path.{◌≡◌, refl, sym, ap, ◌∙◌}
use Rattle.std.proofs.Common.{Result, Ok, Err, is_err}
use Rattle.std.specs.Prelude.{IsErrAnd}
use Rattle.std.proofs.lemmas.Result.{err_from_is_err_and}
use Rattle.limits.specs.declared.Stop.{Stop}
use Rattle.limits.specs.declared.Meter.{Meter}
use Rattle.limits.specs.Metered.{Run, going, stopped, Metered, answered, mapped, through, on_stop, zoom}
use Rattle.limits.specs.Meter.{released, holding, held_through}
use Rattle.limits.proofs.Monad.{through_is}
use Rattle.limits.specs.Refusal.{Told, told, replied}
use Rattle.limits.specs.declared.Refusal.{Refusal}
use Rattle.limits.specs.declared.Refusal.TheVariants.{Limit}

module _ {E S A : Type 0} {r : Result A E} {s : S} {y : Run E S A} (h : answered r s ≡ y) where
  pub went : {a : A} → r ≡ Ok a → going a s ≡ y
  went e = ap (λ (x : Result A E). answered x s) (sym e) ∙ h

  pub broke : {e : E} → r ≡ Err e → stopped e s ≡ y
  broke e = ap (λ (x : Result A E). answered x s) (sym e) ∙ h

-- the exit of a `?`, from what that exit returns
module _ {E S A : Type 0} {s : S} {y : Run E S A} where
  pub exits : (x : Result A E) {e : E} → IsErrAnd x (λ d. d ≡ e) → stopped e s ≡ y → answered x s ≡ y
  exits x h k = let p = err_from_is_err_and x h in rw (p.1, p.2) k

-- a step and then `Meter::holding`
module _ {A : Type 0} (n : ℕ) (c : Metered Stop Meter A) (m : Meter) where
  pub held_is : (x : Result A Stop) (m' : Meter) → answered x m' ≡ c m → held_through n x m' ≡ holding n c m
  held_is x m' h = through_is (λ s. s) (λ _ t. t) (λ _ t. released n t) (λ e. e) c m h

-- the exit of a `?` that makes a refusal of a stop
module _ {S A : Type 0} {s : S} {y : Run Told S A} where
  pub limits : (x : Result A Refusal) (e : Stop) → IsErrAnd x (λ d. d ≡ Limit e) → stopped (told (Limit e)) s ≡ y → replied x s ≡ y
  limits x e h k = let p = err_from_is_err_and x h in rw (p.1, p.2) k

-- ---- the same for calls, whose refusals are told by number and values

module _ {S A : Type 0} {r : Result A Refusal} {s : S} {y : Run Told S A} (h : replied r s ≡ y) where
  pub replied_ok : {a : A} → r ≡ Ok a → going a s ≡ y
  replied_ok e = ap (λ (x : Result A Refusal). replied x s) (sym e) ∙ h

  pub replied_err : {e : Refusal} → r ≡ Err e → stopped (told e) s ≡ y
  replied_err e = ap (λ (x : Result A Refusal). replied x s) (sym e) ∙ h

module _ {S A : Type 0} {s : S} {y : Run Told S A} where
  pub refuses : (x : Result A Refusal) (e : Refusal) → IsErrAnd x (λ d. d ≡ e) → stopped (told e) s ≡ y → replied x s ≡ y
  refuses x e h k = let p = err_from_is_err_and x h in rw (p.1, p.2) k

-- what a step answers on a part of the state, or with something done to the state whichever way it ends: for `zoom` and `finally`
module _ {E S T A : Type 0} (get : S → T) (kept : S → T → S) (m : Metered E T A) (s : S) where
  pub answered_through : (r : Result A E) (t : T) → answered r t ≡ m (get s) → answered r (kept s t) ≡ through get kept kept (λ e. e) m s
  unfolding through mapped
  answered_through r t h = rw (← h) (go r)
    where
      go : (r : Result A E) → answered r (kept s t) ≡ mapped (kept s) (kept s) (λ e. e) (answered r t)
      go (Ok a) = refl
      go (Err e) = refl

-- and with something done where it is stopped
module _ {E S A : Type 0} (f : S → S) (m : Metered E S A) (s : S) (r : Result A E) (t : S) (h : answered r t ≡ m s) where
  pub answered_lost : is_err r ≡ true → answered r (f t) ≡ on_stop f m s
  unfolding through mapped
  answered_lost e = rw (← h) (go r e)
    where
      go : (r : Result A E) → is_err r ≡ true → answered r (f t) ≡ mapped (λ t. t) f (λ e. e) (answered r t)
      go (Ok a) e = let z : ◌≡◌ {A = ℕ} 0 1 = cc in absurd (omega arith)
      go (Err x) e = refl

  pub answered_kept : is_err r ≡ false → answered r t ≡ on_stop f m s
  unfolding through mapped
  answered_kept e = rw (← h) (go r e)
    where
      go : (r : Result A E) → is_err r ≡ false → answered r t ≡ mapped (λ t. t) f (λ e. e) (answered r t)
      go (Ok a) e = refl
      go (Err x) e = let z : ◌≡◌ {A = ℕ} 0 1 = cc in absurd (omega arith)

-- what a call answers on a part of the state
module _ {S T A : Type 0} (get : S → T) (put : T → S → S) (m : Metered Told T A) (s : S) where
  pub replied_through : (r : Result A Refusal) (t : T) → replied r t ≡ m (get s) → replied r (put t s) ≡ zoom get put m s
  unfolding through mapped
  replied_through r t h = rw (← h) (go r)
    where
      go : (r : Result A Refusal) → replied r (put t s) ≡ mapped (λ u. put u s) (λ u. put u s) (λ e. e) (replied r t)
      go (Ok a) = refl
      go (Err e) = refl
