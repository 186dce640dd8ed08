-- How a computation ends: P of its value and of the state where it completes, Q of what stops it and of the state where it is stopped. What
-- a call leaves, whichever way it ends, is said with it.
use mathlib.Core.Path.{◌≡◌, refl}
use mathlib.Core.Bool.{Bool, true, false, cond}
use Rattle.limits.proofs.Monad.{Holds}
use Rattle.limits.specs.Metered.{Run, going, stopped, Metered, pure, after, ◌>>=◌, ◌>>◌, mapped, through}

pub data Ends {E S A : Type 0} (P : A → S → Type 0) (Q : E → S → Type 0) : Run E S A → Type 0 where
  completes : {a : A} {s : S} → P a s → Ends P Q (going a s)
  stops : {e : E} {s : S} → Q e s → Ends P Q (stopped e s)

module _ {E S A : Type 0} {P : A → S → Type 0} {Q : E → S → Type 0} where
  pub ends_pure : (a : A) (s : S) → P a s → Ends P Q (pure a s)
  unfolding pure
  ends_pure a s h = completes h

  pub ends_test : (t : Bool) {x y : Run E S A} → (t ≡ true → Ends P Q x) → (t ≡ false → Ends P Q y) → Ends P Q (cond t x y)
  ends_test true f g = f refl
  ends_test false f g = g refl

module _ {E S A : Type 0} where
  pub ends_as : {P R : A → S → Type 0} {Q U : E → S → Type 0} {x : Run E S A} → Ends P Q x → ((a : A) (s : S) → P a s → R a s) → ((e : E) (s : S) → Q e s → U e s) → Ends R U x
  ends_as (completes h) f g = completes (f _ _ h)
  ends_as (stops h) f g = stops (g _ _ h)

  pub ends_both : {P R : A → S → Type 0} {Q U : E → S → Type 0} {x : Run E S A} → Ends P Q x → Ends R U x → Ends (λ a s. P a s × R a s) (λ e s. Q e s × U e s) x
  ends_both (completes h) (completes k) = completes (h, k)
  ends_both (stops h) (stops k) = stops (h, k)

  pub where_going : {P : A → S → Type 0} {Q : E → S → Type 0} {a : A} {s : S} → Ends P Q (going a s) → P a s
  where_going (completes h) = h

  pub where_stopped : {P : A → S → Type 0} {Q : E → S → Type 0} {e : E} {s : S} → Ends P Q (stopped e s) → Q e s
  where_stopped (stops h) = h

-- ---- one step after another

module _ {E S A B : Type 0} {P : A → S → Type 0} {Q : E → S → Type 0} {R : B → S → Type 0} {U : E → S → Type 0} where
  pub ends_after : (f : A → Metered E S B) {x : Run E S A} → Ends P Q x → ((a : A) (s : S) → P a s → Ends R U (f a s)) → ((e : E) (s : S) → Q e s → U e s) → Ends R U (after x f)
  unfolding after
  ends_after f (completes h) k l = k _ _ h
  ends_after f (stops h) k l = stops (l _ _ h)

  pub ends_bind : (m : Metered E S A) (f : A → Metered E S B) (s : S) → Ends P Q (m s) → ((a : A) (t : S) → P a t → Ends R U (f a t)) → ((e : E) (t : S) → Q e t → U e t) →
      Ends R U ((m >>= f) s)
  unfolding ◌>>=◌
  ends_bind m f s h k l = ends_after f h k l

  pub ends_then : (m : Metered E S A) (n : Metered E S B) (s : S) → Ends P Q (m s) → ((a : A) (t : S) → P a t → Ends R U (n t)) → ((e : E) (t : S) → Q e t → U e t) →
      Ends R U ((m >> n) s)
  unfolding ◌>>◌ ◌>>=◌
  ends_then m n s h k l = ends_after (λ _. n) h k l

-- ---- on a part of the state: for `on_stop`, `whole`, `zoom` and `stopping` alike

module _ {E F S T A : Type 0} (get : S → T) (kept left : S → T → S) (tell : E → F) {P : A → T → Type 0} {Q : E → T → Type 0} {R : A → S → Type 0} {U : F → S → Type 0} where
  pub ends_through : (m : Metered E T A) (s : S) → Ends P Q (m (get s)) → ((a : A) (t : T) → P a t → R a (kept s t)) → ((e : E) (t : T) → Q e t → U (tell e) (left s t)) →
      Ends R U (through get kept left tell m s)
  unfolding through mapped
  ends_through m s h f g = go h
    where
      go : {x : Run E T A} → Ends P Q x → Ends R U (mapped (kept s) (left s) tell x)
      go (completes k) = completes (f _ _ k)
      go (stops k) = stops (g _ _ k)

-- and then the rest of a computation
module _ {E F S T A B : Type 0} (get : S → T) (kept left : S → T → S) (tell : E → F) {P : A → T → Type 0} {Q : E → T → Type 0} {R : B → S → Type 0} {U : F → S → Type 0} where
  pub on_bind : (m : Metered E T A) (f : A → Metered F S B) (s : S) → Ends P Q (m (get s)) → ((a : A) (t : T) → P a t → Ends R U (f a (kept s t))) → ((e : E) (t : T) → Q e t → U (tell e) (left s t)) →
      Ends R U ((through get kept left tell m >>= f) s)
  unfolding ◌>>=◌ after through mapped
  on_bind m f s h k l = go h
    where
      go : {x : Run E T A} → Ends P Q x → Ends R U (after (mapped (kept s) (left s) tell x) f)
      go (completes p) = k _ _ p
      go (stops q) = stops (l _ _ q)

  pub on_then : (m : Metered E T A) (n : Metered F S B) (s : S) → Ends P Q (m (get s)) → ((a : A) (t : T) → P a t → Ends R U (n (kept s t))) → ((e : E) (t : T) → Q e t → U (tell e) (left s t)) →
      Ends R U ((through get kept left tell m >> n) s)
  unfolding ◌>>◌
  on_then m n s h k l = on_bind m (λ _. n) s h k l

-- ---- of any computation

module _ {E S A : Type 0} where
  pub in_some_way : (x : Run E S A) → Ends (λ _ _. Unit {0}) (λ _ _. Unit {0}) x
  in_some_way (going a s) = completes tt
  in_some_way (stopped e s) = stops tt

  pub with_value : {P : A → Type 0} (x : Run E S A) → Holds P x → Ends (λ a _. P a) (λ _ _. Unit {0}) x
  with_value (going a s) h = completes h
  with_value (stopped e s) h = stops tt
