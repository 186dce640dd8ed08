-- Two runs end alike: both go on, with one value and states of which P holds, or both are stopped, with one stop and states of which Q holds.
use mathlib.Core.Path.{◌≡◌, refl, ap, subst}
use mathlib.Core.Bool.{Bool, true, false, cond}
use mathlib.Core.List.{List, [], ◌∷◌}
use Rattle.limits.specs.Metered.{Run, going, stopped, Metered, pure, after, ◌>>=◌, ◌>>◌, fold_m, mapped, through}
use Rattle.limits.proofs.Monad.{Holds}

pub data Likewise {E S A : Type 0} (P : A → S → S → Type 0) (Q : S → S → Type 0) : Run E S A → Run E S A → Type 0 where
  both_go : {a : A} {s t : S} → P a s t → Likewise P Q (going a s) (going a t)
  both_stop : {e : E} {s t : S} → Q s t → Likewise P Q (stopped e s) (stopped e t)

module _ {E S A : Type 0} {P : A → S → S → Type 0} {Q : S → S → Type 0} where
  -- a run and itself
  pub like_same : (x : Run E S A) → ((a : A) (s : S) → P a s s) → ((s : S) → Q s s) → Likewise P Q x x
  like_same (going a s) f g = both_go (f a s)
  like_same (stopped e s) f g = both_stop (g s)

  like_value : {H : A → Type 0} (x : Run E S A) → Holds H x → ((a : A) (s : S) → H a → P a s s) → ((s : S) → Q s s) → Likewise P Q x x
  like_value (going a s) h f g = both_go (f a s h)
  like_value (stopped e s) h f g = both_stop (g s)

  -- from equal states
  pub like_equal : (m : Metered E S A) {s t : S} → s ≡ t → ((a : A) (s : S) → P a s s) → ((s : S) → Q s s) → Likewise P Q (m s) (m t)
  like_equal m {s} e f g = subst (λ (x : S). Likewise P Q (m s) (m x)) e (like_same (m s) f g)

  -- and with what holds of the value
  pub like_known : {H : A → Type 0} (m : Metered E S A) {s t : S} → s ≡ t → Holds H (m s) → ((a : A) (s : S) → H a → P a s s) → ((s : S) → Q s s) → Likewise P Q (m s) (m t)
  like_known m {s} e h f g = subst (λ (x : S). Likewise P Q (m s) (m x)) e (like_value (m s) h f g)

  pub like_pure : (a : A) (s t : S) → P a s t → Likewise {E = E} P Q (pure a s) (pure a t)
  unfolding pure
  like_pure a s t h = both_go h

  pub like_test : (b : Bool) (m n : Metered E S A) (s t : S) → Likewise P Q (m s) (m t) → Likewise P Q (n s) (n t) → Likewise P Q (cond b m n s) (cond b m n t)
  like_test true m n s t h k = h
  like_test false m n s t h k = k

module _ {E S A : Type 0} where
  pub like_as : {P R : A → S → S → Type 0} {Q U : S → S → Type 0} {x y : Run E S A} → Likewise P Q x y → ((a : A) (s t : S) → P a s t → R a s t) → ((s t : S) → Q s t → U s t) →
      Likewise R U x y
  like_as (both_go h) f g = both_go (f _ _ _ h)
  like_as (both_stop h) f g = both_stop (g _ _ h)

  -- with the same states they are one
  pub like_is : {x y : Run E S A} → Likewise (λ _ s t. s ≡ t) (λ s t. s ≡ t) x y → x ≡ y
  like_is (both_go {a = a} h) = ap (going a) h
  like_is (both_stop {e = e} h) = ap (stopped e) h

-- ---- one step after another

module _ {E S A B : Type 0} {P : A → S → S → Type 0} {Q : S → S → Type 0} {R : B → S → S → Type 0} {U : S → S → Type 0} where
  pub like_after : (f : A → Metered E S B) {x y : Run E S A} → Likewise P Q x y → ((a : A) (s t : S) → P a s t → Likewise R U (f a s) (f a t)) → ((s t : S) → Q s t → U s t) →
      Likewise R U (after x f) (after y f)
  unfolding after
  like_after f (both_go h) k l = k _ _ _ h
  like_after f (both_stop h) k l = both_stop (l _ _ h)

  pub like_bind : (m : Metered E S A) (f : A → Metered E S B) (s t : S) → Likewise P Q (m s) (m t) → ((a : A) (u v : S) → P a u v → Likewise R U (f a u) (f a v)) →
      ((u v : S) → Q u v → U u v) → Likewise R U ((m >>= f) s) ((m >>= f) t)
  unfolding ◌>>=◌
  like_bind m f s t h k l = like_after f h k l

  pub like_then : (m : Metered E S A) (n : Metered E S B) (s t : S) → Likewise P Q (m s) (m t) → ((a : A) (u v : S) → P a u v → Likewise R U (n u) (n v)) →
      ((u v : S) → Q u v → U u v) → Likewise R U ((m >> n) s) ((m >> n) t)
  unfolding ◌>>◌
  like_then m n s t h k l = like_bind m (λ _. n) s t h k l

module _ {E S A B : Type 0} {P : B → S → S → Type 0} {Q : S → S → Type 0} where
  -- what every step keeps, the fold keeps
  pub like_fold : {f : B → A → Metered E S B} → ((b : B) (a : A) (s t : S) → P b s t → Likewise P Q (f b a s) (f b a t)) →
      (b : B) (l : List A) (s t : S) → P b s t → Likewise P Q (fold_m f b l s) (fold_m f b l t)
  unfolding fold_m
  like_fold h b [] s t p = like_pure b s t p
  like_fold {f} h b (a ∷ l) s t p = like_bind (f b a) (λ b'. fold_m f b' l) s t (h b a s t p) (λ b' u v q. like_fold h b' l u v q) (λ u v q. q)

-- ---- on a part of the state: for `on_stop`, `finally`, `zoom` and `stopping` alike

module _ {E F S T A : Type 0} (get : S → T) (kept left : S → T → S) (tell : E → F) {R : A → S → S → Type 0} {U : S → S → Type 0} where
  pub like_through : {P : A → T → T → Type 0} {Q : T → T → Type 0} (m : Metered E T A) (s t : S) → Likewise P Q (m (get s)) (m (get t)) →
      ((a : A) (u v : T) → P a u v → R a (kept s u) (kept t v)) → ((u v : T) → Q u v → U (left s u) (left t v)) →
      Likewise R U (through get kept left tell m s) (through get kept left tell m t)
  unfolding through mapped
  like_through {P} {Q} m s t h f g = go h
    where
      go : {x y : Run E T A} → Likewise P Q x y → Likewise R U (mapped (kept s) (left s) tell x) (mapped (kept t) (left t) tell y)
      go (both_go p) = both_go (f _ _ _ p)
      go (both_stop q) = both_stop (g _ _ q)

  -- a part that is the same in both states
  pub like_part : (m : Metered E T A) (s t : S) → get s ≡ get t → ((a : A) (u : T) → R a (kept s u) (kept t u)) → ((u : T) → U (left s u) (left t u)) →
      Likewise R U (through get kept left tell m s) (through get kept left tell m t)
  like_part m s t e f g =
      like_through {P = λ _ u v. u ≡ v} {Q = λ u v. u ≡ v} m s t (like_equal m e (λ _ u. refl) (λ u. refl))
      (λ a u v p. subst (λ (x : T). R a (kept s u) (kept t x)) p (f a u)) (λ u v p. subst (λ (x : T). U (left s u) (left t x)) p (g u))
