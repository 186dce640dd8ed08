-- From two states that look alike a computation completes with the same value, in states that look alike again: what is not looked at, as the
-- counts, decides only whether it is stopped. `Steady` is this where nothing is looked at.
use mathlib.Core.Path.{◌≡◌, refl, subst}
use mathlib.Core.Bool.{Bool, true, false, cond}
use mathlib.Core.List.{List, [], ◌∷◌}
use Rattle.limits.specs.Metered.{Run, going, stopped, Metered, pure, after, ◌>>=◌, ◌>>◌, fold_m, mapped, through}
use Rattle.limits.proofs.Monad.{Agree, Steady}

module _ {E S L A : Type 0} (look : S → L) where
  abbrev pub Alike : Run E S A → Run E S A → Type 0
  Alike (going a s) (going b t) = (a ≡ b) × (look s ≡ look t)
  Alike (going a s) (stopped e t) = Unit {0}
  Alike (stopped e s) y = Unit {0}

  pub record SteadyOn (m : Metered E S A) : Type 0 where
    pub same : (s t : S) → look s ≡ look t → Alike (m s) (m t)

module _ {E S L A : Type 0} {look : S → L} where
  pub on_pure : (a : A) → SteadyOn {E = E} look (pure a)
  unfolding pure
  on_pure a = record { same = λ s t e. (refl, e) }

  pub on_test : (b : Bool) {m n : Metered E S A} → (b ≡ true → SteadyOn look m) → (b ≡ false → SteadyOn look n) → SteadyOn look (cond b m n)
  on_test true f g = f refl
  on_test false f g = g refl

  -- what is looked at may be used
  pub on_look : {f : L → Metered E S A} → ((v : L) → SteadyOn look (f v)) → SteadyOn look (λ s. f (look s) s)
  on_look {f} h = record { same = λ s t e. subst (λ (v : L). Alike look (f (look s) s) (f v t)) e ((h (look s)).same s t e) }

module _ {E S L A B : Type 0} {look : S → L} where
  after_alike : {f : A → Metered E S B} → ((a : A) → SteadyOn look (f a)) → (x y : Run E S A) → Alike look x y → Alike look (after x f) (after y f)
  unfolding after
  after_alike {f} k (going a s) (going b t) h = subst (λ (b : A). Alike look (f a s) (f b t)) h.0 ((k a).same s t h.1)
  after_alike {f} k (going a s) (stopped e t) h = stop (f a s)
    where
      stop : (x : Run E S B) → Alike look x (stopped e t)
      stop (going b s) = tt
      stop (stopped e s) = tt
  after_alike k (stopped e s) y h = tt

  pub on_bind : {m : Metered E S A} {f : A → Metered E S B} → SteadyOn look m → ((a : A) → SteadyOn look (f a)) → SteadyOn look (m >>= f)
  unfolding ◌>>=◌
  on_bind {m} h k = record { same = λ s t e. after_alike k (m s) (m t) (h.same s t e) }

  pub on_then : {m : Metered E S A} {k : Metered E S B} → SteadyOn look m → SteadyOn look k → SteadyOn look (m >> k)
  unfolding ◌>>◌
  on_then h k = on_bind h (λ _. k)

module _ {E S L A B : Type 0} {look : S → L} where
  pub on_fold : {f : B → A → Metered E S B} → ((b : B) (a : A) → SteadyOn look (f b a)) → (b : B) (l : List A) → SteadyOn look (fold_m f b l)
  unfolding fold_m
  on_fold h b [] = on_pure b
  on_fold h b (a ∷ l) = on_bind (h b a) (λ b'. on_fold h b' l)

-- for `on_stop`, `finally`, `whole`, `zoom` and `stopping` alike: what m looks at is a part of what is looked at, and so is what it leaves
module _ {E F S T L K A : Type 0} (get : S → T) (kept left : S → T → S) (tell : E → F) where
  mapped_alike : (look : S → L) (view : T → K) (s t : S) → ((u v : T) → view u ≡ view v → look (kept s u) ≡ look (kept t v)) → (x y : Run E T A) → Alike view x y →
      Alike look (mapped (kept s) (left s) tell x) (mapped (kept t) (left t) tell y)
  unfolding mapped
  mapped_alike look view s t k (going a u) (going b v) h = (h.0, k u v h.1)
  mapped_alike look view s t k (going a u) (stopped e v) h = tt
  mapped_alike look view s t k (stopped e u) y h = tt

  pub on_through : {look : S → L} {view : T → K} → ((s t : S) → look s ≡ look t → view (get s) ≡ view (get t)) →
      ((s t : S) (u v : T) → look s ≡ look t → view u ≡ view v → look (kept s u) ≡ look (kept t v)) →
      {m : Metered E T A} → SteadyOn view m → SteadyOn look (through get kept left tell m)
  unfolding through
  on_through {look} {view} g k {m} h = record { same = λ s t e. mapped_alike look view s t (λ u v. k s t u v e) (m (get s)) (m (get t)) (h.same (get s) (get t) (g s t e)) }

-- where nothing is looked at
abbrev pub nothing : {S : Type 0} → S → Unit {0}
nothing s = tt

module _ {E S A : Type 0} where
  agree_alike : (x y : Run E S A) → Agree x y → Alike nothing x y
  agree_alike (going a s) (going b t) h = (h, refl)
  agree_alike (going a s) (stopped e t) h = tt
  agree_alike (stopped e s) y h = tt

  pub steady_on : {m : Metered E S A} → Steady m → SteadyOn nothing m
  steady_on {m} h = record { same = λ s t e. agree_alike (m s) (m t) (h.same s t) }
