-- Metered computations: the laws of the monad; `Ensures`, what holds of the value where one completes; `Steady`, the same value from any two states.
use Prim.Native.Nat.{ℕ}
use native.Mathlib.Omega.{arith}
use mathlib.Core.Path.{◌≡◌, refl, ap, subst}
use mathlib.Core.Bool.{Bool, true, false, cond}
use mathlib.Core.List.{List, [], ◌∷◌, ◌++◌, Memᴰ}
use Rattle.integers.specs.Lists.{All}
use Rattle.limits.specs.Metered.{Run, going, stopped, Metered, pure, after, ◌>>=◌, ◌>>◌, fold_m, mapped, through}

-- ---- the laws of the monad, at every state

module _ {E S A : Type 0} where
  after_pure : (x : Run E S A) → after x pure ≡ x
  unfolding pure after
  after_pure (going a s) = refl
  after_pure (stopped e s) = refl

  pub bind_pure : (m : Metered E S A) (s : S) → (m >>= pure) s ≡ m s
  unfolding ◌>>=◌
  bind_pure m s = after_pure (m s)

module _ {E S A B C : Type 0} where
  after_after : (x : Run E S A) (f : A → Metered E S B) (g : B → Metered E S C) → after (after x f) g ≡ after x (λ a. f a >>= g)
  unfolding ◌>>=◌ after
  after_after (going a s) f g = refl
  after_after (stopped e s) f g = refl

  pub bind_bind : (m : Metered E S A) (f : A → Metered E S B) (g : B → Metered E S C) (s : S) → ((m >>= f) >>= g) s ≡ (m >>= (λ a. f a >>= g)) s
  unfolding ◌>>=◌
  bind_bind m f g s = after_after (m s) f g

module _ {E S A B : Type 0} where
  -- a fold over two lists is one over the first and then one over the second
  pub fold_append : (f : B → A → Metered E S B) (b : B) (l r : List A) (s : S) → fold_m f b (l ++ r) s ≡ (fold_m f b l >>= (λ b'. fold_m f b' r)) s
  unfolding fold_m ◌>>=◌ pure after
  fold_append f b [] r s = refl
  fold_append f b (a ∷ l) r s = on (f b a s) (λ b' s'. fold_append f b' l r s')
    where
      on : (x : Run E S B) → ((b' : B) (s' : S) → fold_m f b' (l ++ r) s' ≡ after (fold_m f b' l s') (λ b''. fold_m f b'' r)) →
          after x (λ b'. fold_m f b' (l ++ r)) ≡ after (after x (λ b'. fold_m f b' l)) (λ b''. fold_m f b'' r)
      on (going b' s') h = h b' s'
      on (stopped e s') h = refl

-- ---- what a computation gives, step by step: from what its first step gives

module _ {E S A B : Type 0} (c : Metered E S A) (s : S) where
  pub bind_stop : (f : A → Metered E S B) {e : E} {t : S} → stopped e t ≡ c s → stopped e t ≡ (c >>= f) s
  unfolding ◌>>=◌ after
  bind_stop f h = rw (← h)

  pub bind_on : (f : A → Metered E S B) {a : A} {t : S} {y : Run E S B} → going a t ≡ c s → y ≡ f a t → y ≡ (c >>= f) s
  unfolding ◌>>=◌ after
  bind_on f h k = rw (← h) k

  pub then_stop : (d : Metered E S B) {e : E} {t : S} → stopped e t ≡ c s → stopped e t ≡ (c >> d) s
  unfolding ◌>>◌
  then_stop d h = bind_stop (λ _. d) h

  pub then_on : (d : Metered E S B) {a : A} {t : S} {y : Run E S B} → going a t ≡ c s → y ≡ d t → y ≡ (c >> d) s
  unfolding ◌>>◌
  then_on d h k = bind_on (λ _. d) h k

-- and on a part of the state: for `on_stop`, `whole`, `zoom` and `stopping` alike
module _ {E F S T A : Type 0} (get : S → T) (kept left : S → T → S) (tell : E → F) (m : Metered E T A) (s : S) where
  pub through_on : {a : A} {t : T} → going a t ≡ m (get s) → going a (kept s t) ≡ through get kept left tell m s
  unfolding through mapped
  through_on h = rw (← h)

  pub through_stop : {e : E} {t : T} → stopped e t ≡ m (get s) → stopped (tell e) (left s t) ≡ through get kept left tell m s
  unfolding through mapped
  through_stop h = rw (← h)

  pub through_is : {x : Run E T A} → x ≡ m (get s) → mapped (kept s) (left s) tell x ≡ through get kept left tell m s
  unfolding through
  through_is h = ap (mapped (kept s) (left s) tell) h

  -- where it completes, m did
  pub record Came (a : A) (u : S) : Type 0 where
    pub part : T
    pub from : going a part ≡ m (get s)
    pub is : u ≡ kept s part

  pub came : {a : A} {u : S} → going a u ≡ through get kept left tell m s → Came a u
  unfolding through mapped
  came {a} {u} = go (m (get s)) refl
    where
      go : (x : Run E T A) → m (get s) ≡ x → going a u ≡ mapped (kept s) (left s) tell x → Came a u
      go (going b t) e h = record { part = t; from = cc; is = cc }
      go (stopped y t) e h = let z : ◌≡◌ {A = ℕ} 0 1 = cc in absurd (omega arith)

module _ {E S A : Type 0} where
  pub pure_is : (a : A) (s : S) → ◌≡◌ {A = Run E S A} (going a s) (pure a s)
  unfolding pure
  pure_is a s = refl

  pub yes_on : {t : Bool} (c d : Metered E S A) (s : S) {y : Run E S A} → t ≡ true → y ≡ c s → y ≡ cond t c d s
  yes_on c d s e k = rw e k

  pub no_on : {t : Bool} (c d : Metered E S A) (s : S) {y : Run E S A} → t ≡ false → y ≡ d s → y ≡ cond t c d s
  no_on c d s e k = rw e k

-- ---- Ensures: P holds of the value, from whatever state, where the computation completes

module _ {E S A : Type 0} where
  abbrev pub Holds : (A → Type 0) → Run E S A → Type 0
  Holds P (going a s) = P a
  Holds P (stopped e s) = Unit {0}

  pub record Ensures (P : A → Type 0) (m : Metered E S A) : Type 0 where
    pub at : (s : S) → Holds P (m s)

  pub by_pure : {P : A → Type 0} (a : A) → P a → Ensures P (pure a)
  unfolding pure
  by_pure a h = record { at = λ s. h }

  any_holds : (x : Run E S A) → Holds (λ _. Unit {0}) x
  any_holds (going a s) = tt
  any_holds (stopped e s) = tt

  pub any_value : (m : Metered E S A) → Ensures (λ _. Unit {0}) m
  any_value m = record { at = λ s. any_holds (m s) }

  weaker : {P Q : A → Type 0} → ((a : A) → P a → Q a) → (x : Run E S A) → Holds P x → Holds Q x
  weaker f (going a s) h = f a h
  weaker f (stopped e s) h = tt

  pub weaken : {P Q : A → Type 0} {m : Metered E S A} → ((a : A) → P a → Q a) → Ensures P m → Ensures Q m
  weaken {m} f h = record { at = λ s. weaker f (m s) (h.at s) }

  all_holds : {X : Type 0} (P : X → A → Type 0) (x : Run E S A) → ((i : X) → Holds (P i) x) → Holds (λ a. (i : X) → P i a) x
  all_holds P (going a s) h = h
  all_holds P (stopped e s) h = tt

  -- what holds for each i holds of one value for all of them
  pub for_all : {X : Type 0} {P : X → A → Type 0} {m : Metered E S A} → ((i : X) → Ensures (P i) m) → Ensures (λ a. (i : X) → P i a) m
  for_all {P} {m} h = record { at = λ s. all_holds P (m s) (λ i. (h i).at s) }

  both_hold : (P Q : A → Type 0) (x : Run E S A) → Holds P x → Holds Q x → Holds (λ a. P a × Q a) x
  both_hold P Q (going a s) h k = (h, k)
  both_hold P Q (stopped e s) h k = tt

  pub both : {P Q : A → Type 0} {m : Metered E S A} → Ensures P m → Ensures Q m → Ensures (λ a. P a × Q a) m
  both {P} {Q} {m} h k = record { at = λ s. both_hold P Q (m s) (h.at s) (k.at s) }

  pub by_test : {P : A → Type 0} (t : Bool) {m n : Metered E S A} → (t ≡ true → Ensures P m) → (t ≡ false → Ensures P n) → Ensures P (cond t m n)
  by_test true f g = f refl
  by_test false f g = g refl

module _ {E S A B : Type 0} where
  after_holds : {P : A → Type 0} {Q : B → Type 0} {f : A → Metered E S B} (x : Run E S A) → Holds P x → ((a : A) → P a → Ensures Q (f a)) → Holds Q (after x f)
  unfolding after
  after_holds (going a s) h k = (k a h).at s
  after_holds (stopped e s) h k = tt

  pub bind : {P : A → Type 0} {Q : B → Type 0} {m : Metered E S A} {f : A → Metered E S B} → Ensures P m → ((a : A) → P a → Ensures Q (f a)) → Ensures Q (m >>= f)
  unfolding ◌>>=◌
  bind {m} h k = record { at = λ s. after_holds (m s) (h.at s) k }

  pub then : {Q : B → Type 0} (m : Metered E S A) {k : Metered E S B} → Ensures Q k → Ensures Q (m >> k)
  unfolding ◌>>◌
  then m h = bind (any_value m) (λ _ _. h)

module _ {E S A B : Type 0} where
  -- what every step keeps, the fold keeps; Q is what is known of each element
  pub fold_keeps : {I : B → Type 0} (Q : A → Type 0) {f : B → A → Metered E S B} → ((b : B) (a : A) → Q a → I b → Ensures I (f b a)) →
      (b : B) (l : List A) → All Q l → I b → Ensures I (fold_m f b l)
  unfolding fold_m
  fold_keeps Q h b [] q i = by_pure b i
  fold_keeps Q h b (a ∷ l) q i = bind (h b a q.0 i) (λ b' i'. fold_keeps Q h b' l q.1 i')

  -- what one element's step brings about, and all steps keep, holds at the end
  pub fold_hits : {J I : B → Type 0} {f : B → A → Metered E S B} {x : A} → ((b : B) (a : A) → J b → Ensures J (f b a)) → ((b : B) (a : A) → I b → Ensures I (f b a)) →
      ((b : B) → J b → Ensures I (f b x)) → (b : B) (l : List A) → Memᴰ x l → J b → Ensures I (fold_m f b l)
  unfolding fold_m
  fold_hits {I = I} {f = f} j k h b [] x3 q = elim x3 [ ]
  fold_hits {I} {f} j k h b (a ∷ l) (Memᴰ.head e) q =
      bind (subst (λ (y : A). Ensures I (f b y)) e (h b q)) (λ b' i. fold_keeps (λ _. Unit {0}) (λ b₁ a₁ _. k b₁ a₁) b' l (known l) i)
    where
      known : (l : List A) → All (λ _. Unit {0}) l
      known [] = tt
      known (a ∷ l) = (tt, known l)
  fold_hits j k h b (a ∷ l) (Memᴰ.tail m) q = bind (j b a q) (λ b' q'. fold_hits j k h b' l m q')

module _ {E F S T A : Type 0} (P : A → Type 0) where
  mapped_holds : (kept left : T → S) (tell : E → F) (x : Run E T A) → Holds P x → Holds P (mapped kept left tell x)
  unfolding mapped
  mapped_holds kept left tell (going a t) h = h
  mapped_holds kept left tell (stopped e t) h = tt

  -- for `on_stop`, `whole`, `zoom` and `stopping` alike
  pub by_through : (get : S → T) (kept left : S → T → S) (tell : E → F) {m : Metered E T A} → Ensures P m → Ensures P (through get kept left tell m)
  unfolding through
  by_through get kept left tell {m} h = record { at = λ s. mapped_holds (kept s) (left s) tell (m (get s)) (h.at (get s)) }

-- ---- Steady: from any two states the values are the same, where the computation completes from both

module _ {E S A : Type 0} where
  abbrev pub Agree : Run E S A → Run E S A → Type 0
  Agree (going a s) (going b t) = a ≡ b
  Agree (going a s) (stopped e t) = Unit {0}
  Agree (stopped e s) y = Unit {0}

  pub record Steady (m : Metered E S A) : Type 0 where
    pub same : (s t : S) → Agree (m s) (m t)

  pub steady_pure : (a : A) → Steady (pure a)
  unfolding pure
  steady_pure a = record { same = λ s t. refl }

  pub steady_test : (b : Bool) {m n : Metered E S A} → (b ≡ true → Steady m) → (b ≡ false → Steady n) → Steady (cond b m n)
  steady_test true f g = f refl
  steady_test false f g = g refl

module _ {E S : Type 0} where
  no_value : (x y : Run E S (Unit {0})) → Agree x y
  no_value (going a s) (going b t) = refl
  no_value (going a s) (stopped e t) = tt
  no_value (stopped e s) y = tt

  -- a computation without a value, as every charge is
  pub steady_unit : (m : Metered E S (Unit {0})) → Steady m
  steady_unit m = record { same = λ s t. no_value (m s) (m t) }

module _ {E S A B : Type 0} where
  agree_after : {f : A → Metered E S B} → ((a : A) → Steady (f a)) → (x y : Run E S A) → Agree x y → Agree (after x f) (after y f)
  unfolding after
  agree_after {f} k (going a s) (going b t) h = subst (λ (b : A). Agree (f a s) (f b t)) h ((k a).same s t)
  agree_after {f} k (going a s) (stopped e t) h = stop (f a s)
    where
      stop : (x : Run E S B) → Agree x (stopped e t)
      stop (going b s) = tt
      stop (stopped e s) = tt
  agree_after k (stopped e s) y h = tt

  pub steady_bind : {m : Metered E S A} {f : A → Metered E S B} → Steady m → ((a : A) → Steady (f a)) → Steady (m >>= f)
  unfolding ◌>>=◌
  steady_bind {m} h k = record { same = λ s t. agree_after k (m s) (m t) (h.same s t) }

  pub steady_then : {m : Metered E S A} {k : Metered E S B} → Steady m → Steady k → Steady (m >> k)
  unfolding ◌>>◌
  steady_then h k = steady_bind h (λ _. k)

module _ {E S A B : Type 0} where
  pub steady_fold : {f : B → A → Metered E S B} → ((b : B) (a : A) → Steady (f b a)) → (b : B) (l : List A) → Steady (fold_m f b l)
  unfolding fold_m
  steady_fold h b [] = steady_pure b
  steady_fold h b (a ∷ l) = steady_bind (h b a) (λ b'. steady_fold h b' l)

module _ {E F S T A : Type 0} where
  agree_mapped : (k k' l l' : T → S) (tell : E → F) (x y : Run E T A) → Agree x y → Agree (mapped k l tell x) (mapped k' l' tell y)
  unfolding mapped
  agree_mapped k k' l l' tell (going a s) (going b t) h = h
  agree_mapped k k' l l' tell (going a s) (stopped e t) h = tt
  agree_mapped k k' l l' tell (stopped e s) y h = tt

  pub steady_through : (get : S → T) (kept left : S → T → S) (tell : E → F) {m : Metered E T A} → Steady m → Steady (through get kept left tell m)
  unfolding through
  steady_through get kept left tell {m} h =
      record { same = λ s t. agree_mapped (kept s) (kept t) (left s) (left t) tell (m (get s)) (m (get t)) (h.same (get s) (get t)) }
