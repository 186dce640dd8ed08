-- What is left of a computation: the whole, from where it began, is the rest from here. It is the invariant of a loop that charges.
use Prim.Native.Nat.{ℕ, suc, ◌+◌, ◌-◌, ◌<◌, ◌≤◌}
use native.Mathlib.Omega.{arith}
use mathlib.Core.Path.{◌≡◌, refl, sym, ap, ◌∙◌}
use mathlib.Core.Bool.{Bool, true, false, cond}
use Rattle.integers.specs.Lists.{from}
use Rattle.limits.specs.Metered.{Run, going, stopped, Metered, pure, ◌>>=◌, ◌>>◌, fold_m}
use Rattle.limits.proofs.Monad.{bind_stop, bind_on, then_stop, then_on, pure_is}

module _ {E S A : Type 0} where
  pub record Onward (whole : Metered E S A) (s₀ : S) (rest : Metered E S A) (s : S) : Type 0 where
    pub is : whole s₀ ≡ rest s

  pub onward_begins : {whole rest : Metered E S A} (s : S) → whole ≡ rest → Onward whole s rest s
  onward_begins s e = record { is = ap (λ (m : Metered E S A). m s) e }

  module _ {whole rest : Metered E S A} {s₀ s : S} (h : Onward whole s₀ rest s) where
    pub onward_is : {y : Run E S A} → y ≡ rest s → y ≡ whole s₀
    onward_is k = k ∙ sym h.is

    -- the rest in other words
    pub onward_as : {next : Metered E S A} → rest ≡ next → Onward whole s₀ next s
    onward_as e = record { is = h.is ∙ ap (λ (m : Metered E S A). m s) e }

    pub onward_ends : {a : A} → rest ≡ pure a → going a s ≡ whole s₀
    onward_ends {a} e = onward_is (pure_is a s ∙ sym (ap (λ (m : Metered E S A). m s) e))

  module _ (m n : Metered E S A) {t : Bool} {whole : Metered E S A} {s₀ s : S} (h : Onward whole s₀ (cond t m n) s) where
    pub onward_yes : t ≡ true → Onward whole s₀ m s
    onward_yes e = onward_as h (ap (λ (b : Bool). cond b m n) e)

    pub onward_no : t ≡ false → Onward whole s₀ n s
    onward_no e = onward_as h (ap (λ (b : Bool). cond b m n) e)

-- ---- its first step

module _ {E S A B : Type 0} {whole rest : Metered E S A} {s₀ s : S} (h : Onward whole s₀ rest s) (m : Metered E S B) where
  module _ (f : B → Metered E S A) (e : rest ≡ (m >>= f)) where
    pub bind_stops : {x : E} {t : S} → stopped x t ≡ m s → stopped x t ≡ whole s₀
    bind_stops k = onward_is (onward_as h e) (bind_stop m s f k)

    pub bind_goes : {b : B} {t : S} → going b t ≡ m s → Onward whole s₀ (f b) t
    bind_goes k = record { is = (onward_as h e).is ∙ sym (bind_on m s f k refl) }

  module _ (n : Metered E S A) (e : rest ≡ (m >> n)) where
    pub then_stops : {x : E} {t : S} → stopped x t ≡ m s → stopped x t ≡ whole s₀
    then_stops k = onward_is (onward_as h e) (then_stop m s n k)

    pub then_goes : {b : B} {t : S} → going b t ≡ m s → Onward whole s₀ n t
    then_goes k = record { is = (onward_as h e).is ∙ sym (then_on m s n k refl) }

-- ---- a step for each item of a run

module _ {E S A B : Type 0} (f : B → A → Metered E S B) (g : ℕ → A) (count : ℕ) (first : B) (at : S) where
  abbrev pub Folding : ℕ → B → S → Type 0
  Folding j b s = Onward (fold_m f first (from g 0 count)) at (fold_m f b (from g j (count - j))) s

  pub folding : Folding 0 first at
  folding = let e : count ≡ count - 0 = omega arith in onward_begins at (ap (λ (n : ℕ). fold_m f first (from g 0 n)) e)

  module _ {j : ℕ} (b : B) {s : S} (h : Folding j b s) where
    pub folded : count ≤ j → going b s ≡ fold_m f first (from g 0 count) at
    unfolding fold_m from
    folded l = let e : count - j ≡ 0 = omega arith in onward_ends h (ap (λ (n : ℕ). fold_m f b (from g j n)) e)

    module _ (l : j < count) {a : A} (q : a ≡ g j) where
      next : fold_m f b (from g j (count - j)) ≡ (f b (g j) >>= (λ c. fold_m f c (from g (j + 1) (count - (j + 1)))))
      unfolding fold_m from
      next = let e : count - j ≡ suc (count - (j + 1)) = omega arith in ap (λ (n : ℕ). fold_m f b (from g j n)) e

      pub fold_stops : {e : E} {t : S} → stopped e t ≡ f b a s → stopped e t ≡ fold_m f first (from g 0 count) at
      fold_stops k = bind_stops h (f b a) (λ c. fold_m f c (from g (j + 1) (count - (j + 1)))) (rw q next) k

      pub fold_goes : {c : B} {t : S} → going c t ≡ f b a s → Folding (j + 1) c t
      fold_goes k = bind_goes h (f b a) (λ c. fold_m f c (from g (j + 1) (count - (j + 1)))) (rw q next) k
