-- Metered computations: a state is handed through, and whatever stops one stops all that follows, with the state as it then is.
-- S is what survives a stop (counts; in calls the header and the tables too), E what a computation is stopped with, A its value.
use Rattle.std.specs.Prelude.{List, [], ◌∷◌, Result, Ok, Err}

pub data Run (E S A : Type 0) : Type 0 where
  going : A → S → Run E S A
  stopped : E → S → Run E S A

-- the code's answer and the state that it leaves, as what a computation gives
abbrev pub answered : {E S A : Type 0} → Result A E → S → Run E S A
answered (Ok a) s = going a s
answered (Err e) s = stopped e s

-- the same where the code's value stands for `of` it
abbrev pub seen : {E S A B : Type 0} → (A → B) → Result A E → S → Run E S B
seen of (Ok a) s = going (of a) s
seen of (Err e) s = stopped e s

abbrev pub Metered : Type 0 → Type 0 → Type 0 → Type 0
Metered E S A = S → Run E S A

module _ {E S A : Type 0} where
  unfoldable pub pure : A → Metered E S A
  pure a = λ s. going a s

module _ {E S A B : Type 0} where
  unfoldable pub after : Run E S A → (A → Metered E S B) → Run E S B
  after (going a s) f = f a s
  after (stopped e s) f = stopped e s

  infixr 20 ◌>>=◌
  unfoldable pub ◌>>=◌ : Metered E S A → (A → Metered E S B) → Metered E S B
  m >>= f = λ s. after (m s) f

  infixr 20 ◌>>◌
  unfoldable pub ◌>>◌ : Metered E S A → Metered E S B → Metered E S B
  m >> k = m >>= (λ _. k)

module _ {E S A B : Type 0} where
  -- a step for each element in turn, from what the step before gave
  unfoldable pub fold_m : (B → A → Metered E S B) → B → List A → Metered E S B
  fold_m f b [] = pure b
  fold_m f b (a ∷ l) = f b a >>= (λ b'. fold_m f b' l)

module _ {E F S T A : Type 0} where
  unfoldable pub mapped : (T → S) → (T → S) → (E → F) → Run E T A → Run F S A
  mapped kept left tell (going a t) = going a (kept t)
  mapped kept left tell (stopped e t) = stopped (tell e) (left t)

  -- m on `get s`; from the state s before and the state that m leaves, `kept` where m completes and `left` where it is stopped
  -- make the state afterwards, and `tell` words the stop anew
  unfoldable pub through : (S → T) → (S → T → S) → (S → T → S) → (E → F) → Metered E T A → Metered F S A
  through get kept left tell m = λ s. mapped (kept s) (left s) tell (m (get s))

-- f is done to the state where m is stopped: what Rust values do that are dropped on the way out
abbrev pub on_stop : {E S A : Type 0} → (S → S) → Metered E S A → Metered E S A
on_stop f m = through (λ s. s) (λ _ t. t) (λ _ t. f t) (λ e. e) m

-- f is done to the state whichever way m ends
abbrev pub finally : {E S A : Type 0} → (S → S) → Metered E S A → Metered E S A
finally f m = through (λ s. s) (λ _ t. f t) (λ _ t. f t) (λ e. e) m

-- all of m or nothing: the state before m where m is stopped
abbrev pub whole : {E S A : Type 0} → Metered E S A → Metered E S A
whole m = through (λ s. s) (λ _ t. t) (λ s _. s) (λ e. e) m

-- m on a part of the state
abbrev pub zoom : {E S T A : Type 0} → (S → T) → (T → S → S) → Metered E T A → Metered E S A
zoom get put m = through get (λ s t. put t s) (λ s t. put t s) (λ e. e) m

-- what stops m, told in other words
abbrev pub stopping : {E F S A : Type 0} → (E → F) → Metered E S A → Metered F S A
stopping tell m = through (λ s. s) (λ _ t. t) (λ _ t. t) tell m
