-- Sums of a function's values.
use Prim.Native.Nat.{ℕ, zero, suc, ◌+◌, ◌≤◌, ◌<◌}
use native.Mathlib.Omega.{arith}
use native.Mathlib.Decide.{dec_lt}
use mathlib.Core.Path.{◌≡◌, refl, ap}

-- f 0 + .. + f (n - 1)
unfoldable pub total : (ℕ → ℕ) → ℕ → ℕ
total f zero = 0
total f (suc n) = total f n + f n

pub total_same : (f g : ℕ → ℕ) (n : ℕ) → ((i : ℕ) → i < n → g i ≡ f i) → total g n ≡ total f n
unfolding total
total_same f g zero h = refl
total_same f g (suc n) h = let e = total_same f g n (λ i l. h i (omega arith)) in let d = h n (omega arith) in omega arith

-- one of the numbers is another
pub total_change : (f g : ℕ → ℕ) (a n : ℕ) → a < n → ((i : ℕ) → (i ≡ a → ⊥) → g i ≡ f i) → total g n + f a ≡ total f n + g a
unfolding total
total_change f g a zero l h = absurd (omega arith)
total_change f g a (suc n) l h = elim (dec_lt a n) [
  | yes m ↦
      let s = total_change f g a n m h in
      let d = h n (λ d. omega arith) in
      omega arith
  | no m ↦
      let e : a ≡ n = omega arith in
      let s = total_same f g n (λ i k. h i (λ d. omega arith)) in
      let p : f a ≡ f n = ap f e in
      let q : g a ≡ g n = ap g e in
      omega arith
]

pub total_part : (f : ℕ → ℕ) (a n : ℕ) → a < n → f a ≤ total f n
unfolding total
total_part f a zero l = absurd (omega arith)
total_part f a (suc n) l = elim (dec_lt a n) [
  | yes m ↦ omega (arith, total_part f a n m)
  | no m ↦ let e : a ≡ n = omega arith in let p : f a ≡ f n = ap f e in omega arith
]

-- n numbers more, of at most 1 each
pub total_most : (f : ℕ → ℕ) (k n : ℕ) → ((i : ℕ) → f i ≤ 1) → total f (k + n) ≤ total f k + n
unfolding total
total_most f k zero h = let e : k + 0 ≡ k = omega arith in let d = ap (total f) e in omega arith
total_most f k (suc n) h = let e : k + suc n ≡ suc (k + n) = omega arith in let d = ap (total f) e in omega (arith, total_most f k n h, h (k + n))
