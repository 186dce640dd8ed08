-- Decimals: a number's digits are its tenth's and one more, and how many there are.
use Prim.Native.Nat.{ℕ, zero, suc, ◌+◌, ◌/◌, ◌%◌, ◌≤◌, ◌<◌, ◌^◌}
use native.Mathlib.Omega.{arith}
use native.Mathlib.Nat.{pow-suc, div-lt_iff_lt-mul, lt_of_lt_of_le}
use mathlib.Core.Path.{◌≡◌, refl, sym, subst}
use mathlib.Core.Bool.{Bool, true, false, cond}
use mathlib.Core.List.{List, [], ◌∷◌, ◌++◌}
use borrow.Author.Tests.{ltb-true, ltb-false, leb-true, lt-ltb, le-ltb}
use lib.Dec.{ltb}
use lib.ListN.{length, length-append}
use Rattle.text.specs.Text.{digits_in, decimal}
use Rattle.text.specs.Answers.{Puts}
use Rattle.text.proofs.Putting.{puts_then, puts_same}

-- any bound above the number gives the same digits
digits_same : (m k n : ℕ) → n < m → n < k → digits_in m n ≡ digits_in k n
unfolding digits_in
digits_same zero k n h g = absurd (omega arith)
digits_same (suc m) zero n h g = absurd (omega arith)
digits_same (suc m) (suc k) n h g = go (ltb n 10) refl (λ p q. digits_same m k (n / 10) p q)
  where
    go : (t : Bool) → ltb n 10 ≡ t → (n / 10 < m → n / 10 < k → digits_in m (n / 10) ≡ digits_in k (n / 10)) →
        cond t ((48 + n) ∷ []) (digits_in m (n / 10) ++ ((48 + n % 10) ∷ [])) ≡ cond t ((48 + n) ∷ []) (digits_in k (n / 10) ++ ((48 + n % 10) ∷ []))
    go true e r = refl
    go false e r = rw (r (omega (arith, ltb-false n 10 e)) (omega (arith, ltb-false n 10 e)))

pub decimal_one : (n : ℕ) → n < 10 → decimal n ≡ (48 + n) ∷ []
unfolding decimal digits_in
decimal_one n h = rw (lt-ltb n 10 h)

pub decimal_more : (n : ℕ) → 10 ≤ n → decimal n ≡ decimal (n / 10) ++ ((48 + n % 10) ∷ [])
unfolding decimal digits_in
decimal_more n h =
    rw (le-ltb n 10 h, digits_same n (suc (n / 10)) (n / 10) (omega arith) (omega arith))

-- a number below 10 ^ k has at most k digits, or one
pub decimal_length : (k n : ℕ) → n < 10 ^ suc k → length (decimal n) ≤ suc k
decimal_length zero n h = rw (decimal_one n h) (omega arith)
decimal_length (suc k) n h =
    go (ltb n 10) refl (decimal_length k (n / 10) ((div-lt_iff_lt-mul {k = 10} {x = n} {y = 10 ^ suc k} (omega arith)).1 (subst (λ (m : ℕ). n < m) (pow-suc 10 (suc k)) h)))
  where
    go : (t : Bool) → ltb n 10 ≡ t → length (decimal (n / 10)) ≤ suc k → length (decimal n) ≤ suc (suc k)
    go true e r = rw (decimal_one n (ltb-true n 10 e)) (omega arith)
    go false e r = rw (decimal_more n (ltb-false n 10 e), length-append) (omega arith)

pub decimal_some : (n : ℕ) → 1 ≤ length (decimal n)
decimal_some n = go (ltb n 10) refl
  where
    go : (t : Bool) → ltb n 10 ≡ t → 1 ≤ length (decimal n)
    go true e = rw (decimal_one n (ltb-true n 10 e)) (omega arith)
    go false e = rw (decimal_more n (ltb-false n 10 e), length-append) (omega arith)

-- a tenth has one digit less
pub tenth_length : (n : ℕ) → 10 ≤ n → length (decimal (n / 10)) + 1 ≡ length (decimal n)
tenth_length n h = rw (decimal_more n h, length-append)

pub decimal_length_16 : (n : ℕ) → n < 2 ^ 16 → length (decimal n) ≤ 5
decimal_length_16 n h = decimal_length 4 n (omega arith)

-- the digits of a number of 32 bits with a sign
pub decimal_length_32 : (n : ℕ) → n ≤ 2 ^ 31 → length (decimal n) ≤ 10
decimal_length_32 n h = decimal_length 9 n (omega arith)

pub decimal_length_64 : (n : ℕ) → n < 2 ^ 64 → length (decimal n) ≤ 20
decimal_length_64 n h = decimal_length 19 n (omega arith)

pub decimal_length_128 : (n : ℕ) → n < 2 ^ 128 → length (decimal n) ≤ 39
decimal_length_128 n h = decimal_length 38 n (lt_of_lt_of_le h (leb-true (2 ^ 128) (10 ^ 39) refl))

-- ---- one digit, and one digit more

pub puts_one : (n : ℕ) {a b : ℕ} {l m : List ℕ} → n < 10 → Puts ((48 + n) ∷ []) a l b m → Puts (decimal n) a l b m
puts_one n h p = puts_same (sym (decimal_one n h)) p

pub puts_more : (n : ℕ) {a b c : ℕ} {l m k : List ℕ} → 10 ≤ n →
    Puts (decimal (n / 10)) a l b m → Puts ((48 + n % 10) ∷ []) b m c k → Puts (decimal n) a l c k
puts_more n h p q = puts_same (sym (decimal_more n h)) (puts_then p q)

-- ---- a number of 128 bits

-- the room for the last digit
pub wide_room : (n : ℕ) → 10 ≤ n → n < 2 ^ 128 → length (decimal (n / 10)) + 1 ≤ 39
wide_room n h g = omega (arith, tenth_length n h, decimal_length_128 n g)
