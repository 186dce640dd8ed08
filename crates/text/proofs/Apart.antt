-- The two words of an interval tell it: equal words are those of equal intervals, whatever integers the ends are. So an Unbounded interval is told
-- from the one with both ends of 32 bits, and an empty one from any whose ends descend.
use Prim.Native.Nat.{ℕ, zero, suc, ◌+◌, ◌-◌, ◌*◌, ◌/◌, ◌%◌, ◌≤◌, ◌<◌}
use native.Mathlib.Omega.{arith}
use mathlib.Core.Path.{◌≡◌, refl, sym, ap, ◌∙◌}
use mathlib.Core.Bool.{Bool, true, false}
use mathlib.Core.List.{List, [], ◌∷◌, ◌++◌}
use borrow.Author.Tests.{ltb-true, ltb-false}
use lib.Dec.{ltb}
use lib.IntN.{ℤ, pos, negsuc}
use Rattle.integers.specs.Lists.{All}
use Rattle.interval.specs.declared.Interval.{Interval}
use Rattle.interval.specs.declared.Interval.TheVariants.{Bottom, Bounded, Unbounded}
use Rattle.text.specs.Text.{decimal, integer, end_words}
use Rattle.text.proofs.Decimals.{decimal_one, decimal_more}

-- ---- digits read from the left

abbrev worth : ℕ → List ℕ → ℕ
worth n [] = n
worth n (b ∷ l) = worth (10 * n + (b - 48)) l

worth_last : (l : List ℕ) (n b : ℕ) → worth n (l ++ (b ∷ [])) ≡ 10 * worth n l + (b - 48)
worth_last [] n b = refl
worth_last (a ∷ l) n b = worth_last l (10 * n + (a - 48)) b

decimal_worth : (m n : ℕ) → n < m → worth 0 (decimal n) ≡ n
decimal_worth zero n h = absurd (omega arith)
decimal_worth (suc m) n h = go (ltb n 10) refl (λ p. decimal_worth m (n / 10) p)
  where
    go : (t : Bool) → ltb n 10 ≡ t → (n / 10 < m → worth 0 (decimal (n / 10)) ≡ n / 10) → worth 0 (decimal n) ≡ n
    go true e r = rw (decimal_one n (ltb-true n 10 e)) (omega arith)
    go false e r =
        rw (decimal_more n (ltb-false n 10 e))
        (omega (arith, worth_last (decimal (n / 10)) 0 (48 + n % 10), r (omega (arith, ltb-false n 10 e))))

decimal_apart : (n m : ℕ) → decimal n ≡ decimal m → n ≡ m
decimal_apart n m e = sym (decimal_worth (suc n) n (omega arith)) ∙ (ap (worth 0) e ∙ decimal_worth (suc m) m (omega arith))

-- ---- which bytes a number's word has

abbrev Digit : ℕ → Type 0
Digit b = (48 ≤ b) × (b ≤ 57)

digits_last : (l : List ℕ) (b : ℕ) → All Digit l → Digit b → All Digit (l ++ (b ∷ []))
digits_last [] b h d = (d, tt)
digits_last (a ∷ l) b h d = (h.0, digits_last l b h.1 d)

decimal_digits : (m n : ℕ) → n < m → All Digit (decimal n)
decimal_digits zero n h = absurd (omega arith)
decimal_digits (suc m) n h = go (ltb n 10) refl (λ p. decimal_digits m (n / 10) p)
  where
    go : (t : Bool) → ltb n 10 ≡ t → (n / 10 < m → All Digit (decimal (n / 10))) → All Digit (decimal n)
    go true e r = rw (decimal_one n (ltb-true n 10 e)) ((omega arith, omega (arith, ltb-true n 10 e)), tt)
    go false e r =
        rw (decimal_more n (ltb-false n 10 e))
        (digits_last (decimal (n / 10)) (48 + n % 10) (r (omega (arith, ltb-false n 10 e))) (omega arith, omega arith))

decimal_first : (n b : ℕ) (l : List ℕ) → decimal n ≡ b ∷ l → Digit b
decimal_first n b l e = (rw e at (decimal_digits (suc n) n (omega arith))).0

-- it begins with a minus or a digit, and so with no letter and no star
integer_first : (z : ℤ) (b : ℕ) (l : List ℕ) → integer z ≡ b ∷ l → (45 ≤ b) × (b ≤ 57)
unfolding integer
integer_first (pos n) b l e = let d = decimal_first n b l e in (omega (arith, d.0), d.1)
integer_first (negsuc n) b l e = let p : b ≡ 45 = cc in (omega (arith, p), omega (arith, p))

integer_apart : (y z : ℤ) → integer y ≡ integer z → y ≡ z
unfolding integer
integer_apart (pos n) (pos m) e = ap pos (decimal_apart n m e)
integer_apart (pos n) (negsuc m) e = absurd (omega (arith, (decimal_first n 45 (decimal (suc m)) e).0))
integer_apart (negsuc n) (pos m) e = absurd (omega (arith, (decimal_first m 45 (decimal (suc n)) (sym e)).0))
integer_apart (negsuc n) (negsuc m) e =
    let p : decimal (suc n) ≡ decimal (suc m) = cc in
    let q : n ≡ m = omega (arith, decimal_apart (suc n) (suc m) p) in
    ap negsuc q

-- ---- the two words

pub words_apart : (i j : Interval) → end_words i ≡ end_words j → i ≡ j
words_apart Bottom Bottom e = refl
words_apart Bottom (Bounded low high) e = let p : integer low ≡ 101 ∷ [] = cc in absurd (omega (arith, (integer_first low 101 [] p).1))
words_apart Bottom Unbounded e = cc
words_apart (Bounded low high) Bottom e = let p : integer low ≡ 101 ∷ [] = cc in absurd (omega (arith, (integer_first low 101 [] p).1))
words_apart (Bounded low high) (Bounded least most) e =
    let p : integer low ≡ integer least = cc in
    let q : integer high ≡ integer most = cc in
    rw (integer_apart low least p, integer_apart high most q) refl
words_apart (Bounded low high) Unbounded e = let p : integer low ≡ 42 ∷ [] = cc in absurd (omega (arith, (integer_first low 42 [] p).0))
words_apart Unbounded Bottom e = cc
words_apart Unbounded (Bounded low high) e = let p : integer low ≡ 42 ∷ [] = cc in absurd (omega (arith, (integer_first low 42 [] p).0))
words_apart Unbounded Unbounded e = refl
