-- The order of ℤ: its tests, that it is the library's, and the laws of least and greatest.
use Prim.Native.Nat.{ℕ}
use native.Mathlib.Omega.{arith}
use mathlib.Core.Path.{◌≡◌, refl, ap}
use mathlib.Core.Bool.{Bool, true, false, cond}
use borrow.Author.Tests.{ltb-true, ltb-false, leb-true, leb-false, eqb-true, lt-ltb, le-ltb, le-leb, lt-leb, eq-eqb, ne_eqb}
use lib.Dec.{T}
use lib.IntN.{ℤ, pos, negsuc}
use lib.Signed.{lt_z, le_z}
use Rattle.integers.specs.Order.{Le, Lt, eq_z, min_z, max_z, least32, greatest32, Number, number?}
use Rattle.integers.proofs.Tests.{by_cond, and_left, and_right}

-- ---- from a test to the order, and back

pub lt_yes : (a b : ℤ) → lt_z a b ≡ true → Lt a b
lt_yes (pos a) (pos b) e = omega (arith, ltb-true a b e)
lt_yes (pos a) (negsuc b) e = let z : ◌≡◌ {A = ℕ} 0 1 = cc in omega arith
lt_yes (negsuc a) (pos b) e = omega arith
lt_yes (negsuc a) (negsuc b) e = omega (arith, ltb-true b a e)

pub lt_no : (a b : ℤ) → lt_z a b ≡ false → Le b a
lt_no (pos a) (pos b) e = omega (arith, ltb-false a b e)
lt_no (pos a) (negsuc b) e = omega arith
lt_no (negsuc a) (pos b) e = let z : ◌≡◌ {A = ℕ} 0 1 = cc in omega arith
lt_no (negsuc a) (negsuc b) e = omega (arith, ltb-false b a e)

pub le_yes : (a b : ℤ) → le_z a b ≡ true → Le a b
le_yes (pos a) (pos b) e = omega (arith, leb-true a b e)
le_yes (pos a) (negsuc b) e = let z : ◌≡◌ {A = ℕ} 0 1 = cc in omega arith
le_yes (negsuc a) (pos b) e = omega arith
le_yes (negsuc a) (negsuc b) e = omega (arith, leb-true b a e)

pub le_no : (a b : ℤ) → le_z a b ≡ false → Lt b a
le_no (pos a) (pos b) e = omega (arith, leb-false a b e)
le_no (pos a) (negsuc b) e = omega arith
le_no (negsuc a) (pos b) e = let z : ◌≡◌ {A = ℕ} 0 1 = cc in omega arith
le_no (negsuc a) (negsuc b) e = omega (arith, leb-false b a e)

pub yes_lt : (a b : ℤ) → Lt a b → lt_z a b ≡ true
yes_lt (pos a) (pos b) h = lt-ltb a b (omega arith)
yes_lt (pos a) (negsuc b) h = absurd (omega arith)
yes_lt (negsuc a) (pos b) h = refl
yes_lt (negsuc a) (negsuc b) h = lt-ltb b a (omega arith)

pub no_lt : (a b : ℤ) → Le b a → lt_z a b ≡ false
no_lt (pos a) (pos b) h = le-ltb a b (omega arith)
no_lt (pos a) (negsuc b) h = refl
no_lt (negsuc a) (pos b) h = absurd (omega arith)
no_lt (negsuc a) (negsuc b) h = le-ltb b a (omega arith)

pub yes_le : (a b : ℤ) → Le a b → le_z a b ≡ true
yes_le (pos a) (pos b) h = le-leb a b (omega arith)
yes_le (pos a) (negsuc b) h = absurd (omega arith)
yes_le (negsuc a) (pos b) h = refl
yes_le (negsuc a) (negsuc b) h = le-leb b a (omega arith)

pub no_le : (a b : ℤ) → Lt b a → le_z a b ≡ false
no_le (pos a) (pos b) h = lt-leb a b (omega arith)
no_le (pos a) (negsuc b) h = refl
no_le (negsuc a) (pos b) h = absurd (omega arith)
no_le (negsuc a) (negsuc b) h = lt-leb b a (omega arith)

pub eq_yes : (a b : ℤ) → eq_z a b ≡ true → a ≡ b
eq_yes (pos a) (pos b) e = ap pos (eqb-true a b e)
eq_yes (pos a) (negsuc b) e = let z : ◌≡◌ {A = ℕ} 0 1 = cc in absurd (omega arith)
eq_yes (negsuc a) (pos b) e = let z : ◌≡◌ {A = ℕ} 0 1 = cc in absurd (omega arith)
eq_yes (negsuc a) (negsuc b) e = ap negsuc (eqb-true a b e)

pub yes_eq : (a b : ℤ) → a ≡ b → eq_z a b ≡ true
yes_eq a b e = rw e (self b)
  where
    self : (b : ℤ) → eq_z b b ≡ true
    self (pos b) = eq-eqb b b refl
    self (negsuc b) = eq-eqb b b refl

pub no_eq : (a b : ℤ) → (a ≡ b → ⊥) → eq_z a b ≡ false
no_eq (pos a) (pos b) d = ne_eqb a b (λ e. d (ap pos e))
no_eq (pos a) (negsuc b) d = refl
no_eq (negsuc a) (pos b) d = refl
no_eq (negsuc a) (negsuc b) d = ne_eqb a b (λ e. d (ap negsuc e))

-- by a test: `f` where it holds, `g` where not
pub by_lt {ℓ} : (P : Bool → Type ℓ) (a b : ℤ) → (Lt a b → P true) → (Le b a → P false) → P (lt_z a b)
by_lt P a b f g = go (lt_z a b) refl
  where
    go : (t : Bool) → lt_z a b ≡ t → P t
    go true e = f (lt_yes a b e)
    go false e = g (lt_no a b e)

pub by_le {ℓ} : (P : Bool → Type ℓ) (a b : ℤ) → (Le a b → P true) → (Lt b a → P false) → P (le_z a b)
by_le P a b f g = go (le_z a b) refl
  where
    go : (t : Bool) → le_z a b ≡ t → P t
    go true e = f (le_yes a b e)
    go false e = g (le_no a b e)

-- ---- it is the library's order

true_of : (t : Bool) → T t → t ≡ true
true_of true h = refl
true_of false h = absurd h

pub le_antisym : (a b : ℤ) → Le a b → Le b a → a ≡ b
le_antisym (pos a) (pos b) h k = ap pos (omega arith)
le_antisym (pos a) (negsuc b) h k = absurd (omega arith)
le_antisym (negsuc a) (pos b) h k = absurd (omega arith)
le_antisym (negsuc a) (negsuc b) h k = ap negsuc (omega arith)

-- ---- least and greatest of two

pub min_left : (a b : ℤ) → Le (min_z a b) a
unfolding min_z
min_left a b = by_lt (λ t. Le (cond t a b) a) a b (λ h. omega arith) (λ h. omega arith)

pub min_right : (a b : ℤ) → Le (min_z a b) b
unfolding min_z
min_right a b = by_lt (λ t. Le (cond t a b) b) a b (λ h. omega arith) (λ h. omega arith)

pub min_least : (a b c : ℤ) → Le c a → Le c b → Le c (min_z a b)
unfolding min_z
min_least a b c p q = by_lt (λ t. Le c (cond t a b)) a b (λ h. omega arith) (λ h. omega arith)

pub max_left : (a b : ℤ) → Le a (max_z a b)
unfolding max_z
max_left a b = by_lt (λ t. Le a (cond t b a)) a b (λ h. omega arith) (λ h. omega arith)

pub max_right : (a b : ℤ) → Le b (max_z a b)
unfolding max_z
max_right a b = by_lt (λ t. Le b (cond t b a)) a b (λ h. omega arith) (λ h. omega arith)

pub max_greatest : (a b c : ℤ) → Le a c → Le b c → Le (max_z a b) c
unfolding max_z
max_greatest a b c p q = by_lt (λ t. Le (cond t b a) c) a b (λ h. omega arith) (λ h. omega arith)

-- which of the two it is, by their order
pub min_is_left : (a b : ℤ) → Le a b → min_z a b ≡ a
min_is_left a b h = le_antisym (min_z a b) a (min_left a b) (min_least a b a (omega arith) h)

pub min_is_right : (a b : ℤ) → Le b a → min_z a b ≡ b
min_is_right a b h = le_antisym (min_z a b) b (min_right a b) (min_least a b b h (omega arith))

pub max_is_left : (a b : ℤ) → Le b a → max_z a b ≡ a
max_is_left a b h = le_antisym (max_z a b) a (max_greatest a b a (omega arith) h) (max_left a b)

pub max_is_right : (a b : ℤ) → Le a b → max_z a b ≡ b
max_is_right a b h = le_antisym (max_z a b) b (max_greatest a b b h (omega arith)) (max_right a b)

pub max_comm : (a b : ℤ) → max_z a b ≡ max_z b a
max_comm a b =
    le_antisym (max_z a b) (max_z b a) (max_greatest a b (max_z b a) (max_right b a) (max_left b a)) (max_greatest b a (max_z a b) (max_right a b) (max_left a b))

-- either of the two is what it is, so a fact of both is one of it
pub min_either {ℓ} : (P : ℤ → Type ℓ) (a b : ℤ) → P a → P b → P (min_z a b)
unfolding min_z
min_either P a b p q = by_cond P (lt_z a b) (λ _. p) (λ _. q)

pub max_either {ℓ} : (P : ℤ → Type ℓ) (a b : ℤ) → P a → P b → P (max_z a b)
unfolding max_z
max_either P a b p q = by_cond P (lt_z a b) (λ _. q) (λ _. p)

-- ---- the numbers of 32 bits

pub number_yes : (z : ℤ) → number? z ≡ true → Number z
unfolding number?
number_yes z e =
    (le_yes least32 z (and_left (le_z least32 z) (le_z z greatest32) e), le_yes z greatest32 (and_right (le_z least32 z) (le_z z greatest32) e))

pub yes_number : (z : ℤ) → Number z → number? z ≡ true
unfolding number?
yes_number z h = rw (yes_le least32 z h.0, yes_le z greatest32 h.1)
