-- The turns of a search: where it stands, and what each way out of a turn makes of it.
use Prim.Native.Nat.{ℕ, zero, suc, ◌+◌, ◌*◌, ◌^◌, ◌≤◌, ◌<◌}
use native.Mathlib.Omega.{arith}
use native.Mathlib.Nat.{pow-succ'}
use native.Mathlib.Numerals.{add-one}
use mathlib.Core.Path.{◌≡◌, refl, sym, ◌∙◌}
use borrow.Author.Tests.{lt-ltb, le-ltb, eq-eqb, ne_eqb}
use Rattle.integers.proofs.ListLaws.{Compared, less, more, same, compared}
use Rattle.limits.specs.declared.Stop.{Stop}
use Rattle.limits.specs.Metered.{Metered, pure, ◌>>◌}
use Rattle.limits.specs.declared.Meter.{Meter}
use Rattle.limits.specs.Meter.{work, units}
use Rattle.limits.proofs.Units.{units_more, units_nothing}
use Rattle.std.specs.declared.cmp.Ordering.{Ordering}
use Rattle.std.specs.declared.cmp.Ordering.TheVariants.{Less, Equal, Greater}
use Rattle.search.specs.Seek.{found, absent, by, middle, seek, compareℕ}

-- a unit more at the end
units_last : {A : Type 0} (n : ℕ) (d : Metered Stop Meter A) (m : Meter) → (units (suc n) >> d) m ≡ (units n >> (work 1 >> d)) m
units_last zero d m = units_more 0 d d m (units_nothing d) ∙ sym (units_nothing (work 1 >> d) m)
units_last (suc n) d m =
    units_more (suc n) d (units n >> (work 1 >> d)) m (λ t. units_last n d t) ∙ sym (units_more n (work 1 >> d) (units n >> (work 1 >> d)) m (λ t. refl))

one_more : {A : Type 0} (n : ℕ) (d : Metered Stop Meter A) (m : Meter) → (units (n + 1) >> d) m ≡ (units n >> (work 1 >> d)) m
one_more n d m = rw (add-one n) (units_last n d m)

pub nothing_left : (probe : ℕ → Ordering) (low high turns : ℕ) → high ≤ low → seek probe turns low high ≡ pure (absent low)
unfolding seek
nothing_left probe low high zero h = refl
nothing_left probe low high (suc f) h = rw (le-ltb low high h)

pub turn : (probe : ℕ → Ordering) (low high f : ℕ) {o : Ordering} → low < high → probe (middle low high) ≡ o →
    seek probe (suc f) low high ≡ (work 1 >> by o (seek probe f (middle low high + 1) high) (pure (found (middle low high))) (seek probe f low (middle low high)))
unfolding seek
turn probe low high f h e = rw (lt-ltb low high h, e)

-- n items looked at are paid for, and the search goes on from here, with turns enough
pub data Looked (probe : ℕ → Ordering) (turns count low high n : ℕ) : Type 0 where
  here : (left : ℕ) → high < low + 2 ^ left → ((m : Meter) → (units n >> seek probe left low high) m ≡ seek probe turns 0 count m) → Looked probe turns count low high n

module _ {probe : ℕ → Ordering} {turns count : ℕ} where
  pub looked_none : count < 2 ^ turns → Looked probe turns count 0 count 0
  looked_none h = here turns (omega arith) (λ m. units_nothing (seek probe turns 0 count) m)

  module _ {low high n : ℕ} where
    pub looked_end : Looked probe turns count low high n → high ≤ low → (m : Meter) → (units n >> pure (absent low)) m ≡ seek probe turns 0 count m
    looked_end (here f k s) h m = rw (nothing_left probe low high f h) at (s m)

    module _ (h : low < high) where
      pub looked_found : Looked probe turns count low high n → probe (middle low high) ≡ Equal → (m : Meter) → (units (n + 1) >> pure (found (middle low high))) m ≡ seek probe turns 0 count m
      looked_found (here zero k s) e m = absurd (omega arith)
      looked_found (here (suc f) k s) e m = one_more n _ m ∙ (rw (turn probe low high f h e) at (s m))

      pub looked_right : Looked probe turns count low high n → probe (middle low high) ≡ Less → Looked probe turns count (middle low high + 1) high (n + 1)
      looked_right (here zero k s) e = absurd (omega arith)
      looked_right (here (suc f) k s) e =
          let w : 2 ^ suc f ≡ 2 * 2 ^ f = pow-succ' 2 f in here f (omega arith) (λ m. one_more n _ m ∙ (rw (turn probe low high f h e) at (s m)))

      pub looked_left : Looked probe turns count low high n → probe (middle low high) ≡ Greater → Looked probe turns count low (middle low high) (n + 1)
      looked_left (here zero k s) e = absurd (omega arith)
      looked_left (here (suc f) k s) e =
          let w : 2 ^ suc f ≡ 2 * 2 ^ f = pow-succ' 2 f in here f (omega arith) (λ m. one_more n _ m ∙ (rw (turn probe low high f h e) at (s m)))

-- ---- two natural numbers, by the tests of the code

pub is_less : (a b : ℕ) → a < b → compareℕ a b ≡ Less
is_less a b h = rw (lt-ltb a b h)

pub is_greater : (a b : ℕ) → b < a → compareℕ a b ≡ Greater
is_greater a b h = rw (le-ltb a b (omega arith), ne_eqb a b (omega arith))

pub is_equal : (a b : ℕ) → a ≤ b → b ≤ a → compareℕ a b ≡ Equal
is_equal a b h k = let e : a ≡ b = omega arith in rw (le-ltb a b k, eq-eqb a b e)

-- ---- and back

pub less_is : (a b : ℕ) → compareℕ a b ≡ Less → a < b
less_is a b e = go (compared a b)
  where
    go : Compared a b → a < b
    go (less h) = h
    go (more h) = let g = is_greater a b h in let z : ◌≡◌ {A = ℕ} 0 1 = cc in absurd (omega arith)
    go (same h) = let g = is_equal a b (omega arith) (omega arith) in let z : ◌≡◌ {A = ℕ} 0 1 = cc in absurd (omega arith)

pub greater_is : (a b : ℕ) → compareℕ a b ≡ Greater → b < a
greater_is a b e = go (compared a b)
  where
    go : Compared a b → b < a
    go (less h) = let g = is_less a b h in let z : ◌≡◌ {A = ℕ} 0 1 = cc in absurd (omega arith)
    go (more h) = h
    go (same h) = let g = is_equal a b (omega arith) (omega arith) in let z : ◌≡◌ {A = ℕ} 0 1 = cc in absurd (omega arith)

pub equal_is : (a b : ℕ) → compareℕ a b ≡ Equal → a ≡ b
equal_is a b e = go (compared a b)
  where
    go : Compared a b → a ≡ b
    go (less h) = let g = is_less a b h in let z : ◌≡◌ {A = ℕ} 0 1 = cc in absurd (omega arith)
    go (more h) = let g = is_greater a b h in let z : ◌≡◌ {A = ℕ} 0 1 = cc in absurd (omega arith)
    go (same h) = h
