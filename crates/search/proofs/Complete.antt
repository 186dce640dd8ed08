-- A search is complete where the items stand in order: what it finds is equal, and what it does not find is nowhere.
use Prim.Native.Nat.{ℕ, zero, suc, ◌+◌, ◌*◌, ◌^◌, ◌≤◌, ◌<◌}
use native.Mathlib.Omega.{arith}
use native.Mathlib.Nat.{pow-succ'}
use native.Mathlib.Decide.{dec_lt}
use mathlib.Core.Path.{◌≡◌, refl, sym, ap, ◌∙◌, subst}
use borrow.Author.Tests.{ltb-true, ltb-false}
use lib.Dec.{ltb}
use Rattle.limits.specs.declared.Stop.{Stop}
use Rattle.limits.specs.Metered.{going, Metered, ◌>>◌}
use Rattle.limits.specs.declared.Meter.{Meter}
use Rattle.limits.specs.Meter.{work}
use Rattle.limits.proofs.Monad.{Holds, Ensures, weaken, by_pure, by_test, then, Steady, steady_pure, steady_unit, steady_test, steady_then}
use Rattle.std.specs.declared.cmp.Ordering.{Ordering}
use Rattle.std.specs.declared.cmp.Ordering.TheVariants.{Less, Equal, Greater}
use Rattle.search.specs.Seek.{Place, found, absent, by, middle, seek}
use Rattle.search.proofs.Turns.{nothing_left, turn}

by_ordering : {P : Place → Type 0} (o : Ordering) {x y z : Metered Stop Meter Place} →
    (o ≡ Less → Ensures P x) → (o ≡ Equal → Ensures P y) → (o ≡ Greater → Ensures P z) → Ensures P (by o x y z)
by_ordering Less f g h = f refl
by_ordering Equal f g h = g refl
by_ordering Greater f g h = h refl

module _ (probe : ℕ → Ordering) (n : ℕ) where
  abbrev pub Below : ℕ → Type 0
  Below low = (k : ℕ) → k < low → probe k ≡ Less

  abbrev pub Above : ℕ → Type 0
  Above high = (k : ℕ) → high ≤ k → k < n → probe k ≡ Greater

  -- the first n items stand in order
  pub record Rising : Type 0 where
    pub down : (p q : ℕ) → p < q → q < n → probe q ≡ Less → probe p ≡ Less
    pub up : (p q : ℕ) → p < q → q < n → probe p ≡ Greater → probe q ≡ Greater

  -- an equal item is found; or all below the place are less, and all from it on greater
  abbrev pub Ends : Place → Type 0
  Ends (found i) = (i < n) × (probe i ≡ Equal)
  Ends (absent low) = (low ≤ n) × Below low × Above low

  module _ (r : Rising) where
    below_more : (m : ℕ) → m < n → probe m ≡ Less → Below (m + 1)
    below_more m h e k l = elim (dec_lt k m) [ yes b ↦ r.down k m b h e | no b ↦ subst (λ (j : ℕ). probe j ≡ Less) (omega arith) e ]

    above_more : (m : ℕ) → m < n → probe m ≡ Greater → Above m
    above_more m h e k l g = elim (dec_lt m k) [ yes b ↦ r.up m k b g e | no b ↦ subst (λ (j : ℕ). probe j ≡ Greater) (omega arith) e ]

    ends : (f low high : ℕ) → low ≤ high → high ≤ n → high < low + 2 ^ f → Below low → Above high → Ensures Ends (seek probe f low high)
    unfolding seek
    ends zero low high h g k d u = by_pure (absent low) (omega arith, d, subst Above (omega arith) u)
    ends (suc f) low high h g k d u =
        by_test (ltb low high)
        (λ e.
        let z : low < high = ltb-true low high e in
        let w : 2 ^ suc f ≡ 2 * 2 ^ f = pow-succ' 2 f in
        then (work 1)
        (by_ordering (probe (middle low high))
        (λ x. ends f (middle low high + 1) high (omega arith) g (omega arith) (below_more (middle low high) (omega arith) x) u)
        (λ x. by_pure (found (middle low high)) (omega arith, x))
        (λ x. ends f low (middle low high) (omega arith) (omega arith) (omega arith) d (above_more (middle low high) (omega arith) x))))
        (λ e. let z : high ≤ low = ltb-false low high e in by_pure (absent low) (omega arith, d, subst Above (omega arith) u))

    -- with turns enough
    pub search_ends : (f : ℕ) → n < 2 ^ f → Ensures Ends (seek probe f 0 n)
    search_ends f h = ends f 0 n (omega arith) (omega arith) (omega arith) (λ k l. absurd (omega arith)) (λ k l m. absurd (omega arith))

-- as many turns as items are enough
pub enough : (n : ℕ) → n < 2 ^ n
enough zero = omega arith
enough (suc n) = let w : 2 ^ suc n ≡ 2 * 2 ^ n = pow-succ' 2 n in let h = enough n in omega arith

-- ---- with turns enough, how many there are does not matter

module _ (probe : ℕ → Ordering) where
  by_both : {A : Type 0} (o : Ordering) {x x' z z' : A} (y : A) → x ≡ x' → z ≡ z' → by o x y z ≡ by o x' y z'
  by_both Less y p q = p
  by_both Equal y p q = refl
  by_both Greater y p q = q

  pub turns_same : (f g low high : ℕ) → high < low + 2 ^ f → high < low + 2 ^ g → seek probe f low high ≡ seek probe g low high
  turns_same zero g low high h k = nothing_left probe low high zero (omega arith) ∙ sym (nothing_left probe low high g (omega arith))
  turns_same (suc f) zero low high h k = nothing_left probe low high (suc f) (omega arith) ∙ sym (nothing_left probe low high zero (omega arith))
  turns_same (suc f) (suc g) low high h k = elim (dec_lt low high) [
    | yes l ↦
        let v : 2 ^ suc f ≡ 2 * 2 ^ f = pow-succ' 2 f in
        let w : 2 ^ suc g ≡ 2 * 2 ^ g = pow-succ' 2 g in
        turn probe low high f l refl
        ∙ ap (λ (d : Metered Stop Meter Place). work 1 >> d)
        (by_both (probe (middle low high)) _ (turns_same f g (middle low high + 1) high (omega arith) (omega arith)) (turns_same f g low (middle low high) (omega arith) (omega arith)))
        ∙ sym (turn probe low high g l refl)
    | no l ↦ nothing_left probe low high (suc f) (omega arith) ∙ sym (nothing_left probe low high (suc g) (omega arith))
  ]

-- ---- where a search ends does not depend on the counts

steady_by : {A : Type 0} (o : Ordering) {x y z : Metered Stop Meter A} → Steady x → Steady y → Steady z → Steady (by o x y z)
steady_by Less f g h = f
steady_by Equal f g h = g
steady_by Greater f g h = h

pub steady_seek : (probe : ℕ → Ordering) (turns low high : ℕ) → Steady (seek probe turns low high)
unfolding seek
steady_seek probe zero low high = steady_pure (absent low)
steady_seek probe (suc f) low high =
    steady_test (ltb low high)
    (λ _.
    steady_then (steady_unit (work 1))
    (steady_by (probe (middle low high)) (steady_seek probe f (middle low high + 1) high) (steady_pure (found (middle low high))) (steady_seek probe f low (middle low high))))
    (λ _. steady_pure (absent low))

-- ---- a search ends within the table, in order or not

abbrev pub Within : ℕ → Place → Type 0
Within n (found i) = i < n
Within n (absent i) = i ≤ n

wider : {m n : ℕ} → m ≤ n → (p : Place) → Within m p → Within n p
wider h (found i) k = omega arith
wider h (absent i) k = omega arith

pub seek_within : (probe : ℕ → Ordering) (f low high : ℕ) → low ≤ high → Ensures (Within high) (seek probe f low high)
unfolding seek
seek_within probe zero low high h = by_pure (absent low) h
seek_within probe (suc f) low high h =
    by_test (ltb low high)
    (λ e.
    let z : low < high = ltb-true low high e in
    then (work 1)
    (by_ordering (probe (middle low high))
    (λ _. seek_within probe f (middle low high + 1) high (omega arith))
    (λ _. by_pure (found (middle low high)) (omega arith))
    (λ _. weaken (λ p. wider (omega arith) p) (seek_within probe f low (middle low high) (omega arith)))))
    (λ _. by_pure (absent low) h)

pub absent_within : (probe : ℕ → Ordering) (turns n : ℕ) (m : Meter) {i : ℕ} {m' : Meter} → going (absent i) m' ≡ seek probe turns 0 n m → i ≤ n
absent_within probe turns n m e = subst (Holds (Within n)) (sym e) ((seek_within probe turns 0 n (omega arith)).at m)
