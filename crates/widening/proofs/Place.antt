-- A search that finds its place first and pays afterwards: the place is that of the library's `position`, and the charges come to those of `nearest`.
use Prim.Native.Nat.{ℕ, suc, ◌+◌, ◌≤◌, ◌<◌}
use native.Mathlib.Omega.{arith}
use native.Mathlib.Numerals.{add-one}
use mathlib.Core.Path.{◌≡◌, refl, ◌∙◌}
use mathlib.Core.Bool.{Bool, true, false, cond, not}
use mathlib.Core.List.{List, [], ◌∷◌}
use lib.IntN.{ℤ}
use lib.Signed.{le_z}
use lib.ListN.{length, get_or}
use borrow.Author.Tests.{ltb-false}
use lib.Dec.{ltb}
use Rattle.widening.specs.Places.{first_place}
use Rattle.std.specs.List.{position_or_len}
use Rattle.std.specs.Prelude.{Option, Some, None, unwrap_or}
use Rattle.limits.specs.declared.Stop.{Stop}
use Rattle.limits.specs.Metered.{going, stopped, pure, ◌>>◌}
use Rattle.limits.specs.declared.Meter.{Meter}
use Rattle.limits.specs.Meter.{work, units}
use Rattle.limits.proofs.Monad.{then_on, then_stop, pure_is}
use Rattle.limits.proofs.Units.{units_more, units_nothing}
use Rattle.widening.specs.Widening.{nearest, above}

pub first_is : (test : ℤ → Bool) (l : List ℤ) → position_or_len test l ≡ first_place test l
unfolding first_place
first_is test [] = refl
first_is test (t ∷ l) = by_case (test t) (first_is test l)
  where
    by_case : (b : Bool) → position_or_len test l ≡ first_place test l → cond (not b) (1 + position_or_len test l) 0 ≡ cond b 0 (suc (first_place test l))
    by_case true e = refl
    by_case false e = omega (arith, e)

first_within : (test : ℤ → Bool) (l : List ℤ) → first_place test l ≤ length l
unfolding first_place
first_within test [] = omega arith
first_within test (t ∷ l) = by_case (test t) (first_within test l)
  where
    by_case : (b : Bool) → first_place test l ≤ length l → cond b 0 (suc (first_place test l)) ≤ suc (length l)
    by_case true h = omega arith
    by_case false h = omega arith

-- where the library's `position` ends, or the number of items
pub position_is : (test : ℤ → Bool) (l : List ℤ) {r : Option ℕ} → r ≡ cond (ltb (position_or_len test l) (length l)) (Some (position_or_len test l)) None →
    unwrap_or r (length l) ≡ first_place test l
position_is test l e = rw (e, first_is test l) (by_case (ltb (first_place test l) (length l)) refl)
  where
    by_case : (b : Bool) → ltb (first_place test l) (length l) ≡ b → unwrap_or (cond b (Some (first_place test l)) None) (length l) ≡ first_place test l
    by_case true h = refl
    by_case false h = omega (arith, ltb-false (first_place test l) (length l) h, first_within test l)

-- ---- what it pays

module _ (beyond : ℤ → Bool) (end : ℤ) where
  found_at : (z t : ℤ) (l : List ℤ) (s : Meter) (b : Bool) →
      ((m : Meter) → first_place beyond l < length l → (units (suc (first_place beyond l)) >> pure (get_or l (first_place beyond l) z)) m ≡ nearest beyond end l m) →
      cond b 0 (suc (first_place beyond l)) < suc (length l) →
      (units (suc (cond b 0 (suc (first_place beyond l)))) >> pure (get_or (t ∷ l) (cond b 0 (suc (first_place beyond l))) z)) s ≡ (work 1 >> cond b (pure t) (nearest beyond end l)) s
  found_at z t l s true h k = units_more 0 _ _ s (units_nothing _)
  found_at z t l s false h k = units_more _ _ _ s (λ m. h m (omega arith))

  nearest_found : (z : ℤ) (l : List ℤ) (s : Meter) → first_place beyond l < length l → (units (suc (first_place beyond l)) >> pure (get_or l (first_place beyond l) z)) s ≡ nearest beyond end l s
  unfolding first_place nearest
  nearest_found z [] s h = absurd (omega arith)
  nearest_found z (t ∷ l) s h = found_at z t l s (beyond t) (nearest_found z l) h

  none_at : (t : ℤ) (l : List ℤ) (s : Meter) (b : Bool) → ((m : Meter) → length l ≤ first_place beyond l → (units (first_place beyond l) >> pure end) m ≡ nearest beyond end l m) →
      suc (length l) ≤ cond b 0 (suc (first_place beyond l)) → (units (cond b 0 (suc (first_place beyond l))) >> pure end) s ≡ (work 1 >> cond b (pure t) (nearest beyond end l)) s
  none_at t l s true h k = absurd (omega arith)
  none_at t l s false h k = units_more _ _ _ s (λ m. h m (omega arith))

  nearest_none : (l : List ℤ) (s : Meter) → length l ≤ first_place beyond l → (units (first_place beyond l) >> pure end) s ≡ nearest beyond end l s
  unfolding first_place nearest
  nearest_none [] s h = units_nothing _ s
  nearest_none (t ∷ l) s h = none_at t l s (beyond t) (nearest_none l) h

-- ---- the code's answers

module _ (high : ℤ) (l : List ℤ) {n : ℕ} (p : n ≡ first_place (le_z high) l) (m : Meter) where
  module _ (z : ℤ) (k : n < length l) where
    found : (units (n + 1) >> pure (get_or l n z)) m ≡ above l high m
    unfolding above
    found = rw (add-one, p) (nearest_found (le_z high) high z l m (rw p at k))

    pub above_found : {t : Meter} → going tt t ≡ units (n + 1) m → going (get_or l n z) t ≡ above l high m
    above_found h = then_on (units (n + 1)) m (pure (get_or l n z)) h (pure_is _ _) ∙ found

    pub found_stopped : {s : Stop} {t : Meter} → stopped s t ≡ units (n + 1) m → stopped s t ≡ above l high m
    found_stopped h = then_stop (units (n + 1)) m (pure (get_or l n z)) h ∙ found

  module _ (k : length l ≤ n) where
    missed : (units n >> pure high) m ≡ above l high m
    unfolding above
    missed = rw p (nearest_none (le_z high) high l m (rw p at k))

    pub above_none : {t : Meter} → going tt t ≡ units n m → going high t ≡ above l high m
    above_none h = then_on (units n) m (pure high) h (pure_is _ _) ∙ missed

    pub none_stopped : {s : Stop} {t : Meter} → stopped s t ≡ units n m → stopped s t ≡ above l high m
    none_stopped h = then_stop (units n) m (pure high) h ∙ missed
