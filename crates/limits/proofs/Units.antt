-- Charges of one unit each, one after another: all of them, or as many as there is room for and then one that is refused.
use Prim.Native.Nat.{ℕ, zero, suc, ◌+◌, ◌-◌, ◌≤◌, ◌<◌}
use native.Mathlib.Omega.{arith}
use mathlib.Core.Path.{◌≡◌, refl, sym, ap, ◌∙◌}
use mathlib.Core.Bool.{Bool, true, false}
use lib.Dec.{leb}
use borrow.Author.Tests.{le-leb, lt-leb, leb-true, leb-false}
use Rattle.std.proofs.Common.{Result, Ok, Err}
use Rattle.limits.specs.declared.Resource.{Resource}
use Rattle.limits.specs.declared.Resource.TheVariants.{Work}
use Rattle.limits.specs.declared.Stop.{Stop}
use Rattle.limits.specs.Charge.{stop_of, charge_of, stored, counting, units_of}
use Rattle.limits.specs.Metered.{Run, going, stopped, Metered, pure, after, ◌>>=◌, ◌>>◌, mapped}
use Rattle.limits.specs.declared.Meter.{Meter}
use Rattle.limits.specs.Meter.{charged, with_work, work, units}
use Rattle.limits.proofs.Monad.{pure_is, then_on, then_stop}

-- ---- of one count

module _ (r : Resource) (limit : ℕ) where
  fits : (old : ℕ) → old + 1 ≤ limit → going tt (old + 1) ≡ counting r limit 1 old
  unfolding charge_of
  fits old h = rw (le-leb (old + 1) limit h)

  refused : (old : ℕ) → limit < old + 1 → stopped (stop_of r limit (old + 1)) old ≡ counting r limit 1 old
  unfolding charge_of
  refused old h = rw (lt-leb (old + 1) limit h)

  -- all of them fit
  pub units_fit : (n old : ℕ) → old + n ≤ limit → going tt (old + n) ≡ units_of r limit n old
  unfolding units_of
  units_fit zero old h = let e : old + 0 ≡ old = omega arith in rw e (pure_is tt old)
  units_fit (suc n) old h =
      let e : old + suc n ≡ old + 1 + n = omega arith in
      then_on (counting r limit 1) old (units_of r limit n) (fits old (omega arith)) (rw e (units_fit n (old + 1) (omega arith)))

  module _ {y : Run Stop ℕ (Unit {0})} where
    -- none does
    pub units_refused : (n old : ℕ) → limit ≤ old → 0 < n → y ≡ counting r limit 1 old → y ≡ units_of r limit n old
    unfolding units_of
    units_refused zero old h k e = absurd (omega arith)
    units_refused (suc n) old h k e = let p = refused old (omega arith) in e ∙ (sym p ∙ then_stop (counting r limit 1) old (units_of r limit n) p)

    -- those up to the limit do
    pub units_part : (room n old : ℕ) → limit ≡ old + room → room < n → y ≡ counting r limit 1 limit → y ≡ units_of r limit n old
    unfolding units_of
    units_part zero n old l h e = let p : limit ≡ old = omega arith in units_refused n old (omega arith) h (e ∙ ap (counting r limit 1) p)
    units_part (suc room) zero old l h e = absurd (omega arith)
    units_part (suc room) (suc n) old l h e =
        then_on (counting r limit 1) old (units_of r limit n) (fits old (omega arith)) (units_part room n (old + 1) (omega arith) (omega arith) e)

  -- there is room for them
  pub units_whole : (n old : ℕ) → n ≤ limit - old → going tt (old + n) ≡ units_of r limit n old
  unfolding units_of
  units_whole zero old h = let e : old + 0 ≡ old = omega arith in rw e (pure_is tt old)
  units_whole (suc n) old h = units_fit (suc n) old (omega arith)

  -- or for less, and then one is refused
  pub units_ended : (n old : ℕ) {y : Run Stop ℕ (Unit {0})} → limit - old < n → y ≡ counting r limit 1 (old + (limit - old)) → y ≡ units_of r limit n old
  units_ended n old {y} h k = go (leb limit old) refl
    where
      go : (t : Bool) → leb limit old ≡ t → y ≡ units_of r limit n old
      go true p = let q = leb-true _ _ p in let e : old + (limit - old) ≡ old = omega arith in units_refused n old q (omega arith) (rw e at k)
      go false p = let q = leb-false _ _ p in let e : old + (limit - old) ≡ limit = omega arith in units_part (limit - old) n old (omega arith) h (rw e at k)

-- ---- on a meter

abbrev into : Meter → Run Stop ℕ (Unit {0}) → Run Stop Meter (Unit {0})
into m x = mapped (λ n. with_work n m) (λ n. with_work n m) (λ e. e) x

pub units_are : (n : ℕ) (m : Meter) → into m (units_of Work m.max_work n m.work) ≡ units n m
unfolding units units_of work pure ◌>>◌ ◌>>=◌ after mapped
units_are zero m = refl
units_are (suc n) m = go (charge_of Work m.work 1 m.max_work) (λ k. units_are n (with_work k m))
  where
    go : (x : Result ℕ Stop) → ((k : ℕ) → into m (units_of Work m.max_work n k) ≡ units n (with_work k m)) →
        into m (after (stored m.work x) (λ _. units_of Work m.max_work n)) ≡ after (charged (λ k. with_work k m) m x) (λ _. units n)
    go (Ok k) h = h k
    go (Err e) h = refl

-- ---- a search that pays for each item that it looks at, from what follows all its units

module _ {A : Type 0} where
  -- one unit more
  pub units_more : (n : ℕ) (d c : Metered Stop Meter A) (s : Meter) → ((t : Meter) → (units n >> d) t ≡ c t) → (units (suc n) >> d) s ≡ (work 1 >> c) s
  unfolding units ◌>>◌ ◌>>=◌ after
  units_more n d c s h = go (work 1 s)
    where
      go : (x : Run Stop Meter (Unit {0})) → after (after x (λ _. units n)) (λ _. d) ≡ after x (λ _. c)
      go (going a t) = h t
      go (stopped e t) = refl

  pub units_nothing : (d : Metered Stop Meter A) (s : Meter) → (units 0 >> d) s ≡ d s
  unfolding units ◌>>◌ ◌>>=◌ after pure
  units_nothing d s = refl
