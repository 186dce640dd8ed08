-- What the code's answers are, over plain variables.
use native.Mathlib.Omega.{arith}
use mathlib.Core.Path.{◌≡◌, refl, ap₂, ◌∙◌}
use mathlib.Core.Bool.{true}
use lib.IntN.{ℤ}
use lib.Signed.{lt_z}
use Rattle.std.specs.Int.{int_min, int_max}
use Rattle.std.proofs.lemmas.Int.{to_z-of_z}
use Rattle.integers.specs.Order.{least32, greatest32, min_z, max_z}
use Rattle.integers.proofs.OrderLaws.{lt_yes, no_le, max_left, max_right, min_left, min_right}
use Rattle.integers.proofs.Extremes.{min_is, max_is}
use Rattle.interval.specs.declared.Interval.{Interval}
use Rattle.interval.specs.declared.Interval.TheVariants.{Bottom, Bounded, Unbounded}
use Rattle.interval.specs.Interval.{ascending_of, hull_of, meet_of, checked_of}
use Rattle.interval.proofs.Members.{interval_cousot}

pub nothing_left : (y : Interval) → hull_of Bottom y ≡ y
unfolding hull_of
nothing_left y = interval_cousot y

pub nothing_right : (x : Interval) → hull_of x Bottom ≡ x
unfolding hull_of
nothing_right Bottom = refl
nothing_right (Bounded a b) = refl
nothing_right Unbounded = refl

pub all_left : (y : Interval) → hull_of Unbounded y ≡ Unbounded
unfolding hull_of
all_left Bottom = refl
all_left (Bounded c d) = refl
all_left Unbounded = refl

pub all_right : (x : Interval) → hull_of x Unbounded ≡ Unbounded
unfolding hull_of
all_right Bottom = refl
all_right (Bounded a b) = refl
all_right Unbounded = refl

pub hull_ends : (a b c d : ℤ) → hull_of (Bounded a b) (Bounded c d) ≡ Bounded (min_z a c) (max_z b d)
unfolding hull_of
hull_ends a b c d = refl

pub ruleset hulls = (nothing_left, nothing_right, all_left, all_right, hull_ends, min_is, max_is, to_z-of_z)

pub met_left : (y : Interval) → meet_of Bottom y ≡ Bottom
unfolding meet_of
met_left y = refl

pub met_right : (x : Interval) → meet_of x Bottom ≡ Bottom
unfolding meet_of
met_right Bottom = refl
met_right (Bounded a b) = refl
met_right Unbounded = refl

pub met_all : meet_of Unbounded Unbounded ≡ Unbounded
unfolding meet_of
met_all = refl

pub met_by_all : (c d : ℤ) → meet_of Unbounded (Bounded c d) ≡ ascending_of c d
unfolding meet_of
met_by_all c d = refl

pub met_with_all : (a b : ℤ) → meet_of (Bounded a b) Unbounded ≡ ascending_of a b
unfolding meet_of
met_with_all a b = refl

pub ruleset meets = (met_left, met_right, met_all, met_by_all, met_with_all, to_z-of_z)

pub met_ends : {x y r : Interval} {a b c d l h : ℤ} → x ≡ Bounded a b → y ≡ Bounded c d → l ≡ int_max a c → h ≡ int_min b d → r ≡ ascending_of l h → r ≡ meet_of x y
unfolding meet_of
met_ends {a} {b} {c} {d} p q el eh e = rw (p, q) (e ∙ ap₂ ascending_of (el ∙ max_is a c) (eh ∙ min_is b d))

-- ---- `checked`: the meet with all numbers of 32 bits

module _ (low high : ℤ) where
  pub all_above : lt_z greatest32 low ≡ true → Bottom ≡ checked_of low high
  unfolding checked_of
  all_above e =
      let h = lt_yes greatest32 low e in
      rw (no_le (max_z low least32) (min_z high greatest32) (omega (arith, max_left low least32, min_right high greatest32)))

  pub all_below : lt_z high least32 ≡ true → Bottom ≡ checked_of low high
  unfolding checked_of
  all_below e =
      let h = lt_yes high least32 e in
      rw (no_le (max_z low least32) (min_z high greatest32) (omega (arith, max_right low least32, min_left high greatest32)))

  pub cut : {r : Interval} {l h : ℤ} → l ≡ int_max low least32 → h ≡ int_min high greatest32 → r ≡ ascending_of l h → r ≡ checked_of low high
  unfolding checked_of
  cut el eh e = e ∙ ap₂ ascending_of (el ∙ max_is low least32) (eh ∙ min_is high greatest32)
