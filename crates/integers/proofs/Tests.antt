-- `cond` and the tests that it goes by.
use mathlib.Core.Path.{◌≡◌, refl}
use mathlib.Core.Bool.{Bool, true, false, cond, ◌&&◌}

-- what holds of both sides, each where its test came out so, holds of the choice
pub by_cond {ℓ κ} : {A : Type ℓ} (P : A → Type κ) (t : Bool) {x y : A} → (t ≡ true → P x) → (t ≡ false → P y) → P (cond t x y)
by_cond P true f g = f refl
by_cond P false f g = g refl

-- a function of a choice is the choice of its values
pub ap_cond {ℓ κ} : {A : Type ℓ} {B : Type κ} (f : A → B) (t : Bool) (x y : A) → f (cond t x y) ≡ cond t (f x) (f y)
ap_cond f true x y = refl
ap_cond f false x y = refl

-- both sides are one
pub cond_same {ℓ} : {A : Type ℓ} (t : Bool) (x : A) → cond t x x ≡ x
cond_same true x = refl
cond_same false x = refl

-- a conjunction of tests, taken apart
pub and_left : (a b : Bool) → (a && b) ≡ true → a ≡ true
and_left true b e = refl
and_left false b e = e

pub and_right : (a b : Bool) → (a && b) ≡ true → b ≡ true
and_right true b e = e
and_right false b e = cc

pub and_false : (a : Bool) → (a && false) ≡ false
and_false true = refl
and_false false = refl
