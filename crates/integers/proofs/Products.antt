-- The product's four corners: a product of numbers between ends lies between the least and the greatest product of an end with an end.
use Prim.Native.Nat.{ℕ, zero, suc}
use native.Mathlib.Omega.{arith}
use mathlib.Core.Path.{◌≡◌, ap, ◌∙◌}
use lib.IntN.{ℤ, pos, negsuc, ◌+ℤ◌, ◌*ℤ◌, suc_ℤ-*ℤ, *ℤ_comm, *ℤ-zero, *ℤ-negsuc}
use Rattle.integers.specs.Order.{Le, Between, min_z, max_z}
use Rattle.integers.proofs.OrderLaws.{min_left, min_right, min_least, max_left, max_right, max_greatest}
use Rattle.integers.proofs.Sums.{add_grows, neg_falls}

mul-suc : (a : ℤ) (n : ℕ) → a *ℤ pos (suc n) ≡ (a *ℤ pos n) +ℤ a
mul-suc a n = *ℤ_comm a (pos (suc n)) ∙ suc_ℤ-*ℤ (pos n) a ∙ ap (λ (x : ℤ). x +ℤ a) (*ℤ_comm (pos n) a)

-- a factor that is not negative keeps the order, a negative one turns it round
pub mul_grows : (a b : ℤ) (n : ℕ) → Le a b → Le (a *ℤ pos n) (b *ℤ pos n)
mul_grows a b zero h = rw (*ℤ-zero a, *ℤ-zero b) (omega arith)
mul_grows a b (suc n) h = rw (mul-suc a n, mul-suc b n) (add_grows (a *ℤ pos n) a (b *ℤ pos n) b (mul_grows a b n h) h)

pub mul_falls : (a b : ℤ) (n : ℕ) → Le a b → Le (b *ℤ negsuc n) (a *ℤ negsuc n)
mul_falls a b n h = rw (*ℤ-negsuc a n, *ℤ-negsuc b n) (neg_falls (a *ℤ pos (suc n)) (b *ℤ pos (suc n)) (mul_grows a b (suc n) h))

-- a multiple lies between the multiples of the ends
side : (a b x y : ℤ) → Between a b x → Between (min_z (a *ℤ y) (b *ℤ y)) (max_z (a *ℤ y) (b *ℤ y)) (x *ℤ y)
side a b x (pos n) h =
    let l = mul_grows a x n h.0 in
    let u = mul_grows x b n h.1 in
    (omega (arith, min_left (a *ℤ pos n) (b *ℤ pos n)), omega (arith, max_right (a *ℤ pos n) (b *ℤ pos n)))
side a b x (negsuc n) h =
    let l = mul_falls a x n h.0 in
    let u = mul_falls x b n h.1 in
    (omega (arith, min_right (a *ℤ negsuc n) (b *ℤ negsuc n)), omega (arith, max_left (a *ℤ negsuc n) (b *ℤ negsuc n)))

other_side : (c d x y : ℤ) → Between c d y → Between (min_z (x *ℤ c) (x *ℤ d)) (max_z (x *ℤ c) (x *ℤ d)) (x *ℤ y)
other_side c d x y h = rw (*ℤ_comm x c, *ℤ_comm x d, *ℤ_comm x y) (side c d y x h)

pub corners : (a b c d x y : ℤ) → Between a b x → Between c d y →
    Between (min_z (min_z (a *ℤ c) (a *ℤ d)) (min_z (b *ℤ c) (b *ℤ d))) (max_z (max_z (a *ℤ c) (a *ℤ d)) (max_z (b *ℤ c) (b *ℤ d))) (x *ℤ y)
corners a b c d x y h k =
    let m = side a b x y h in
    let p = other_side c d a y k in
    let q = other_side c d b y k in
    let l = min_least (a *ℤ y) (b *ℤ y) (min_z (min_z (a *ℤ c) (a *ℤ d)) (min_z (b *ℤ c) (b *ℤ d)))
    (omega (arith, min_left (min_z (a *ℤ c) (a *ℤ d)) (min_z (b *ℤ c) (b *ℤ d)), p.0)) (omega (arith, min_right (min_z (a *ℤ c) (a *ℤ d)) (min_z (b *ℤ c) (b *ℤ d)), q.0)) in
    let u = max_greatest (a *ℤ y) (b *ℤ y) (max_z (max_z (a *ℤ c) (a *ℤ d)) (max_z (b *ℤ c) (b *ℤ d)))
    (omega (arith, max_left (max_z (a *ℤ c) (a *ℤ d)) (max_z (b *ℤ c) (b *ℤ d)), p.1)) (omega (arith, max_right (max_z (a *ℤ c) (a *ℤ d)) (max_z (b *ℤ c) (b *ℤ d)), q.1)) in
    (omega (arith, m.0), omega (arith, m.1))
