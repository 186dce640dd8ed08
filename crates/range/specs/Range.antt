-- Ranges (range.rs): what each operation answers. 01: "Sums, differences, products and negation follow range.rs".
use Rattle.std.specs.Prelude.{cond, ◌&&◌, ℤ, neg_ℤ, ◌+ℤ◌, ◌-ℤ◌, ◌*ℤ◌, Option, Some, None}
use Rattle.std.specs.Int.Signed.{le_z}
use Rattle.integers.specs.Order.{min_z, max_z, number?, Between}
use Rattle.range.specs.declared.Range.{Range}

-- `Range::new`: ends that descend, or do not fit 32 bits, are declined by None
unfoldable pub new_of : ℤ → ℤ → Option Range
new_of low high = cond (le_z low high && (number? low && number? high)) (Some (record { low = low; high = high })) None

abbrev pub bounds_of : Range → ℤ × ℤ
bounds_of a = (a.low, a.high)

abbrev pub sum_of : Range → Range → Option Range
sum_of a b = new_of (a.low +ℤ b.low) (a.high +ℤ b.high)

abbrev pub difference_of : Range → Range → Option Range
difference_of a b = new_of (a.low -ℤ b.high) (a.high -ℤ b.low)

-- `Range::corners`: from the least to the greatest of the four products of an end with an end
abbrev pub corners_of : ℤ → ℤ → ℤ → ℤ → Option Range
corners_of a b c d =
    new_of
    (min_z (min_z (a *ℤ c) (a *ℤ d)) (min_z (b *ℤ c) (b *ℤ d)))
    (max_z (max_z (a *ℤ c) (a *ℤ d)) (max_z (b *ℤ c) (b *ℤ d)))

abbrev pub product_of : Range → Range → Option Range
product_of a b = corners_of a.low a.high b.low b.high

abbrev pub negation_of : Range → Option Range
negation_of a = new_of (neg_ℤ a.high) (neg_ℤ a.low)

-- the numbers of a range
abbrev pub Has : Range → ℤ → Type 0
Has a z = Between a.low a.high z

-- an answer encloses z; a range that declines makes no claim
abbrev pub Encloses : Option Range → ℤ → Type 0
Encloses (Some a) z = Has a z
Encloses None z = Unit {0}
