-- Operators on intervals, as `expression` of transfer.rs applies them. 01: "Sums, differences, products and negation follow range.rs".
use Rattle.std.specs.Prelude.{Bool, true, false, ℤ, Option, Some, None}
use Rattle.range.specs.declared.Range.{Range}
use Rattle.range.specs.Range.{new_of, sum_of, difference_of, product_of, negation_of}
use Rattle.interval.specs.declared.Interval.{Interval}
use Rattle.interval.specs.declared.Interval.TheVariants.{Bottom, Bounded, Unbounded}
use Rattle.interval.specs.Interval.{endpoints_of, checked_of}
use Rattle.nodes.specs.declared.UnaryOp.{UnaryOp}
use Rattle.nodes.specs.declared.UnaryOp.TheVariants.{Negate, BitwiseNot}
use Rattle.nodes.specs.declared.BinaryOp.{BinaryOp}
use Rattle.nodes.specs.declared.BinaryOp.TheVariants.{Add, Sub, Mul, Div, Mod, Pow, BitAnd, BitOr, BitXor}

abbrev pub empty? : Interval → Bool
empty? Bottom = true
empty? (Bounded low high) = false
empty? Unbounded = false

-- ---- to a range and back

-- `range`: Unbounded has no range
abbrev pub range_of : Interval → Option Range
range_of Bottom = None
range_of (Bounded low high) = new_of low high
range_of Unbounded = None

-- `interval`, and Unbounded where a range declines
abbrev pub interval_from : Option Range → Interval
interval_from (Some a) = Bounded a.low a.high
interval_from None = Unbounded

-- ---- one operand

abbrev pub negated : Option Range → Option Range
negated (Some a) = negation_of a
negated None = None

-- nothing comes of nothing; bitwise not is Unbounded
abbrev pub unary_of : UnaryOp → Interval → Interval
unary_of op Bottom = Bottom
unary_of Negate (Bounded low high) = interval_from (negated (range_of (Bounded low high)))
unary_of Negate Unbounded = Unbounded
unary_of BitwiseNot (Bounded low high) = Unbounded
unary_of BitwiseNot Unbounded = Unbounded

-- the absolute value of a range would be one, but transfer.rs does not ask for it: Unbounded, as bitwise not is
abbrev pub absolute_of : Interval → Interval
absolute_of Bottom = Bottom
absolute_of (Bounded low high) = Unbounded
absolute_of Unbounded = Unbounded

-- ---- two operands

-- `Range::binary`, as far as it is ported
abbrev pub arithmetic : BinaryOp → Range → Range → Option Range
arithmetic Add a b = sum_of a b
arithmetic Sub a b = difference_of a b
arithmetic Mul a b = product_of a b
arithmetic Div a b = None
arithmetic Mod a b = None
arithmetic Pow a b = None
arithmetic BitAnd a b = None
arithmetic BitOr a b = None
arithmetic BitXor a b = None

abbrev pub operated : BinaryOp → Option Range → Option Range → Option Range
operated op (Some a) (Some b) = arithmetic op a b
operated op (Some a) None = None
operated op None b = None

abbrev pub binary_of : BinaryOp → Interval → Interval → Interval
binary_of op x y = interval_from (operated op (range_of x) (range_of y))

abbrev pub difference? : BinaryOp → Bool
difference? Add = false
difference? Sub = true
difference? Mul = false
difference? Div = false
difference? Mod = false
difference? Pow = false
difference? BitAnd = false
difference? BitOr = false
difference? BitXor = false

-- ---- from the low end of one to the high end of another: a range binding, and a membership guard

abbrev pub spanned : Option (ℤ × ℤ) → Option (ℤ × ℤ) → Interval
spanned None y = Bottom
spanned (Some (a, b)) None = Bottom
spanned (Some (a, b)) (Some (c, d)) = checked_of a d

abbrev pub span : Interval → Interval → Interval
span low high = spanned (endpoints_of low) (endpoints_of high)
