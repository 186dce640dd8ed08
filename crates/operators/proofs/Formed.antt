-- Whatever operators make of intervals, its ends are numbers of 32 bits.
use Rattle.integers.specs.Order.{least32, greatest32}
use Rattle.std.specs.Prelude.{Option, Some, None}
use Rattle.range.specs.declared.Range.{Range}
use Rattle.range.proofs.Enclosing.{IsProper, new_proper}
use Rattle.interval.specs.declared.Interval.{Interval}
use Rattle.interval.specs.declared.Interval.TheVariants.{Bottom, Bounded, Unbounded}
use Rattle.rows.specs.WellFormed.{Proper}
use Rattle.rows.proofs.Formed.{proper_checked}
use Rattle.nodes.specs.declared.UnaryOp.{UnaryOp}
use Rattle.nodes.specs.declared.UnaryOp.TheVariants.{Negate, BitwiseNot}
use Rattle.nodes.specs.declared.BinaryOp.{BinaryOp}
use Rattle.nodes.specs.declared.BinaryOp.TheVariants.{Add, Sub, Mul, Div, Mod, Pow, BitAnd, BitOr, BitXor}
use Rattle.operators.specs.Arithmetic.{range_of, interval_from, negated, unary_of, absolute_of, operated, binary_of, span}

ranged_proper : (r : Option Range) → IsProper r → Proper (interval_from r)
ranged_proper (Some a) p = (p.low, (p.high, p.ascends))
ranged_proper None p = tt

negated_proper : (r : Option Range) → IsProper (negated r)
negated_proper (Some a) = new_proper _ _
negated_proper None = tt

pub unary_proper : (op : UnaryOp) (x : Interval) → Proper (unary_of op x)
unary_proper op Bottom = tt
unary_proper Negate (Bounded low high) = ranged_proper (negated (range_of (Bounded low high))) (negated_proper (range_of (Bounded low high)))
unary_proper Negate Unbounded = tt
unary_proper BitwiseNot (Bounded low high) = tt
unary_proper BitwiseNot Unbounded = tt

pub absolute_proper : (x : Interval) → Proper (absolute_of x)
absolute_proper Bottom = tt
absolute_proper (Bounded low high) = tt
absolute_proper Unbounded = tt

operated_proper : (op : BinaryOp) (a b : Option Range) → IsProper (operated op a b)
operated_proper Add (Some a) (Some b) = new_proper _ _
operated_proper Sub (Some a) (Some b) = new_proper _ _
operated_proper Mul (Some a) (Some b) = new_proper _ _
operated_proper Div (Some a) (Some b) = tt
operated_proper Mod (Some a) (Some b) = tt
operated_proper Pow (Some a) (Some b) = tt
operated_proper BitAnd (Some a) (Some b) = tt
operated_proper BitOr (Some a) (Some b) = tt
operated_proper BitXor (Some a) (Some b) = tt
operated_proper op (Some a) None = tt
operated_proper op None b = tt

pub binary_proper : (op : BinaryOp) (x y : Interval) → Proper (binary_of op x y)
binary_proper op x y = ranged_proper (operated op (range_of x) (range_of y)) (operated_proper op (range_of x) (range_of y))

pub span_proper : (x y : Interval) → Proper (span x y)
span_proper Bottom y = tt
span_proper (Bounded a b) Bottom = tt
span_proper (Bounded a b) (Bounded c d) = proper_checked a d
span_proper (Bounded a b) Unbounded = proper_checked a greatest32
span_proper Unbounded Bottom = tt
span_proper Unbounded (Bounded c d) = proper_checked least32 d
span_proper Unbounded Unbounded = proper_checked least32 greatest32
