-- Every result over the operands lies in the answer, or the range declines: none that fits 32 bits is left out. So 01's one kind of
-- difference, a range that leaves out a result that fits, has no case among these four operations.
use mathlib.Core.Bool.{◌&&◌}
use lib.IntN.{ℤ, neg_ℤ, ◌+ℤ◌, ◌-ℤ◌, ◌*ℤ◌}
use lib.Signed.{le_z}
use Rattle.integers.specs.Order.{Le, Between, Number, number?}
use Rattle.integers.proofs.Tests.{by_cond, and_left, and_right}
use Rattle.integers.proofs.OrderLaws.{le_yes, number_yes}
use Rattle.integers.proofs.Sums.{add_grows, sub_grows, neg_falls}
use Rattle.integers.proofs.Products.{corners}
use Rattle.range.specs.declared.Range.{Range}
use Rattle.std.specs.Prelude.{Option, Some, None}
use Rattle.range.specs.Range.{new_of, sum_of, difference_of, product_of, negation_of, Has, Encloses}

pub new_encloses : (low high z : ℤ) → Between low high z → Encloses (new_of low high) z
unfolding new_of
new_encloses low high z h = by_cond (λ (r : Option Range). Encloses r z) (le_z low high && (number? low && number? high)) (λ _. h) (λ _. tt)

-- ---- every result over the operands

module _ (a b : Range) (x y : ℤ) (p : Has a x) (q : Has b y) where
  pub sum_encloses : Encloses (sum_of a b) (x +ℤ y)
  sum_encloses = new_encloses _ _ (x +ℤ y) (add_grows a.low b.low x y p.0 q.0, add_grows x y a.high b.high p.1 q.1)

  pub difference_encloses : Encloses (difference_of a b) (x -ℤ y)
  difference_encloses = new_encloses _ _ (x -ℤ y) (sub_grows a.low b.high x y p.0 q.1, sub_grows x y a.high b.low p.1 q.0)

  pub product_encloses : Encloses (product_of a b) (x *ℤ y)
  product_encloses = new_encloses _ _ (x *ℤ y) (corners a.low a.high b.low b.high x y p q)

pub negation_encloses : (a : Range) (x : ℤ) → Has a x → Encloses (negation_of a) (neg_ℤ x)
negation_encloses a x p = new_encloses _ _ (neg_ℤ x) (neg_falls x a.high p.1, neg_falls a.low x p.0)

-- ---- an answer has numbers of 32 bits for its ends, and they ascend

pub record Proper (a : Range) : Type 0 where
  pub low : Number a.low
  pub high : Number a.high
  pub ascends : Le a.low a.high

abbrev pub IsProper : Option Range → Type 0
IsProper (Some a) = Proper a
IsProper None = Unit {0}

pub new_proper : (low high : ℤ) → IsProper (new_of low high)
unfolding new_of
new_proper low high =
    by_cond IsProper (le_z low high && (number? low && number? high))
    (λ t.
    let fits = and_right (le_z low high) (number? low && number? high) t in
    record {
      low = number_yes low (and_left (number? low) (number? high) fits);
      high = number_yes high (and_right (number? low) (number? high) fits);
      ascends = le_yes low high (and_left (le_z low high) (number? low && number? high) t);
    })
    (λ _. tt)
