-- The rule of 01, said of what `widen` gives and not of how it works. That `widen` follows it is `widen_by_rule` of proofs/Rule.antt, and that
-- nothing else does is `rule_one`.
--   "Widening: if either interval is empty the new one is returned, uncounted. A side that grows is counted the first two times; later it
--   moves to the nearest threshold at or beyond it. An Unbounded new interval is kept, though sides are counted."
use Rattle.std.specs.Prelude.{ℕ, ◌+◌, ◌≤◌, ◌<◌, ◌≡◌, ◌⊎◌, ℤ, pos, length, get_or, Some}
use mathlib.Core.List.{List, Memᴰ}
use Rattle.integers.specs.Order.{Le, Lt}
use Rattle.interval.specs.declared.Interval.{Interval}
use Rattle.interval.specs.declared.Interval.TheVariants.{Bottom, Bounded, Unbounded}
use Rattle.interval.specs.Interval.{endpoints_of}
use Rattle.widening.specs.declared.Growth.{Growth}
use Rattle.widening.specs.Widening.{Wide, wide}

-- strictly increasing: what the thresholds of a store are
abbrev pub Rising : List ℤ → Type 0
Rising l = (p q : ℕ) → p < q → q < length l → Lt (get_or l p (pos 0)) (get_or l q (pos 0))

-- ---- the two sides of an interval

pub data Which : Type 0 where
  lower : Which
  upper : Which

-- z is at an end, or on the far side of it
abbrev pub AtOrBeyond : Which → ℤ → ℤ → Type 0
AtOrBeyond lower end z = Le z end
AtOrBeyond upper end z = Le end z

-- from the old end to the new one a side grows, or it does not
abbrev pub Grows : Which → ℤ → ℤ → Type 0
Grows lower old new = Lt new old
Grows upper old new = Lt old new

abbrev pub Stays : Which → ℤ → ℤ → Type 0
Stays lower old new = Le old new
Stays upper old new = Le new old

-- "the nearest threshold at or beyond it"
pub record Nearest (s : Which) (thresholds : List ℤ) (end t : ℤ) : Type 0 where
  pub member : Memᴰ t thresholds
  pub beyond : AtOrBeyond s end t
  pub first : (u : ℤ) → Memᴰ u thresholds → AtOrBeyond s end u → AtOrBeyond s t u

-- an end moves there; it is left alone where no threshold is at or beyond it, which in a run does not happen (`moves_nearest`)
pub data MovesTo (s : Which) (thresholds : List ℤ) (end z : ℤ) : Type 0 where
  nearest : Nearest s thresholds end z → MovesTo s thresholds end z
  none : ((u : ℤ) → Memᴰ u thresholds → AtOrBeyond s end u → ⊥) → z ≡ end → MovesTo s thresholds end z

-- "A side that grows is counted the first two times": n before and m afterwards
pub record Counted (s : Which) (old new : ℤ) (n m : ℕ) : Type 0 where
  pub stays : Stays s old new → m ≡ n
  pub early : Grows s old new → n < 2 → m ≡ n + 1
  pub late : Grows s old new → 2 ≤ n → m ≡ n

-- "later it moves to the nearest threshold at or beyond it": where it then is, z
pub record Placed (s : Which) (thresholds : List ℤ) (old new : ℤ) (n : ℕ) (z : ℤ) : Type 0 where
  pub stays : Stays s old new → z ≡ new
  pub early : Grows s old new → n < 2 → z ≡ new
  pub late : Grows s old new → 2 ≤ n → MovesTo s thresholds new z

-- ---- both sides: from a..b to c..d

pub record BothCounted (a b c d : ℤ) (g g' : Growth) : Type 0 where
  pub low : Counted lower a c g.low g'.low
  pub high : Counted upper b d g.high g'.high

pub record BothPlaced (thresholds : List ℤ) (a b c d : ℤ) (g : Growth) (i : Interval) : Type 0 where
  pub low : ℤ
  pub high : ℤ
  pub is : i ≡ Bounded low high
  pub lows : Placed lower thresholds a c g.low low
  pub highs : Placed upper thresholds b d g.high high

-- w is what the rule makes of the two intervals and of how often the sides have grown; the ends of Unbounded are those of 32 bits
pub record ByRule (thresholds : List ℤ) (previous next : Interval) (g : Growth) (w : Wide) : Type 0 where
  -- "if either interval is empty the new one is returned, uncounted"
  pub empty : (previous ≡ Bottom) ⊎ (next ≡ Bottom) → w ≡ wide next g
  -- the sides, of two intervals that are not empty
  pub counts : {a b c d : ℤ} → endpoints_of previous ≡ Some (a, b) → endpoints_of next ≡ Some (c, d) → BothCounted a b c d g w.growth
  pub places : {a b c d : ℤ} → endpoints_of previous ≡ Some (a, b) → next ≡ Bounded c d → BothPlaced thresholds a b c d g w.interval
  -- "An Unbounded new interval is kept, though sides are counted"
  pub unbounded : next ≡ Unbounded → w.interval ≡ Unbounded
