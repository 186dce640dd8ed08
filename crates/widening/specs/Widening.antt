-- `widen` of engine.rs with its charges, and how often the sides of each argument have grown. That this is 01's rule is proofs/Rule.antt.
use Rattle.std.specs.Prelude.{ℕ, zero, suc, ◌+◌, ◌*◌, Bool, cond, List, [], ◌∷◌, reverse, ltb, ℤ, get_or, Option, Some, None}
use Rattle.sizes.specs.Sizes as size
use Rattle.std.specs.Int.Signed.{le_z}
use Rattle.std.proofs.lemmas.List.Edits.{sets}
use Rattle.limits.specs.declared.Stop.{Stop}
use Rattle.limits.specs.Metered.{Metered, pure, ◌>>=◌, ◌>>◌}
use Rattle.limits.specs.declared.Meter.{Meter}
use Rattle.limits.specs.Meter.{work}
use Rattle.interval.specs.declared.Interval.{Interval}
use Rattle.interval.specs.declared.Interval.TheVariants.{Bottom, Bounded, Unbounded}
use Rattle.interval.specs.Interval.{endpoints_of}
use Rattle.widening.specs.declared.Growth.{Growth}
pub use Rattle.widening.specs.declared.Side.{Side}
pub use Rattle.widening.specs.declared.Wide.{Wide}

abbrev pub growth : ℕ → ℕ → Growth
growth low high = record { low = low; high = high }

-- ---- one side

-- an end, and how often it has grown
abbrev pub side : ℤ → ℕ → Side
side z n = record { end = z; grown = n }

-- the first threshold that is at the end or beyond it, a unit of work for each that is looked at; the end itself where there is none
unfoldable pub nearest : (ℤ → Bool) → ℤ → List ℤ → Metered Stop Meter ℤ
nearest beyond end [] = pure end
nearest beyond end (t ∷ l) = work 1 >> cond (beyond t) (pure t) (nearest beyond end l)

-- the greatest threshold that is not above the low end, sought from the top
unfoldable pub below : List ℤ → ℤ → Metered Stop Meter ℤ
below thresholds low = nearest (λ t. le_z t low) low (reverse thresholds)

-- the least threshold that is not below the high end, sought from the bottom
unfoldable pub above : List ℤ → ℤ → Metered Stop Meter ℤ
above thresholds high = nearest (λ t. le_z high t) high thresholds

-- 01: "A side that grows is counted the first two times; later it moves to the nearest threshold at or beyond it." `stays` where it does not grow
abbrev pub grow_side : Bool → ℤ → ℕ → Metered Stop Meter ℤ → Metered Stop Meter Side
grow_side stays end grown search = cond stays (pure (side end grown)) (cond (ltb grown 2) (pure (side end (grown + 1))) (search >>= (λ z. pure (side z grown))))

unfoldable pub widen_low : List ℤ → ℤ → ℤ → ℕ → Metered Stop Meter Side
widen_low thresholds old low grown = grow_side (le_z old low) low grown (below thresholds low)

unfoldable pub widen_high : List ℤ → ℤ → ℤ → ℕ → Metered Stop Meter Side
widen_high thresholds old high grown = grow_side (le_z high old) high grown (above thresholds high)

-- ---- both sides

abbrev pub wide : Interval → Growth → Wide
wide i g = record { interval = i; growth = g }

-- 01: "An Unbounded new interval is kept, though sides are counted."
abbrev pub with_ends : Interval → ℤ → ℤ → Interval
with_ends Bottom low high = Bottom
with_ends (Bounded a b) low high = Bounded low high
with_ends Unbounded low high = Unbounded

-- 01: "if either interval is empty the new one is returned, uncounted"
abbrev pub widen_ends : List ℤ → Interval → Growth → Option (ℤ × ℤ) → Option (ℤ × ℤ) → Metered Stop Meter Wide
widen_ends thresholds next g None new = pure (wide next g)
widen_ends thresholds next g (Some (old_low, old_high)) None = pure (wide next g)
widen_ends thresholds next g (Some (old_low, old_high)) (Some (low, high)) = do
  l ← widen_low thresholds old_low low g.low
  h ← widen_high thresholds old_high high g.high
  pure (wide (with_ends next l.end h.end) (growth l.grown h.grown))

unfoldable pub widen : List ℤ → Interval → Interval → Growth → Metered Stop Meter Wide
widen thresholds previous next g = widen_ends thresholds next g (endpoints_of previous) (endpoints_of next)

-- ---- the growth of all arguments, two cells for each; one beyond them has not grown

unfoldable pub growth_at : List ℕ → ℕ → Growth
growth_at cells k = cond (ltb k size.positions) (growth (get_or cells (size.growth_row * k) 0) (get_or cells (size.growth_row * k + 1) 0)) (growth 0 0)

unfoldable pub put_growth : List ℕ → ℕ → Growth → List ℕ
put_growth cells k g = cond (ltb k size.positions) (sets cells (size.growth_row * k) (g.low ∷ g.high ∷ [])) cells

-- no side of the first n arguments has grown
unfoldable pub no_growth : List ℕ → ℕ → List ℕ
no_growth cells zero = cells
no_growth cells (suc n) = put_growth (no_growth cells n) n (growth 0 0)
