-- Widening in a run of a store whose tables hold what the accepted calls have said. Its thresholds are in order and hold both ends of 32 bits, so that
-- each widening is by 01's rule, and a side that has grown twice moves to the nearest threshold at or beyond it: there is always one.
use Rattle.sizes.specs.Sizes as size
use Rattle.sizes.specs.Sizes.{value_row}
use Prim.Native.Nat.{ℕ, zero, suc, ◌+◌, ◌*◌, ◌≤◌, ◌<◌}
use native.Mathlib.Omega.{arith}
use mathlib.Core.Path.{refl, subst, ◌∙◌}
use mathlib.Core.List.{List, [], ◌∷◌, Memᴰ}
use mathlib.Core.Option.{none}
use lib.IntN.{ℤ, pos}
use lib.ListN.{length, get_or, take, replicate, length-replicate, length-take}
use lib.Seq.{get_or-take}
use Rattle.integers.specs.Order.{Number, least32, greatest32}
use Rattle.integers.specs.Lists.{All}
use Rattle.limits.proofs.Ends.{Ends, ends_as}
use Rattle.limits.proofs.Monad.{Ensures}
use Rattle.interval.specs.declared.Interval.{Interval}
use Rattle.thresholds.specs.Thresholds.{Entry, entry}
use Rattle.thresholds.proofs.Sorted.{Has}
use Rattle.widening.specs.declared.Growth.{Growth}
use Rattle.widening.specs.Widening.{widen}
use Rattle.widening.specs.Rule.{Rising, Which, Grows, Nearest, Placed, ByRule}
use Rattle.widening.proofs.Rule.{rising_first, widen_by_rule, moves_nearest}
use Rattle.slots.specs.Slots.{blank}
use Rattle.rounds.proofs.Live.{Room, blank_formed}
use Rattle.engine.specs.Run.{beginning, begin}
use Rattle.engine.proofs.Begun.{Ended, begin_ends}
use Rattle.input.specs.Input as input
use Rattle.soundness.specs.Run.{Accepted}
use Rattle.soundness.proofs.Grounded.{Grounded, seeds_good}

-- thresholds as a run has them
pub record Marked (thresholds : List ℤ) : Type 0 where
  pub rising : Rising thresholds
  pub least : Memᴰ least32 thresholds
  pub greatest : Memᴰ greatest32 thresholds

-- ---- what the beginning of a run leaves

at_in : (l : List ℤ) (i : ℕ) → i < length l → Memᴰ (get_or l i (pos 0)) l
at_in [] i h = absurd (omega (arith, h))
at_in (a ∷ l) zero h = Memᴰ.head refl
at_in (a ∷ l) (suc i) h = Memᴰ.tail (at_in l i (omega (arith, h)))

has_in_lem : (s : Entry) (z : ℤ) → s.count ≤ length s.table → Has s z → Memᴰ z (take s.count s.table)
has_in_lem s z l h =
    subst (λ (v : ℤ). Memᴰ v (take s.count s.table)) (get_or-take s.count s.table h.0 (pos 0) h.1 ∙ h.2)
    (at_in (take s.count s.table) h.0 (omega (arith, length-take s.count s.table, h.1)))

ended_marked : (s t : Entry) → s.count + 2 ≤ length s.table → Ended s t → Marked (take t.count t.table)
ended_marked s t room h = record {
  rising = rising_first t.table t.count h.marks.rises;
  least = has_in_lem t least32 fits h.least;
  greatest = has_in_lem t greatest32 fits h.greatest;
}
  where
    fits : t.count ≤ length t.table
    fits = omega (arith, h.marks.most, h.marks.size)

module _ {p : Accepted} {t : input.Tables} (g : Grounded p t) (numbers : All Number t.thresholds) (few : t.header.counts.thresholds + 2 ≤ length t.thresholds) where
  -- where the beginning of its run completes, these are the thresholds that the passes are given
  pub begin_marked : Ends (λ _ b. Marked (take b.entry.count b.entry.table)) (λ _ _. Unit {0})
      (begin t.seeds t.header.counts.positions (beginning (entry t.header.budget t.header.counts.thresholds t.thresholds) (blank t.header.counts.positions) (replicate (size.growth_row * t.header.counts.positions) 0)))
  begin_marked =
      ends_as
      (begin_ends t.seeds t.header.counts.positions (seeds_good g record { one = λ _ _. none; two = λ _ _ _. none } (blank t.header.counts.positions) room) t.header.budget.statistics.entries
      (beginning (entry t.header.budget t.header.counts.thresholds t.thresholds) (blank t.header.counts.positions) (replicate (size.growth_row * t.header.counts.positions) 0)) g.reached.rises numbers few room.0 room.1 refl)
      (λ _ b h. ended_marked (entry t.header.budget t.header.counts.thresholds t.thresholds) b.entry few h.1) (λ _ _ _. tt)
    where
      room : Room t.header.counts.positions (blank t.header.counts.positions)
      room = (rw (length-replicate {A = ℕ} (value_row * t.header.counts.positions) 0) (omega arith), blank_formed (value_row * t.header.counts.positions))

-- ---- and what widening then does

module _ {thresholds : List ℤ} (m : Marked thresholds) where
  pub run_widens : (previous next : Interval) (g : Growth) → Ensures (ByRule thresholds previous next g) (widen thresholds previous next g)
  run_widens previous next g = widen_by_rule thresholds previous next g m.rising

  -- "later it moves to the nearest threshold at or beyond it", of an end of 32 bits
  pub late_nearest : (s : Which) {old new z : ℤ} {n : ℕ} → Number new → Placed s thresholds old new n z → Grows s old new → 2 ≤ n → Nearest s thresholds new z
  late_nearest s h k grows often = moves_nearest s m.least m.greatest h (k.late grows often)
