-- One argument of a pass: its new value has all that the old one and the candidate have, and where it is not changed no more than the old one.
use Prim.Native.Nat.{ℕ}
use mathlib.Core.Path.{◌≡◌, refl}
use mathlib.Core.Logic.{◌⊎◌, ◌↔◌}
use mathlib.Core.Bool.{Bool, true, false, not}
use mathlib.Core.List.{List}
use mathlib.Core.Option.{Option, some, none}
use lib.IntN.{ℤ}
use Rattle.integers.specs.Order.{Number}
use Rattle.integers.specs.Lists.{All}
use Rattle.limits.specs.Meter.{work}
use Rattle.limits.proofs.Monad.{Ensures, weaken, by_pure, by_through, any_value, bind, then, Steady, steady_pure, steady_unit, steady_bind, steady_then, steady_through}
use Rattle.limits.proofs.Live.{Lives, live_pure, live_as, live_bind, live_then, live_work, live_beside}
use Rattle.interval.specs.declared.Interval.{Interval}
use Rattle.interval.specs.Cousot.{◌∋◌}
use Rattle.interval.specs.Interval.{cousot}
use Rattle.lattice.specs.Value.{Value}
use Rattle.lattice.proofs.Members.{InBound, In, join_in, same_in}
use Rattle.lattice.proofs.LiveLaws.{join_lives, same_lives}
use Rattle.lattice.proofs.Steadiness.{join_steady, same_steady}
use Rattle.rows.specs.Row.{entries_of}
use Rattle.rows.specs.WellFormed.{Proper}
use Rattle.rows.proofs.RowLaws.{size_is}
use Rattle.rows.proofs.Good.{Good, join_good}
use Rattle.widening.specs.declared.Growth.{Growth}
use Rattle.widening.specs.Widening.{widen}
use Rattle.widening.proofs.Rule.{widen_contains, widen_proper, widen_steady, widen_lives}
use Rattle.passes.specs.Step.{Grown, grown, within, with_change, widen_value, grow}

-- ---- a wider interval

within_good : (i : Interval) (v : Value) → Proper i → Good v → Good (within i v)
within_good i v p g = record { formed = record { interval = p; list = g.formed.list }; tidy = record { sorted = g.tidy.sorted; small = g.tidy.small } }

module _ {K : Type 0} (num : K → Option ℤ) (Key : ℕ → K → Type 0) where
  within_in : (i : Interval) (v : Value) (k : K) → ((n : ℤ) → cousot v.bound.interval ∋ n → cousot i ∋ n) → In num Key v k → In num Key (within i v) k
  within_in i v k f h = record { bound = go (num k) h.bound; list = h.list }
    where
      go : (o : Option ℤ) → InBound o v.bound → InBound o (within i v).bound
      go none p = p
      go (some n) p = f n p

module _ (width : ℕ) (thresholds : List ℤ) (old candidate : Value) (g : Growth) where
  -- what is made of the joined value, whatever it is compared with
  pub widened : (P : Grown → Type 0) (v : Value) → Ensures (λ w. (t : Bool) → P (grown (within w.interval v) w.growth t)) (widen thresholds old.bound.interval v.bound.interval g) → Ensures P (widen_value thresholds old v g)
  unfolding widen_value with_change
  widened P v h = bind (by_through _ _ _ _ _ h) (λ w p. bind (any_value _) (λ s _. by_pure _ (p (not s))))

  pub grow_good : All Number thresholds → Good old → Good candidate → Ensures (λ w. Good w.value) (grow width thresholds old candidate g)
  unfolding grow
  grow_good numbers p q =
      then (work 1)
      (bind (join_good width old candidate p q)
      (λ v r. widened (λ w. Good w.value) v (weaken (λ w p' s. within_good w.interval v p' r) (widen_proper thresholds old.bound.interval v.bound.interval g numbers r.formed.interval))))

  module _ {K : Type 0} (num : K → Option ℤ) (Key : ℕ → K → Type 0) (k : K) where
    pub grow_in : In num Key old k ⊎ In num Key candidate k → Ensures (λ w. In num Key w.value k) (grow width thresholds old candidate g)
    unfolding grow
    grow_in h =
        then (work 1)
        (bind (join_in num Key width old candidate k h)
        (λ v i. widened (λ w. In num Key w.value k) v (weaken (λ w c s. within_in num Key w.interval v k c i) (widen_contains thresholds old.bound.interval v.bound.interval g))))

    pub grow_same : Ensures (λ w. w.changed ≡ false → (In num Key old k ↔ In num Key w.value k)) (grow width thresholds old candidate g)
    unfolding grow widen_value with_change
    grow_same =
        then (work 1)
        (bind (any_value _) (λ v _. bind (any_value _) (λ w _. bind (by_through _ _ _ _ _ (same_in num Key old (within w.interval v) k)) (λ s f. by_pure _ (λ e. f (was_true s e))))))
      where
        was_true : (s : Bool) → not s ≡ false → s ≡ true
        was_true true e = refl
        was_true false e = cc

  pub grow_lives : Lives 0 (λ w. entries_of w.value) (grow width thresholds old candidate g)
  unfolding grow widen_value with_change
  grow_lives =
      live_then (live_work 1)
      (live_bind (live_as size_is (join_lives width old candidate))
      (λ v.
      live_bind (live_beside (entries_of v) (widen_lives thresholds old.bound.interval v.bound.interval g))
      (λ w. live_bind (live_beside (entries_of v) (same_lives old (within w.interval v))) (λ s. live_pure (entries_of v) _ refl))))

  pub grow_steady : Steady (grow width thresholds old candidate g)
  unfolding grow widen_value with_change
  grow_steady =
      steady_then (steady_unit (work 1))
      (steady_bind (join_steady width old candidate)
      (λ v.
      steady_bind (steady_through _ _ _ _ (widen_steady thresholds old.bound.interval v.bound.interval g))
      (λ w. steady_bind (steady_through _ _ _ _ (same_steady old (within w.interval v))) (λ s. steady_pure _))))
