-- `widened` counts the arguments that lose their list, and in an ascent none gets one back: a pass counts exactly as many as it leaves without one
-- more than before, so that an ascent counts at most as many as there are arguments.
use Prim.Native.Nat.{ℕ, zero, suc, min, ◌+◌, ◌-◌, ◌*◌, ◌≤◌, ◌<◌, ◌^◌}
use native.Mathlib.Omega.{arith}
use native.Mathlib.Numerals.{add-one}
use mathlib.Core.Path.{◌≡◌, refl, ap, ◌∙◌}
use mathlib.Core.Bool.{Bool, true, false, cond, ◌||◌}
use mathlib.Core.List.{List}
use lib.IntN.{ℤ}
use lib.ListN.{length, length-replicate}
use Rattle.limits.specs.declared.Stop.{Stop}
use Rattle.limits.specs.declared.Budget.{Budget}
use Rattle.limits.specs.declared.Meter.{Meter}
use Rattle.limits.specs.Metered.{Run, going, stopped}
use Rattle.limits.specs.Meter.{work, meter_of, with_meter}
use Rattle.limits.specs.Budget.{released}
use Rattle.limits.specs.Context.{Context}
use Rattle.limits.proofs.Monad.{Holds, Ensures, weaken, any_value, bind, then}
use Rattle.limits.proofs.Ends.{Ends, completes, stops, ends_pure, ends_as, on_bind}
use Rattle.lattice.specs.Value.{Value}
use Rattle.lattice.specs.Lattice.{loses}
use Rattle.lattice.proofs.Joins.{join_list}
use Rattle.sizes.specs.Sizes.{value_row}
use Rattle.integers.proofs.Totals.{total}
use Rattle.rows.specs.Row.{value_at, put, moved}
use Rattle.rows.proofs.RowLaws.{length_put}
use Rattle.rows.proofs.Lost.{lost, lost_in, lost_step, lost_in_more, lost_in_most, lost_in_put}
use Rattle.slots.specs.Slots.{blank}
use Rattle.slots.specs.Slots as slots
use Rattle.slots.proofs.Moved.{length_moved}
use Rattle.widening.specs.declared.Growth.{Growth}
use Rattle.widening.specs.Widening.{growth_at, put_growth}
use Rattle.rounds.specs.Round.{Given, course, candidates}
use Rattle.rounds.proofs.Pays.{candidates_same}
use Rattle.passes.specs.Step.{Grown, grow, Steps, steps, count_lost, advanced, advance_one, advance}
use Rattle.passes.specs.Pass.{Ascent, ascent, replaced, renew, pass, ascend}
use Rattle.passes.proofs.Growing.{widened}
use Rattle.passes.proofs.Ascending.{ascend_ends}

-- the largest number that is counted
abbrev pub most : ℕ
most = 2 ^ 64 - 1

-- from a budget and a table of n values to later ones: as many more have no list as have been counted
pub record Counted (n : ℕ) (b : Budget) (cells : List ℕ) (b' : Budget) (cells' : List ℕ) : Type 0 where
  pub more : ℕ
  pub lost : lost_in cells' n ≡ lost_in cells n + more
  pub widened : b'.statistics.widened ≡ min (b.statistics.widened + more) most

-- to where a pass is stopped: the next values are gone, and no more have been counted than had a list
pub record Broken (n : ℕ) (b : Budget) (cells : List ℕ) (b' : Budget) : Type 0 where
  pub more : ℕ
  pub few : lost_in cells n + more ≤ n
  pub widened : b'.statistics.widened ≡ min (b.statistics.widened + more) most

min_more : (w k j m : ℕ) → min (min (w + k) m + j) m ≡ min (w + (k + j)) m
min_more w k j m = omega arith

min_none : (w m : ℕ) → w ≤ m → w ≡ min (w + 0) m
min_none w m h = omega arith

min_below : (w m : ℕ) → min w m ≤ m
min_below w m = omega arith

module _ (n : ℕ) (b : Budget) (cells : List ℕ) where
  counted_none : b.statistics.widened ≤ most → Counted n b cells b cells
  counted_none h = record { more = 0; lost = omega arith; widened = min_none b.statistics.widened most h }

  module _ {c : Budget} {cells' : List ℕ} (h : Counted n b cells c cells') where
    counted_below : c.statistics.widened ≤ most
    counted_below = rw h.widened (min_below (b.statistics.widened + h.more) most)

    counted_more : {d : Budget} {cells'' : List ℕ} → Counted n c cells' d cells'' → Counted n b cells d cells''
    counted_more k = record {
      more = h.more + k.more;
      lost = omega (arith, h.lost, k.lost);
      widened = k.widened ∙ rw h.widened (min_more b.statistics.widened h.more k.more most);
    }

    counted_broken : {d : Budget} → Broken n c cells' d → Broken n b cells d
    counted_broken k = record {
      more = h.more + k.more;
      few = omega (arith, h.lost, k.few);
      widened = k.widened ∙ rw h.widened (min_more b.statistics.widened h.more k.more most);
    }

    -- no more than there are arguments
    pub counted_few : c.statistics.widened ≤ b.statistics.widened + n
    counted_few = rw h.widened (few b.statistics.widened h.more most (omega (arith, h.lost, lost_in_most cells' n)))
      where
        few : (w k m : ℕ) → k ≤ n → min (w + k) m ≤ w + n
        few w k m l = omega arith

    -- and where the largest number is as far off, exactly as many as have lost their list
    pub counted_exact : b.statistics.widened + n ≤ most → c.statistics.widened + lost_in cells n ≡ b.statistics.widened + lost_in cells' n
    counted_exact l = rw (h.widened, h.lost) (exact b.statistics.widened h.more most (lost_in cells n) (omega (arith, h.lost, lost_in_most cells' n)))
      where
        exact : (w k m a : ℕ) → w + k ≤ m → min (w + k) m + a ≡ w + (a + k)
        exact w k m a l = omega arith

-- ---- one argument

module _ (width : ℕ) (thresholds : List ℤ) (old candidate : Value) (g : Growth) where
  abbrev Follows : Value → Type 0
  Follows v = lost old.values + cond (loses old.values v.values) 1 0 ≡ lost v.values

  grow_lost : Ensures (λ w. Follows w.value) (grow width thresholds old candidate g)
  unfolding grow
  grow_lost =
      then (work 1)
      (bind (join_list width old candidate)
      (λ v e. widened width thresholds old candidate g (λ w. Follows w.value) v (weaken (λ w _ t. rw e (lost_step width old.values candidate.values)) (any_value _))))

-- ---- the arguments of a pass

module _ (n : ℕ) (thresholds : List ℤ) (current cs : List ℕ) (b : Budget) where
  -- k of them are done
  record Sofar (k : ℕ) (s : Steps) : Type 0 where
    more : ℕ
    lost : lost_in s.next k ≡ lost_in current k + more
    widened : s.budget.statistics.widened ≡ min (b.statistics.widened + more) most
    room : value_row * n ≤ length s.next

  one_counts : (k : ℕ) → k < n → (s : Steps) → Sofar k s → (x : Run Stop Meter Grown) → Holds (λ g. lost (value_at current k).values + cond (loses (value_at current k).values g.value.values) 1 0 ≡ lost g.value.values) x →
      Ends (λ _ t. Sofar (k + 1) t) (λ _ t. Sofar k t) (advanced k (value_at current k) s x)
  unfolding total
  one_counts k l s h (going g m) e =
      let d = lost_in_put s.next k g.value (omega (arith, h.room)) in
      completes {a = g.changed}
      {s = steps (count_lost (loses (value_at current k).values g.value.values) (with_meter m s.budget)) (put s.next k g.value) (put_growth s.growth k g.growth)}
      record {
        more = h.more + cond (loses (value_at current k).values g.value.values) 1 0;
        lost = rw (add-one k) (omega (arith, h.lost));
        widened = go (loses (value_at current k).values g.value.values);
        room = rw (length_put s.next k g.value) h.room;
      }
    where
      go : (t : Bool) → (count_lost t (with_meter m s.budget)).statistics.widened ≡ min (b.statistics.widened + (h.more + cond t 1 0)) most
      go true = ap (λ (w : ℕ). min (w + 1) most) h.widened ∙ min_more b.statistics.widened h.more 1 most
      go false = h.widened ∙ (let e : b.statistics.widened + h.more ≡ b.statistics.widened + (h.more + 0) = omega arith in ap (λ (w : ℕ). min w most) e)
  one_counts k l s h (stopped x m) e = stops {s = steps (with_meter m s.budget) s.next s.growth} record { more = h.more; lost = h.lost; widened = h.widened; room = h.room }

  broken : (k : ℕ) → k ≤ n → (s : Steps) (c : Budget) → c.statistics.widened ≡ s.budget.statistics.widened → Sofar k s → Broken n b current c
  broken k l s c e h =
      let z : k + (n - k) ≡ n = omega arith in
      let d = ap (lost_in current) z in
      record { more = h.more; few = omega (arith, h.lost, lost_in_more current k (n - k), lost_in_most s.next k); widened = e ∙ h.widened }

  advance_counts : (k j : ℕ) → k + j ≡ n → (changed : Bool) (s : Steps) → Sofar k s → Ends (λ _ t. Sofar n t) (λ _ t. Broken n b current t.budget) (advance thresholds current cs k j changed s)
  unfolding advance advance_one
  advance_counts k zero e changed s h = let d : k ≡ n = omega arith in ends_pure changed s (rw d at h)
  advance_counts k (suc j) e changed s h =
      on_bind _ _ _ _ (advance_one thresholds current cs k) (λ moved. advance thresholds current cs (k + 1) j (changed || moved)) s
      (one_counts k (omega arith) s h (grow s.budget.limits.width thresholds (value_at current k) (value_at cs k) (growth_at s.growth k) (meter_of s.budget))
      ((grow_lost s.budget.limits.width thresholds (value_at current k) (value_at cs k) (growth_at s.growth k)).at (meter_of s.budget)))
      (λ moved t q. advance_counts (k + 1) j (omega arith) (changed || moved) t q)
      (λ x t q. broken k (omega arith) t (released (slots.total t.next k) t.budget) refl q)

-- ---- a pass

-- the values that are moved into another table keep their lists
lost_in_moved : (from to : List ℕ) (n : ℕ) → value_row * n ≤ length to → lost_in (moved from n to) n ≡ lost_in from n
unfolding moved total
lost_in_moved from to zero h = refl
lost_in_moved from to (suc n) h =
    let e = lost_in_put (moved from n to) n (value_at from n) (omega (arith, length_moved from to n)) in
    let d = lost_in_moved from to n (omega arith) in
    omega arith

module _ (n : ℕ) (s : Ascent) where
  abbrev Room : Ascent → Type 0
  Room t = value_row * n ≤ length t.current

  -- what is left where a pass, or some, complete
  abbrev pub Counts : Ascent → Type 0
  Counts t = Counted n s.budget s.current t.budget t.current × Room t

  abbrev pub Breaks : Ascent → Type 0
  Breaks t = Broken n s.budget s.current t.budget

module _ (n : ℕ) (thresholds : List ℤ) (cs current growth : List ℕ) (b : Budget) (c : Context) (below : b.statistics.widened ≤ most) (room : value_row * n ≤ length current) where
  renew_counts : Ends (λ _ t. Counted n b current t.budget t.current × (value_row * n ≤ length t.current)) (λ _ t. Broken n b current t.budget) (renew n thresholds cs (ascent b c current growth))
  unfolding renew total
  renew_counts = go (advance_counts n thresholds current cs b 0 n (omega arith) false (steps b (blank n) growth) begins)
    where
      begins : Sofar n thresholds current cs b 0 (steps b (blank n) growth)
      begins = record { more = 0; lost = refl; widened = min_none b.statistics.widened most below; room = omega (arith, length-replicate {A = ℕ} (value_row * n) 0) }

      go : {x : Run Stop Steps Bool} → Ends (λ _ t. Sofar n thresholds current cs b n t) (λ _ t. Broken n b current t.budget) x →
          Ends (λ _ t. Counted n b current t.budget t.current × (value_row * n ≤ length t.current)) (λ _ t. Broken n b current t.budget) (replaced n cs (ascent b c current growth) x)
      go (completes {a = changed} {s = t} h) =
          completes {a = changed} {s = ascent (released (slots.total current n) (released (slots.total cs n) t.budget)) c (moved t.next n current) t.growth}
          (record { more = h.more; lost = lost_in_moved t.next current n room ∙ h.lost; widened = h.widened }, rw (length_moved t.next current n) room)
      go (stops {e = x} {s = t} h) = stops {s = ascent (released (slots.total cs n) t.budget) c current t.growth} (record { more = h.more; few = h.few; widened = h.widened })

module _ (g : Given) (thresholds : List ℤ) where
  pub pass_counts : (s : Ascent) → s.budget.statistics.widened ≤ most → Room g.positions s s → Ends (λ _ t. Counts g.positions s t) (λ _ t. Breaks g.positions s t) (pass g thresholds s)
  unfolding pass
  pass_counts s below room =
      on_bind _ _ _ _ (candidates g s.current) (renew g.positions thresholds) s (candidates_same g s.current (course s.budget s.context))
      (λ cs c h.
      ends_as (renew_counts g.positions thresholds cs s.current s.growth c.budget c.context (rw h below) room)
      (λ a t k. (record { more = k.0.more; lost = k.0.lost; widened = rw h at k.0.widened }, k.1))
      (λ e t k. record { more = k.more; few = k.few; widened = rw h at k.widened }))
      (λ e c h. record { more = 0; few = omega (arith, lost_in_most s.current g.positions); widened = h ∙ min_none s.budget.statistics.widened most below })

  -- ---- the ascent

  pub ascend_counts : (s : Ascent) → s.budget.statistics.widened ≤ most → Room g.positions s s → Ends (λ _ t. Counts g.positions s t) (λ _ t. Breaks g.positions s t) (ascend g thresholds s)
  ascend_counts s below room =
      ends_as (ascend_ends g thresholds (Counts g.positions s) (λ _. Unit {0}) (λ _ t. Breaks g.positions s t) each s (counted_none g.positions s.budget s.current below, room)) (λ _ t k. k.0) (λ _ t k. k)
    where
      each : (t : Ascent) → Counts g.positions s t → Ends (λ changed u. Counts g.positions s u × (changed ≡ false → Unit {0})) (λ _ u. Breaks g.positions s u) (pass g thresholds t)
      each t p =
          ends_as (pass_counts t (counted_below g.positions s.budget s.current p.0) p.1)
          (λ a u k. ((counted_more g.positions s.budget s.current p.0 k.0, k.1), λ _. tt)) (λ e u k. counted_broken g.positions s.budget s.current p.0 k)

  -- however an ascent ends, it counts at most as many as there are arguments
  pub ascend_few : (s : Ascent) → s.budget.statistics.widened ≤ most → Room g.positions s s →
      Ends (λ _ t. t.budget.statistics.widened ≤ s.budget.statistics.widened + g.positions) (λ _ t. t.budget.statistics.widened ≤ s.budget.statistics.widened + g.positions) (ascend g thresholds s)
  ascend_few s below room =
      ends_as (ascend_counts s below room) (λ _ t k. counted_few g.positions s.budget s.current k.0)
      (λ _ t k. rw k.widened (few s.budget.statistics.widened k.more most (omega (arith, k.few))))
    where
      few : (w k m : ℕ) → k ≤ g.positions → min (w + k) m ≤ w + g.positions
      few w k m l = omega arith
