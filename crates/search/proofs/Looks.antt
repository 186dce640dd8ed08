-- A search charges at most one unit of work for each of its turns, whatever it searches.
use Prim.Native.Nat.{ℕ, zero, suc, ◌+◌, ◌≤◌}
use native.Mathlib.Omega.{arith}
use mathlib.Core.Bool.{Bool, true, false, cond}
use lib.Dec.{ltb, leb}
use Rattle.std.proofs.Common.{Result, Ok, Err}
use Rattle.limits.specs.declared.Stop.{Stop}
use Rattle.limits.specs.declared.Meter.{Meter}
use Rattle.limits.specs.declared.Resource.TheVariants.{Work}
use Rattle.limits.specs.Charge.{stop_of, charge_of}
use Rattle.limits.specs.Meter.{work, charged, with_work}
use Rattle.limits.specs.Metered.{Run, going, stopped, Metered, answered, after, pure, ◌>>=◌, ◌>>◌}
use Rattle.std.specs.declared.cmp.Ordering.{Ordering}
use Rattle.std.specs.declared.cmp.Ordering.TheVariants.{Less, Equal, Greater}
use Rattle.search.specs.Seek.{Place, by, middle, seek}

module _ {A : Type 0} where
  -- the work that stands afterwards is at most n
  abbrev pub AtMost : ℕ → Run Stop Meter A → Type 0
  AtMost n (going a m) = m.work ≤ n
  AtMost n (stopped s m) = m.work ≤ n

  pub at_most_more : {n o : ℕ} → n ≤ o → (x : Run Stop Meter A) → AtMost n x → AtMost o x
  at_most_more h (going a m) k = omega arith
  at_most_more h (stopped s m) k = omega arith

  -- of the code's answer and the meter that it leaves
  pub at_most_left : {n : ℕ} (r : Result A Stop) (m : Meter) → AtMost n (answered r m) → m.work ≤ n
  at_most_left (Ok a) m h = h
  at_most_left (Err s) m h = h

one_charged : (m : Meter) (t : Bool) (s : Stop) → AtMost (m.work + 1) (charged (λ n. with_work n m) m (cond t (Ok (m.work + 1)) (Err s)))
one_charged m true s = omega arith
one_charged m false s = omega arith

one : (m : Meter) → AtMost (m.work + 1) (work 1 m)
unfolding work charge_of
one m = one_charged m (leb (m.work + 1) m.max_work) (stop_of Work m.max_work (m.work + 1))

module _ {A B : Type 0} where
  pub at_most_after : {n o : ℕ} (f : A → Metered Stop Meter B) (x : Run Stop Meter A) → n ≤ o → AtMost n x → ((a : A) (m : Meter) → m.work ≤ n → AtMost o (f a m)) → AtMost o (after x f)
  unfolding after
  at_most_after f (going a m) l h k = k a m h
  at_most_after f (stopped s m) l h k = omega arith

by_at_most : (o : Ordering) (n : ℕ) (m : Meter) (x y z : Metered Stop Meter Place) → AtMost n (x m) → AtMost n (y m) → AtMost n (z m) → AtMost n (by o x y z m)
by_at_most Less n m x y z p q r = p
by_at_most Equal n m x y z p q r = q
by_at_most Greater n m x y z p q r = r

test_at_most : (t : Bool) (n : ℕ) (m : Meter) (x y : Metered Stop Meter Place) → AtMost n (x m) → AtMost n (y m) → AtMost n (cond t x y m)
test_at_most true n m x y p q = p
test_at_most false n m x y p q = q

pub seek_at_most : (probe : ℕ → Ordering) (turns low high : ℕ) (m : Meter) → AtMost (m.work + turns) (seek probe turns low high m)
unfolding seek pure ◌>>=◌ ◌>>◌
seek_at_most probe zero low high m = omega arith
seek_at_most probe (suc f) low high m =
    test_at_most (ltb low high) _ m _ _
    (at_most_after _ (work 1 m) (omega arith) (one m)
    (λ _ m' h.
    by_at_most (probe (middle low high)) _ m' _ _ _
    (at_most_more (omega arith) _ (seek_at_most probe f (middle low high + 1) high m')) (omega arith)
    (at_most_more (omega arith) _ (seek_at_most probe f low (middle low high) m'))))
    (omega arith)
