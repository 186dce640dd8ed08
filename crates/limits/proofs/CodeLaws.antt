-- What the code's answers are, over plain variables: each way out of `charge`, and of the charges of a meter and of a budget.
use Prim.Native.Nat.{ℕ, ◌+◌, ◌*◌, ◌/◌, ◌%◌, ◌^◌, ◌<◌, ◌≤◌}
use native.Mathlib.Omega.{arith}
use mathlib.Core.Path.{◌≡◌, refl, ◌∙◌}
use Rattle.std.proofs.Common.{Result, Ok, Err, is_err}
use mathlib.Core.Bool.{true, false}
use borrow.Author.Tests.{le-leb, lt-leb}
use Rattle.limits.specs.declared.Resource.{Resource}
use Rattle.limits.specs.declared.Resource.TheVariants.{Work, ValueEntries}
use Rattle.limits.specs.declared.Stop.{Stop}
use Rattle.limits.specs.declared.Statistics.{Statistics}
use Rattle.limits.specs.declared.Budget.{Budget}
use Rattle.limits.specs.Charge.{charge_of, stored, counting, units_of}
use Rattle.limits.proofs.Answering.{answered_through}
use Rattle.limits.proofs.Units.{units_are}
use Rattle.limits.specs.Records.{limit_of, count_of, with_count, with_statistics}
use Rattle.limits.specs.Metered.{going, stopped, Metered, answered, mapped, through}
use Rattle.limits.specs.Budget.{charge}
use Rattle.limits.specs.declared.Meter.{Meter}
use Rattle.limits.specs.Meter.{dropping}
use Rattle.limits.specs.Meter as inner

module _ (r : Resource) (old amount limit : ℕ) where
  -- the halves of a sum over the limit
  pub sum_over : (high low : ℕ) → limit < old + amount → old + amount ≡ high * 2 ^ 64 + low → low < 2 ^ 64 →
      ◌≡◌ {A = Result ℕ Stop} (Err (record { resource = r; limit = limit; high = high; low = low })) (charge_of r old amount limit)
  unfolding charge_of
  sum_over high low p q b =
      let e₁ : (old + amount) / 2 ^ 64 ≡ high = omega arith in
      let e₂ : (old + amount) % 2 ^ 64 ≡ low = omega arith in
      rw (lt-leb (old + amount) limit p, e₁, e₂)

  pub sum_within : old + amount ≤ limit → ◌≡◌ {A = Result ℕ Stop} (Ok (old + amount)) (charge_of r old amount limit)
  unfolding charge_of
  sum_within p = rw (le-leb (old + amount) limit p)

-- ---- while entries are live that go whichever way it ends

module _ {A : Type 0} (n : ℕ) (c : Metered Stop Meter A) (m : Meter) where
  pub drop_on : {a : A} {m' : Meter} → going a m' ≡ c m → going a (inner.released n m') ≡ dropping n c m
  unfolding through mapped
  drop_on h = rw (← h)

  pub drop_stop : {s : Stop} {m' : Meter} → stopped s m' ≡ c m → stopped s (inner.released n m') ≡ dropping n c m
  unfolding through mapped
  drop_stop h = rw (← h)

-- ---- a count of a meter, charged in place

module _ (amount : ℕ) (m : Meter) (r : Result (Unit {0}) Stop) (n : ℕ) where
  pub work_done : answered r n ≡ counting Work m.max_work amount m.work → answered r (inner.with_work n m) ≡ inner.work amount m
  unfolding inner.work through mapped
  work_done h = answered_through (λ m. m.work) (λ m k. inner.with_work k m) (counting Work m.max_work amount) m r n h ∙ go (charge_of Work m.work amount m.max_work)
    where
      go : (x : Result ℕ Stop) → mapped (λ k. inner.with_work k m) (λ k. inner.with_work k m) (λ e. e) (stored m.work x) ≡ inner.charged (λ k. inner.with_work k m) m x
      go (Ok k) = refl
      go (Err e) = refl

  pub retain_done : answered r n ≡ counting ValueEntries m.max_entries amount m.entries → answered r (inner.with_entries n m) ≡ inner.retain amount m
  unfolding inner.retain through mapped
  retain_done h = answered_through (λ m. m.entries) (λ m k. inner.with_entries k m) (counting ValueEntries m.max_entries amount) m r n h ∙ go (charge_of ValueEntries m.entries amount m.max_entries)
    where
      go : (x : Result ℕ Stop) → mapped (λ k. inner.with_entries k m) (λ k. inner.with_entries k m) (λ e. e) (stored m.entries x) ≡ inner.charged (λ k. inner.with_entries k m) m x
      go (Ok k) = refl
      go (Err e) = refl

  pub units_done : answered r n ≡ units_of Work m.max_work amount m.work → answered r (inner.with_work n m) ≡ inner.units amount m
  unfolding through mapped
  units_done h = answered_through (λ m. m.work) (λ m k. inner.with_work k m) (units_of Work m.max_work amount) m r n h ∙ units_are amount m

-- what a step answered, while entries are held
module _ {A : Type 0} (held : ℕ) (m : Meter) where
  pub held_lost : (x : Result A Stop) → is_err x ≡ true → {m' : Meter} → m' ≡ inner.released held m → answered x m' ≡ inner.held_through held x m
  unfolding mapped
  held_lost (Ok a) h e = let z : ◌≡◌ {A = ℕ} 0 1 = cc in absurd (omega arith)
  held_lost (Err s) h e = rw e

  pub held_kept : (x : Result A Stop) → is_err x ≡ false → answered x m ≡ inner.held_through held x m
  unfolding mapped
  held_kept (Ok a) h = refl
  held_kept (Err s) h = let z : ◌≡◌ {A = ℕ} 0 1 = cc in absurd (omega arith)

-- ---- a budget, charged in place

module _ (r : Resource) (amount : ℕ) (b : Budget) {count limit : ℕ} (c : count ≡ count_of r b.statistics) (l : limit ≡ limit_of r b.limits) where
  pub pay_paid : {n : ℕ} {s : Statistics} → charge_of r count amount limit ≡ Ok n → s ≡ with_count r n b.statistics → going tt (with_statistics s b) ≡ charge r amount b
  unfolding charge
  pay_paid h p = rw (p, ← c, ← l, h)

  pub pay_stopped : {s : Stop} → charge_of r count amount limit ≡ Err s → stopped s b ≡ charge r amount b
  unfolding charge
  pay_stopped h = rw (← c, ← l, h)
