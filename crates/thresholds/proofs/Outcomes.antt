-- What `enter` leaves, in three ways: the number stood already, it is new, or a charge was refused. All else about it follows from these.
use Prim.Native.Nat.{ℕ, ◌+◌, ◌-◌, ◌≤◌, ◌<◌}
use native.Mathlib.Omega.{arith}
use Rattle.std.proofs.Common.{Result, Ok, Err}
use mathlib.Core.Path.{◌≡◌, refl, sym, subst, ◌∙◌}
use mathlib.Core.Bool.{Bool, true, false, cond}
use lib.IntN.{ℤ}
use Rattle.integers.specs.Order.{number?}
use Rattle.integers.specs.Lists.{inserted}
use Rattle.limits.specs.declared.Resource.TheVariants.{Work, Links}
use Rattle.limits.specs.declared.Stop.{Stop}
use Rattle.limits.specs.declared.Budget.{Budget}
use Rattle.limits.specs.Charge.{charge_of}
use Rattle.limits.specs.Records.{count_of, limit_of}
use Rattle.limits.specs.Metered.{Run, going, stopped, pure, after, ◌>>=◌, ◌>>◌, through, mapped}
use Rattle.limits.specs.Budget.{charge, charged, links}
use Rattle.limits.specs.declared.Meter.{Meter}
use Rattle.limits.specs.Meter.{meter_of, with_meter}
use Rattle.limits.proofs.Monad.{Holds, for_all}
use Rattle.limits.proofs.Live.{LiveIn}
use Rattle.std.specs.declared.cmp.Ordering.{Ordering}
use Rattle.search.proofs.Live.{seek_lives}
use Rattle.search.specs.Seek.{Place, found, absent, seek}
use Rattle.search.proofs.Complete.{Rising, Ends, Within, search_ends, enough, seek_within}
use Rattle.thresholds.specs.Thresholds.{Entry, entry, against, seek_number, cost, insert, settle, enter, enter_number}

-- all that the two budgets share: the limits, and every count but work and links
pub record Charging (b c : Budget) : Type 0 where
  pub limits : c.limits ≡ b.limits
  pub predicates : c.statistics.predicates ≡ b.statistics.predicates
  pub positions : c.statistics.positions ≡ b.statistics.positions
  pub entries : c.statistics.entries ≡ b.statistics.entries
  pub rounds : c.statistics.rounds ≡ b.statistics.rounds
  pub bytes : c.statistics.bytes ≡ b.statistics.bytes
  pub widened : c.statistics.widened ≡ b.statistics.widened

pub charging_none : (b : Budget) → Charging b b
charging_none b = record { limits = refl; predicates = refl; positions = refl; entries = refl; rounds = refl; bytes = refl; widened = refl }

pub charging_more : {a b c : Budget} → Charging a b → Charging b c → Charging a c
charging_more h k = record {
  limits = k.limits ∙ h.limits;
  predicates = k.predicates ∙ h.predicates;
  positions = k.positions ∙ h.positions;
  entries = k.entries ∙ h.entries;
  rounds = k.rounds ∙ h.rounds;
  bytes = k.bytes ∙ h.bytes;
  widened = k.widened ∙ h.widened;
}

pub data Leaves (v : ℤ) (s : Entry) : Run Stop Entry (Unit {0}) → Type 0 where
  standing : {i : ℕ} {b : Budget} → Charging s.budget b → i < s.count → (Rising (against s.table v) s.count → Ends (against s.table v) s.count (found i)) →
      Leaves v s (going tt (entry b s.count s.table))
  new : {low : ℕ} {b : Budget} → Charging s.budget b → low ≤ s.count → (Rising (against s.table v) s.count → Ends (against s.table v) s.count (absent low)) →
      Leaves v s (going tt (entry b (s.count + 1) (inserted s.table low s.count v)))
  refused : {e : Stop} {b : Budget} → Charging s.budget b → Leaves v s (stopped e (entry b s.count s.table))

-- ---- the charges

abbrev Charges : Budget → Run Stop Budget (Unit {0}) → Type 0
Charges b (going a c) = Charging b c
Charges b (stopped e c) = Charging b c

work_charges : (b : Budget) (x : Result ℕ Stop) → Charges b (charged Work b x)
work_charges b (Ok n) = record { limits = refl; predicates = refl; positions = refl; entries = refl; rounds = refl; bytes = refl; widened = refl }
work_charges b (Err e) = charging_none b

links_charges : (b : Budget) (x : Result ℕ Stop) → Charges b (charged Links b x)
links_charges b (Ok n) = record { limits = refl; predicates = refl; positions = refl; entries = refl; rounds = refl; bytes = refl; widened = refl }
links_charges b (Err e) = charging_none b

cost_charges : (n : ℕ) (b : Budget) → Charges b (cost n b)
unfolding cost charge ◌>>◌ ◌>>=◌ after
cost_charges n b = let x = charge_of Work (count_of Work b.statistics) n (limit_of Work b.limits) in go (charged Work b x) (work_charges b x)
  where
    second : {c : Budget} → Charging b c → (x : Result ℕ Stop) → Charges c (charged Links c x) → Charges b (charged Links c x)
    second h (Ok n) k = charging_more h k
    second h (Err e) k = charging_more h k

    go : (x : Run Stop Budget (Unit {0})) → Charges b x → Charges b (after x (λ _. links 1))
    go (going a c) h =
        let x = charge_of Links (count_of Links c.statistics) 1 (limit_of Links c.limits) in
        second h x (links_charges c x)
    go (stopped e c) h = h

-- ---- the three ways

module _ (v : ℤ) (s : Entry) where
  abbrev probe : ℕ → Ordering
  probe = against s.table v

  abbrev Known : Place → Type 0
  Known p = Rising probe s.count → Ends probe s.count p

  paid : {low : ℕ} {b : Budget} → Charging s.budget b → low ≤ s.count → Known (absent low) → (x : Run Stop Budget (Unit {0})) → Charges b x →
      Leaves v s (after (mapped (λ c. entry c s.count s.table) (λ c. entry c s.count s.table) (λ e. e) x) (λ _. insert low v))
  unfolding after mapped insert
  paid h k l (going a c) q = new (charging_more h q) k l
  paid h k l (stopped e c) q = refused (charging_more h q)

  settled : (p : Place) {b : Budget} → Charging s.budget b → Within s.count p → Known p → Leaves v s (settle v s.count p (entry b s.count s.table))
  unfolding settle pure ◌>>◌ ◌>>=◌ through
  settled (found i) h k l = standing h k l
  settled (absent low) {b} h k l = paid h k l (cost (s.count - low + 1) b) (cost_charges (s.count - low + 1) b)

  metering : (m : Meter) → m.entries ≡ s.budget.statistics.entries → Charging s.budget (with_meter m s.budget)
  metering m e = record { limits = refl; predicates = refl; positions = refl; entries = e; rounds = refl; bytes = refl; widened = refl }

  searched : (x : Run Stop Meter Place) → Holds (Within s.count) x → Holds Known x → LiveIn s.budget.statistics.entries (λ _. 0) x →
      Leaves v s (after (mapped (λ b. entry b s.count s.table) (λ b. entry b s.count s.table) (λ e. e) (mapped (λ m. with_meter m s.budget) (λ m. with_meter m s.budget) (λ e. e) x)) (settle v s.count))
  unfolding after mapped
  searched (going p m) h k l = settled p (metering m (omega (arith, l))) h k
  searched (stopped e m) h k l = refused (metering m (omega (arith, l)))

  pub enter_leaves : Leaves v s (enter v s)
  unfolding enter seek_number ◌>>=◌ through
  enter_leaves =
      searched (seek probe s.count 0 s.count (meter_of s.budget))
      ((seek_within probe s.count 0 s.count (omega arith)).at (meter_of s.budget))
      ((for_all {P = λ (r : Rising probe s.count) (p : Place). Ends probe s.count p} (λ r. search_ends probe s.count r s.count (enough s.count))).at (meter_of s.budget))
      ((seek_lives probe s.count 0 s.count).at s.budget.statistics.entries (meter_of s.budget) (omega arith))

  -- ---- at most one more

  -- what was left, where it is known to be a completed run's
  grown : {s' : Entry} → Leaves v s (going tt s') → s'.count ≤ s.count + 1
  grown (standing h k l) = omega arith
  grown (new h k l) = omega arith

  pub enter_grown : {s' : Entry} → going tt s' ≡ enter v s → s'.count ≤ s.count + 1
  enter_grown e = grown (subst (Leaves v s) (sym e) enter_leaves)

  pub number_grown : {s' : Entry} → going tt s' ≡ enter_number v s → s'.count ≤ s.count + 1
  unfolding enter_number pure
  number_grown {s'} e = go (number? v) e
    where
      go : (t : Bool) → going tt s' ≡ cond t (enter v) (λ (u : Entry). going tt u) s → s'.count ≤ s.count + 1
      go true e = enter_grown e
      go false e = let z : s' ≡ s = cc in rw z (omega arith)
