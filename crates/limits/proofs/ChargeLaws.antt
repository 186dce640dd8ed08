-- Theorems about the charges, for every resource at once: when one is refused, what a refused one tells and leaves, what an accepted one adds.
use Prim.Native.Nat.{ℕ, ◌+◌, ◌<◌, ◌≤◌}
use native.Mathlib.Omega.{arith}
use mathlib.Core.Path.{◌≡◌, refl, sym, ap, subst, ◌∙◌}
use Rattle.std.proofs.Common.{Result, Ok, Err}
use mathlib.Core.Logic.{◌↔◌}
use mathlib.Core.Bool.{Bool, true, false, cond}
use mathlib.Core.List.{Memᴰ}
use borrow.Author.Tests.{leb-true, leb-false, eq-eqb, ne_eqb}
use lib.Dec.{leb, eqb}
use Rattle.integers.proofs.ListLaws.{has, has_is}
use Rattle.limits.specs.declared.Resource.{Resource}
use Rattle.limits.specs.declared.Resource.TheVariants.{Work, Predicates, Positions, Links, ValueEntries, Rounds, InspectedBytes}
use Rattle.limits.specs.declared.Stop.{Stop}
use Rattle.limits.specs.declared.Statistics.{Statistics}
use Rattle.limits.specs.declared.Budget.{Budget}
use Rattle.limits.specs.declared.Refusal.{Refusal}
use Rattle.limits.specs.declared.Refusal.TheVariants.{Closed, Shape, Full, Limit, Missing, Descending, MissingSlot}
use Rattle.limits.specs.Charge.{stop_of, observed, charge_of}
use Rattle.limits.specs.Refusal.{resource_number, told, refusals}
use Rattle.limits.specs.Records.{limit_of, count_of, with_count, with_statistics}
use Rattle.limits.specs.Metered.{Run, going, stopped, through, mapped}
use Rattle.limits.specs.Budget.{charge, charged}
use Rattle.limits.specs.Meter.{meter_of, with_meter, metered}
use Rattle.limits.specs.Meter as inner

-- ---- the observed sum, over 64 bits too

pub observed_is : (r : Resource) (limit n : ℕ) → observed (stop_of r limit n) ≡ n
observed_is r limit n = omega arith

-- ---- counts by resource

-- its number tells a resource
resource_at : ℕ → Resource
resource_at n =
    cond (eqb n 3) Work (cond (eqb n 4) InspectedBytes (cond (eqb n 6) Predicates (cond (eqb n 7) Positions (cond (eqb n 8) Links (cond (eqb n 9) ValueEntries Rounds)))))

number_tells : (r : Resource) → resource_at (resource_number r) ≡ r
unfolding resource_at
number_tells Work = refl
number_tells Predicates = refl
number_tells Positions = refl
number_tells Links = refl
number_tells ValueEntries = refl
number_tells Rounds = refl
number_tells InspectedBytes = refl

pub one_number : (q r : Resource) → resource_number q ≡ resource_number r → q ≡ r
one_number q r e = sym (number_tells q) ∙ ap resource_at e ∙ number_tells r

-- the statistics that have these counts
family : (Resource → ℕ) → ℕ → Statistics
family f widened = record {
  work = f Work;
  predicates = f Predicates;
  positions = f Positions;
  links = f Links;
  entries = f ValueEntries;
  rounds = f Rounds;
  bytes = f InspectedBytes;
  widened = widened;
}

count_family : (q : Resource) (f : Resource → ℕ) (n : ℕ) → count_of q (family f n) ≡ f q
unfolding family
count_family Work f n = refl
count_family Predicates f n = refl
count_family Positions f n = refl
count_family Links f n = refl
count_family ValueEntries f n = refl
count_family Rounds f n = refl
count_family InspectedBytes f n = refl

same? : Resource → Resource → Bool
same? q r = eqb (resource_number q) (resource_number r)

as_family : (r : Resource) (n : ℕ) (s : Statistics) → with_count r n s ≡ family (λ q. cond (same? q r) n (count_of q s)) s.widened
unfolding family same?
as_family Work n s = refl
as_family Predicates n s = refl
as_family Positions n s = refl
as_family Links n s = refl
as_family ValueEntries n s = refl
as_family Rounds n s = refl
as_family InspectedBytes n s = refl

module _ (r : Resource) (n : ℕ) (s : Statistics) where
  pub widened_with : (with_count r n s).widened ≡ s.widened
  unfolding family
  widened_with = ap (λ (t : Statistics). t.widened) (as_family r n s)

  -- what a count is afterwards, by whether it is the one that was set
  count_by : (q : Resource) → count_of q (with_count r n s) ≡ cond (same? q r) n (count_of q s)
  count_by q = ap (count_of q) (as_family r n s) ∙ count_family q (λ p. cond (same? p r) n (count_of p s)) s.widened

  pub count_with : count_of r (with_count r n s) ≡ n
  unfolding same?
  count_with = count_by r ∙ ap (λ (t : Bool). cond t n (count_of r s)) (eq-eqb (resource_number r) (resource_number r) refl)

  pub count_other : (q : Resource) → (q ≡ r → ⊥) → count_of q (with_count r n s) ≡ count_of q s
  unfolding same?
  count_other q d = count_by q ∙ ap (λ (t : Bool). cond t n (count_of q s)) (ne_eqb (resource_number q) (resource_number r) (λ e. d (one_number q r e)))

-- ---- a charge

-- whether a computation was stopped
abbrev pub IsStopped : {E S A : Type 0} → Run E S A → Type 0
IsStopped (going a s) = ⊥
IsStopped (stopped e s) = Unit {0}

-- all that a charge does: the count grows by the amount where the sum is within the limit, and nothing changes where it is not
pub data Charges (r : Resource) (amount : ℕ) (b : Budget) : Run Stop Budget (Unit {0}) → Type 0 where
  accepted : count_of r b.statistics + amount ≤ limit_of r b.limits →
      Charges r amount b (going tt (with_statistics (with_count r (count_of r b.statistics + amount) b.statistics) b))
  refused : (e : Stop) → limit_of r b.limits < count_of r b.statistics + amount →
      e.resource ≡ r → e.limit ≡ limit_of r b.limits → observed e ≡ count_of r b.statistics + amount → Charges r amount b (stopped e b)

module _ (r : Resource) (amount : ℕ) (b : Budget) where
  pub charge_does : Charges r amount b (charge r amount b)
  unfolding charge charge_of
  charge_does = go (leb (count_of r b.statistics + amount) (limit_of r b.limits)) refl
    where
      go : (t : Bool) → leb (count_of r b.statistics + amount) (limit_of r b.limits) ≡ t →
          Charges r amount b
          (charged r b (cond t (Ok (count_of r b.statistics + amount)) (Err (stop_of r (limit_of r b.limits) (count_of r b.statistics + amount)))))
      go true e = accepted (leb-true _ _ e)
      go false e = refused _ (leb-false _ _ e) refl refl (observed_is r (limit_of r b.limits) (count_of r b.statistics + amount))

  -- 01: "Charges are refused exactly when old + amount exceeds the limit"
  pub refused_exactly : IsStopped (charge r amount b) ↔ (limit_of r b.limits < count_of r b.statistics + amount)
  refused_exactly = (by_stop charge_does, by_sum charge_does)
    where
      by_stop : {x : Run Stop Budget (Unit {0})} → Charges r amount b x → IsStopped x → limit_of r b.limits < count_of r b.statistics + amount
      by_stop (accepted h) i = absurd i
      by_stop (refused e h p q o) i = h

      by_sum : {x : Run Stop Budget (Unit {0})} → Charges r amount b x → limit_of r b.limits < count_of r b.statistics + amount → IsStopped x
      by_sum (accepted h) l = absurd (omega arith)
      by_sum (refused e h p q o) l = tt

  -- a refused charge changes nothing and tells the resource, its limit and the exact sum
  pub record Told (e : Stop) (b' : Budget) : Type 0 where
    pub unchanged : b' ≡ b
    pub resource : e.resource ≡ r
    pub limit : e.limit ≡ limit_of r b.limits
    pub sum : observed e ≡ count_of r b.statistics + amount

  pub refused_tells : {e : Stop} {b' : Budget} → charge r amount b ≡ stopped e b' → Told e b'
  refused_tells {e} {b'} h = go charge_does h
    where
      go : {x : Run Stop Budget (Unit {0})} → Charges r amount b x → x ≡ stopped e b' → Told e b'
      go (accepted l) q = let z : ◌≡◌ {A = ℕ} 0 1 = cc in absurd (omega arith)
      go (refused e₀ l p q o) k = record { unchanged = cc; resource = cc; limit = cc; sum = cc }

  -- an accepted one adds exactly the amount to that one count
  pub record Added (b' : Budget) : Type 0 where
    pub limits : b'.limits ≡ b.limits
    pub grown : count_of r b'.statistics ≡ count_of r b.statistics + amount
    pub others : (q : Resource) → (q ≡ r → ⊥) → count_of q b'.statistics ≡ count_of q b.statistics
    pub widened : b'.statistics.widened ≡ b.statistics.widened

  pub accepted_adds : {b' : Budget} → charge r amount b ≡ going tt b' → Added b'
  accepted_adds {b'} h = go charge_does h
    where
      as_set : Added (with_statistics (with_count r (count_of r b.statistics + amount) b.statistics) b)
      as_set = record {
        limits = refl;
        grown = count_with r (count_of r b.statistics + amount) b.statistics;
        others = count_other r (count_of r b.statistics + amount) b.statistics;
        widened = widened_with r (count_of r b.statistics + amount) b.statistics;
      }

      go : {x : Run Stop Budget (Unit {0})} → Charges r amount b x → x ≡ going tt b' → Added b'
      go (accepted l) k =
          let e : with_statistics (with_count r (count_of r b.statistics + amount) b.statistics) b ≡ b' = cc in
          subst Added e as_set
      go (refused e l p q o) k = let z : ◌≡◌ {A = ℕ} 0 1 = cc in absurd (omega arith)

-- ---- the charges of lattice and transfer are those of the budget

inner_charged : (b : Budget) (x : Result ℕ Stop) → mapped (λ m. with_meter m b) (λ m. with_meter m b) (λ e. e) (inner.charged (λ n. inner.with_work n (meter_of b)) (meter_of b) x) ≡ charged Work b x
unfolding mapped
inner_charged b (Ok n) = refl
inner_charged b (Err e) = refl

pub work_is : (amount : ℕ) (b : Budget) → metered (inner.work amount) b ≡ charge Work amount b
unfolding through inner.work charge
work_is amount b = inner_charged b (charge_of Work b.statistics.work amount b.limits.work)

inner_retained : (b : Budget) (x : Result ℕ Stop) → mapped (λ m. with_meter m b) (λ m. with_meter m b) (λ e. e) (inner.charged (λ n. inner.with_entries n (meter_of b)) (meter_of b) x) ≡ charged ValueEntries b x
unfolding mapped
inner_retained b (Ok n) = refl
inner_retained b (Err e) = refl

pub retain_is : (count : ℕ) (b : Budget) → metered (inner.retain count) b ≡ charge ValueEntries count b
unfolding through inner.retain charge
retain_is count b = inner_retained b (charge_of ValueEntries b.statistics.entries count b.limits.entries)

-- ---- nothing but the ten refusals and those that requests add

pub among_refusals : (x : Refusal) → Memᴰ (told x).number refusals
among_refusals x = (has_is refusals (told x).number).0 (found x)
  where
    by_resource : (r : Resource) → has refusals (resource_number r) ≡ true
    by_resource Work = refl
    by_resource Predicates = refl
    by_resource Positions = refl
    by_resource Links = refl
    by_resource ValueEntries = refl
    by_resource Rounds = refl
    by_resource InspectedBytes = refl

    found : (x : Refusal) → has refusals (told x).number ≡ true
    found Closed = refl
    found Shape = refl
    found Full = refl
    found (Limit s) = by_resource s.resource
    found Missing = refl
    found Descending = refl
    found MissingSlot = refl

-- ---- a charge is refused with a resource's number, which is neither 1 nor 2

pub late : (r : Resource) → 3 ≤ resource_number r
late Work = omega arith
late Predicates = omega arith
late Positions = omega arith
late Links = omega arith
late ValueEntries = omega arith
late Rounds = omega arith
late InspectedBytes = omega arith

pub limit_late : (r : Resource) → resource_number r ≤ 2 → ⊥
limit_late r h = absurd (omega (arith, late r))
