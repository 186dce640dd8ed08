-- Live entries of a rule's slots after guards: those before the copies plus the lists of the n rows where the guards complete, those before
-- where they are stopped.
use Prim.Native.Nat.{ℕ, ◌+◌, ◌*◌, ◌^◌, ◌≤◌, ◌<◌}
use native.Mathlib.Omega.{arith}
use native.Mathlib.Nat.{zero-add}
use mathlib.Core.Path.{◌≡◌, refl}
use mathlib.Core.Bool.{Bool, true, false, cond, ◌&&◌}
use mathlib.Core.List.{List, [], ◌∷◌}
use lib.IntN.{ℤ, pos, ◌+ℤ◌, ◌-ℤ◌}
use lib.ListN.{length}
use Rattle.integers.specs.Order.{least32, greatest32}
use Rattle.integers.specs.Lists.{All}
use Rattle.limits.specs.declared.Stop.{Stop}
use Rattle.limits.specs.Metered.{Metered, pure, ◌>>=◌, ◌>>◌, fold_m}
use Rattle.limits.specs.declared.Meter.{Meter}
use Rattle.limits.proofs.Monad.{any_value}
use Rattle.limits.proofs.Ends.{Ends, ends_pure, ends_test, ends_bind, ends_then, ends_through, on_bind, on_then}
use Rattle.limits.proofs.Live.{Lives, live_work, live_ends}
use Rattle.interval.specs.declared.Interval.{Interval}
use Rattle.interval.specs.declared.Interval.TheVariants.{Bottom, Bounded, Unbounded}
use Rattle.std.specs.Prelude.{Option, Some, None}
use Rattle.interval.specs.Interval.{endpoints_of}
use Rattle.lattice.specs.Value.{Value}
use Rattle.sizes.specs.Sizes.{value_row}
use Rattle.rows.specs.Row.{entries_of, value_at}
use Rattle.rows.specs.WellFormed.{Proper}
use Rattle.rows.proofs.Formed.{proper_checked}
use Rattle.rules.specs.declared.Relation.{Relation}
use Rattle.rules.specs.declared.Relation.TheVariants.{Lt, Le, Gt, Ge, Eq, Neq}
use Rattle.rules.specs.declared.Guard.{Guard}
use Rattle.rules.specs.declared.Guard.TheVariants.{Compare, Membership}
use Rattle.slots.specs.Slots.{Slots, slots, total, refine_into, copies}
use Rattle.slots.proofs.Live.{Formed, Held, held_as, Keeps, keeps_pure, keeps_refine, copies_ends}
use Rattle.refinements.specs.Refinement.{Notes, notes, refinements_of, integer?, note}
use Rattle.refinements.proofs.Theorems.{note_ends}
use Rattle.operators.specs.Arithmetic.{span}
use Rattle.evaluation.specs.Evaluation.{Input, both}
use Rattle.evaluation.proofs.Live.{known_lives, both_lives}
use Rattle.operators.proofs.Formed.{span_proper}
use Rattle.affine.specs.declared.Affine.{Affine}
use Rattle.affine.specs.declared.Shape.{Shape}
use Rattle.affine.specs.declared.Shape.TheVariants.{Sum, Difference, Reversed}
use Rattle.affine.specs.Affine.{flipped_of, restriction, restricted, affine, solved}
use Rattle.guards.specs.Guards.{Local, local, paying, in_slots, in_notes, fewer, dropping, holding_produced, narrow_slot, narrow_known, refine_operand, refine_both, narrowing?, compared, with_both, member, guard_one, guard_step, guard_all, guard}

-- ---- what guards narrow by has ends of 32 bits, whatever the operands are

restriction_proper : (r : Relation) (low high : ℤ) → Proper (restriction r low high)
restriction_proper Lt low high = proper_checked least32 (high -ℤ pos 1)
restriction_proper Le low high = proper_checked least32 high
restriction_proper Gt low high = proper_checked (low +ℤ pos 1) greatest32
restriction_proper Ge low high = proper_checked low greatest32
restriction_proper Eq low high = proper_checked low high
restriction_proper Neq low high = tt

pub restricted_proper : (r : Relation) (x y : Interval) → Proper (restricted r x y)
restricted_proper r Bottom y = tt
restricted_proper r (Bounded a b) Bottom = tt
restricted_proper r (Bounded a b) (Bounded c d) = restriction_proper r c d
restricted_proper r (Bounded a b) Unbounded = restriction_proper r least32 greatest32
restricted_proper r Unbounded Bottom = tt
restricted_proper r Unbounded (Bounded c d) = restriction_proper r c d
restricted_proper r Unbounded Unbounded = restriction_proper r least32 greatest32

pub solved_proper : (shape : Shape) (c : ℤ) (x : Option (ℤ × ℤ)) → Proper (solved shape c x)
solved_proper shape c None = tt
solved_proper Sum c (Some (low, high)) = proper_checked (low -ℤ c) (high -ℤ c)
solved_proper Difference c (Some (low, high)) = proper_checked (low +ℤ c) (high +ℤ c)
solved_proper Reversed c (Some (low, high)) = proper_checked (c -ℤ high) (c -ℤ low)

-- ---- both tables: n rows whose entries are live beside e others, and refinements in cells of 32 bits

pub record Kept (n e : ℕ) (s : Local) : Type 0 where
  pub held : Held n e (slots s.meter s.produced)
  pub small : All (λ c. c < 2 ^ 32) s.refinements

-- m leaves the entries of n rows live, beside any others, whichever way it ends
pub record Stays {A : Type 0} (n : ℕ) (m : Metered Stop Local A) : Type 0 where
  pub at : (e : ℕ) (s : Local) → Kept n e s → Ends (λ _ t. Kept n e t) (λ _ t. Kept n e t) (m s)

kept_as : {n e e' : ℕ} {m m' : Meter} {p r : List ℕ} → m'.entries + e ≡ m.entries + e' → Kept n e (local m p r) → Kept n e' (local m' p r)
kept_as {m = m} {m' = m'} {p = p} q h = record { held = held_as {s = slots m p} {t = slots m' p} refl q h.held; small = h.small }

module _ {A : Type 0} {n : ℕ} where
  pub stays_pure : (a : A) → Stays n (pure a)
  stays_pure a = record { at = λ e s h. ends_pure a s h }

  pub stays_test : (t : Bool) {m k : Metered Stop Local A} → Stays n m → Stays n k → Stays n (cond t m k)
  stays_test true f g = f
  stays_test false f g = g

  pub stays_paying : {m : Metered Stop Meter A} → Lives 0 (λ _. 0) m → Stays n (paying m)
  stays_paying {m} l = record {
    at = λ e s h.
        ends_through (λ t. t.meter) (λ t u. local u t.produced t.refinements) (λ t u. local u t.produced t.refinements) (λ x. x) m s (live_ends l (any_value m) s.meter)
        (λ _ u q. kept_as (omega (arith, q.1)) h) (λ _ u q. kept_as (omega arith) h);
  }

  -- a value that is in hand before is not afterwards
  dropped_ends : (v : Value) (m : Metered Stop Local A) (e : ℕ) (s : Local) → Ends (λ _ t. Kept n (e + entries_of v) t) (λ _ t. Kept n (e + entries_of v) t) (m s) → Ends (λ _ t. Kept n e t) (λ _ t. Kept n e t) (dropping v m s)
  dropped_ends v m e s h = ends_through (λ t. t) (λ _ t. fewer (entries_of v) t) (λ _ t. fewer (entries_of v) t) (λ x. x) m s h (λ _ t q. left q) (λ _ t q. left q)
    where
      left : {t : Local} → Kept n (e + entries_of v) t → Kept n e (fewer (entries_of v) t)
      left q = kept_as (omega (arith, q.held.live)) q

module _ {A B : Type 0} {n : ℕ} where
  pub stays_bind : {m : Metered Stop Local A} {f : A → Metered Stop Local B} → Stays n m → ((a : A) → Stays n (f a)) → Stays n (m >>= f)
  stays_bind {m} {f} h k = record { at = λ e s p. ends_bind m f s (h.at e s p) (λ a t q. (k a).at e t q) (λ _ t q. q) }

  pub stays_then : {m : Metered Stop Local A} {k : Metered Stop Local B} → Stays n m → Stays n k → Stays n (m >> k)
  stays_then {m} {k} h l = record { at = λ e s p. ends_then m k s (h.at e s p) (λ _ t q. l.at e t q) (λ _ t q. q) }

pub stays_slots : {n : ℕ} {m : Metered Stop Slots (Unit {0})} → Keeps n m → Stays n (in_slots m)
stays_slots {n} {m} k = record {
  at = λ e s h.
      ends_through (λ t. slots t.meter t.produced) (λ t u. local u.meter u.rows t.refinements) (λ t u. local u.meter u.rows t.refinements) (λ x. x) m s
      (k.at e (slots s.meter s.produced) h.held) (λ _ u q. record { held = q; small = h.small }) (λ _ u q. record { held = q; small = h.small });
}

pub stays_note : {n : ℕ} (k id : ℕ) (x : Interval) → Proper x → Stays n (in_notes (note k id x))
stays_note {n} k id x p = record {
  at = λ e s h.
      ends_through (λ t. notes t.meter t.refinements) (λ t u. local u.meter t.produced u.table) (λ t u. local u.meter t.produced u.table) (λ x. x) (note k id x) s
      (note_ends k id x p (notes s.meter s.refinements) h.small) (λ _ u q. noted h u q.0 q.1) (λ _ u q. noted h u q.0 q.1);
}
  where
    noted : {e : ℕ} {s : Local} → Kept n e s → (u : Notes) → u.meter.entries ≡ s.meter.entries → All (λ c. c < 2 ^ 32) u.table → Kept n e (local u.meter s.produced u.table)
    noted {s = s} h u q small = record { held = held_as {s = slots s.meter s.produced} {t = slots u.meter s.produced} refl (omega arith) h.held; small = small }

-- ---- `refine_operand`

-- the slot that an expression narrows is one of n
abbrev pub AffineIn : ℕ → Option Affine → Type 0
AffineIn n None = Unit {0}
AffineIn n (Some a) = a.slot < n

module _ (nodes constants : List ℕ) (small : All (λ c. c < 2 ^ 32) constants) {n : ℕ} where
  pub keeps_narrow : (a : Option Affine) (x : Interval) → AffineIn n a → Keeps n (narrow_slot constants a x)
  keeps_narrow None x l = keeps_pure
  keeps_narrow (Some a) x l = keeps_refine constants small a.slot l (solved a.shape a.constant (endpoints_of x)) (solved_proper a.shape a.constant (endpoints_of x))

  pub stays_known : (k id : ℕ) (x : Interval) → Proper x → AffineIn n (affine nodes constants id) → Stays n (narrow_known nodes constants k id x)
  unfolding narrow_known
  stays_known k id x p l = stays_bind (stays_note k id x p) (λ j. stays_then (stays_slots (keeps_narrow (affine nodes constants id) x l)) (stays_pure j))

  pub stays_operand : (k id : ℕ) (x : Interval) → Proper x → AffineIn n (affine nodes constants id) → Stays n (refine_operand nodes constants k id x)
  unfolding refine_operand
  stays_operand k id x p l = stays_bind (stays_paying (known_lives nodes id)) (λ t. stays_test t (stays_known k id x p l) (stays_pure k))

  -- ---- `refine_comparison`

  module _ (k left right : ℕ) (l : AffineIn n (affine nodes constants left)) (r : AffineIn n (affine nodes constants right)) where
    pub stays_both : (x y : Interval) → Proper x → Proper y → Stays n (refine_both nodes constants k left x right y)
    unfolding refine_both
    stays_both x y p q = stays_bind (stays_operand k left x p l) (λ j. stays_operand j right y q r)

    pub stays_compared : (relation : Relation) (a b : Value) → Stays n (compared nodes constants k left relation right a b)
    unfolding compared
    stays_compared relation a b =
        stays_test (narrowing? relation a b)
        (stays_both (restricted relation a.bound.interval b.bound.interval) (restricted (flipped_of relation) b.bound.interval a.bound.interval)
        (restricted_proper relation a.bound.interval b.bound.interval) (restricted_proper (flipped_of relation) b.bound.interval a.bound.interval))
        (stays_pure k)

  -- ---- a membership guard

  pub stays_member : (k slot : ℕ) → slot < n → (a b : Value) → Stays n (member constants k slot a b)
  unfolding member
  stays_member k slot l a b = record {
    at = λ e s h.
        ends_test (integer? (value_at s.produced slot) && (integer? a && integer? b)) (λ _. narrowed.at e s h) (λ _. ends_pure k s h);
  }
    where
      narrowed : Stays n (in_slots (refine_into constants slot (span a.bound.interval b.bound.interval)) >> pure k)
      narrowed = stays_then (stays_slots (keeps_refine constants small slot l (span a.bound.interval b.bound.interval) (span_proper a.bound.interval b.bound.interval))) (stays_pure k)

-- two operands are live until f has ended
pub stays_with : {n : ℕ} (i : Input) (k left right : ℕ) {f : Value → Value → Metered Stop Local ℕ} → ((a b : Value) → Stays n (f a b)) → Stays n (with_both i k left right f)
unfolding with_both
stays_with {n} i k left right {f} h = record {
  at = λ e s p.
      let m = both i s.produced (refinements_of s.refinements k) left right in
      on_bind (λ t. t.meter) (λ t u. local u t.produced t.refinements) (λ t u. local u t.produced t.refinements) (λ x. x) m
      (λ v. dropping v.first (dropping v.second (f v.first v.second))) s
      (live_ends (both_lives i s.produced (refinements_of s.refinements k) left right) (any_value m) s.meter)
      (λ v u q.
      dropped_ends v.first (dropping v.second (f v.first v.second)) e (local u s.produced s.refinements)
      (dropped_ends v.second (f v.first v.second) (e + entries_of v.first) (local u s.produced s.refinements)
      ((h v.first v.second).at (e + entries_of v.first + entries_of v.second) (local u s.produced s.refinements) (kept_as (omega (arith, q.1)) p))))
      (λ _ u q. kept_as (omega arith) p);
}

-- ---- all guards

-- the slots that a guard narrows are among n
abbrev pub GuardIn : ℕ → Input → Guard → Type 0
GuardIn n i (Compare left relation right) = AffineIn n (affine i.nodes i.constants left) × AffineIn n (affine i.nodes i.constants right)
GuardIn n i (Membership slot low high) = slot < n

module _ (i : Input) (small : All (λ c. c < 2 ^ 32) i.constants) {n : ℕ} where
  pub stays_one : (k : ℕ) (g : Guard) → GuardIn n i g → Stays n (guard_one i k g)
  stays_one k (Compare left relation right) h = stays_with i k left right (stays_compared i.nodes i.constants small k left right h.0 h.1 relation)
  stays_one k (Membership slot low high) h = stays_with i k low high (stays_member i.nodes i.constants small k slot h)

  pub stays_step : (k : ℕ) (g : Guard) → GuardIn n i g → Stays n (guard_step i k g)
  unfolding guard_step
  stays_step k g h = stays_then (stays_paying (live_work 1)) (stays_one k g h)

  stays_fold : (k : ℕ) (gs : List Guard) → All (GuardIn n i) gs → Stays n (fold_m (guard_step i) k gs)
  unfolding fold_m
  stays_fold k [] h = stays_pure k
  stays_fold k (g ∷ gs) h = stays_bind (stays_step k g h.0) (λ j. stays_fold j gs h.1)

  pub stays_all : (gs : List Guard) → All (GuardIn n i) gs → Stays n (guard_all i gs)
  unfolding guard_all
  stays_all gs h = stays_fold 0 gs h

  pub guard_ends : (domains : List ℕ) → Formed domains → (gs : List Guard) → All (GuardIn n i) gs → (e : ℕ) (s : Local) →
      value_row * n ≤ length s.produced → Formed s.produced → All (λ c. c < 2 ^ 32) s.refinements → s.meter.entries ≡ e →
      Ends (λ _ t. Kept n e t) (λ _ t. t.meter.entries ≡ e) (guard i domains n gs s)
  unfolding guard total
  guard_ends domains formed gs inside e s room f cells q =
      on_then (λ t. slots t.meter t.produced) (λ t u. local u.meter u.rows t.refinements) (λ t u. local u.meter u.rows t.refinements) (λ x. x)
      {P = λ _ u. Held (0 + n) e u} {Q = λ _ u. u.meter.entries ≡ e} (copies domains 0 n) (holding_produced n (guard_all i gs)) s
      (copies_ends domains n (λ j _. formed j) 0 n e (omega arith) (slots s.meter s.produced) (omega arith) record { room = omega arith; formed = f; live = omega arith })
      (λ _ u p.
      ends_through (λ t. t) (λ _ t. t) (λ _ t. fewer (total t.produced n) t) (λ x. x) (guard_all i gs) (local u.meter u.rows s.refinements)
      ((stays_all gs inside).at e (local u.meter u.rows s.refinements) record { held = rw zero-add at p; small = cells })
      (λ _ t h. h) (λ _ t h. omega (arith, h.held.live)))
      (λ _ u p. p)
