-- The values of a rule's slots after guards, and what is known of expressions, are the same from any two meters, where both runs complete.
use Prim.Native.Nat.{ℕ}
use mathlib.Core.Path.{refl, ap}
use mathlib.Core.Bool.{Bool, true, false, cond, ◌&&◌}
use mathlib.Core.List.{List}
use Rattle.std.specs.Prelude.{Option, Some, None}
use Rattle.limits.specs.declared.Stop.{Stop}
use Rattle.limits.specs.Metered.{Metered, pure, ◌>>=◌, ◌>>◌}
use Rattle.limits.specs.declared.Meter.{Meter}
use Rattle.limits.specs.Meter.{work}
use Rattle.limits.proofs.Monad.{Steady, steady_unit}
use Rattle.limits.proofs.Alike.{SteadyOn, on_pure, on_test, on_look, on_bind, on_then, on_fold, on_through, steady_on}
use Rattle.interval.specs.declared.Interval.{Interval}
use Rattle.lattice.specs.Value.{Value}
use Rattle.rows.specs.Row.{value_at}
use Rattle.rules.specs.declared.Relation.{Relation}
use Rattle.rules.specs.declared.Guard.{Guard}
use Rattle.rules.specs.declared.Guard.TheVariants.{Compare, Membership}
use Rattle.slots.specs.Slots.{Slots, refine_into}
use Rattle.slots.proofs.Steady.{OnRows, on_refine, on_copies}
use Rattle.refinements.specs.Refinement.{Notes, refinements_of, integer?}
use Rattle.refinements.proofs.Theorems.{note_steady}
use Rattle.operators.specs.Arithmetic.{span}
use Rattle.evaluation.specs.Evaluation.{Input, both}
use Rattle.evaluation.proofs.Steady.{known_steady, both_steady}
use Rattle.affine.specs.declared.Affine.{Affine}
use Rattle.affine.specs.Affine.{affine}
use Rattle.guards.specs.Guards.{Local, paying, in_slots, in_notes, dropping, holding_produced, narrow_slot, narrow_known, refine_operand, refine_both, narrowing?, compared, with_both, member, guard_one, guard_step, guard_all, guard}

abbrev pub tables : Local → List ℕ × List ℕ
tables s = (s.produced, s.refinements)

abbrev pub OnTables : {A : Type 0} → Metered Stop Local A → Type 0
OnTables m = SteadyOn tables m

-- ---- on a part of the state

module _ {A : Type 0} where
  pub on_paying : {m : Metered Stop Meter A} → Steady m → OnTables (paying m)
  on_paying h = on_through _ _ _ _ (λ s t e. refl) (λ s t u v e _. e) (steady_on h)

  pub on_slots_lem : {m : Metered Stop Slots A} → OnRows m → OnTables (in_slots m)
  on_slots_lem h = on_through _ _ _ _ (λ s t e. ap (λ p. p.0) e) (λ s t u v e q i. (q i, (e i).1)) h

  pub on_notes : {m : Metered Stop Notes A} → SteadyOn (λ s. s.table) m → OnTables (in_notes m)
  on_notes h = on_through _ _ _ _ (λ s t e. ap (λ p. p.1) e) (λ s t u v e q i. ((e i).0, q i)) h

  pub on_dropping : (v : Value) {m : Metered Stop Local A} → OnTables m → OnTables (dropping v m)
  on_dropping v h = on_through _ _ _ _ (λ s t e. e) (λ s t u v _ e. e) h

  pub on_holding : (n : ℕ) {m : Metered Stop Local A} → OnTables m → OnTables (holding_produced n m)
  on_holding n h = on_through _ _ _ _ (λ s t e. e) (λ s t u v _ e. e) h

-- ---- `refine_operand`

pub on_narrow : (constants : List ℕ) (a : Option Affine) (x : Interval) → OnRows (narrow_slot constants a x)
on_narrow constants None x = on_pure tt
on_narrow constants (Some a) x = on_refine constants a.slot _

module _ (nodes constants : List ℕ) where
  pub on_known : (n id : ℕ) (x : Interval) → OnTables (narrow_known nodes constants n id x)
  unfolding narrow_known
  on_known n id x = on_bind (on_notes (note_steady n id x)) (λ k. on_then (on_slots_lem (on_narrow constants (affine nodes constants id) x)) (on_pure k))

  pub on_operand : (n id : ℕ) (x : Interval) → OnTables (refine_operand nodes constants n id x)
  unfolding refine_operand
  on_operand n id x = on_bind (on_paying (known_steady nodes id)) (λ t. on_test t (λ _. on_known n id x) (λ _. on_pure n))

  -- ---- `refine_comparison`

  pub on_both : (n left : ℕ) (x : Interval) (right : ℕ) (y : Interval) → OnTables (refine_both nodes constants n left x right y)
  unfolding refine_both
  on_both n left x right y = on_bind (on_operand n left x) (λ k. on_operand k right y)

  pub on_compared : (n left : ℕ) (relation : Relation) (right : ℕ) (a b : Value) → OnTables (compared nodes constants n left relation right a b)
  unfolding compared
  on_compared n left relation right a b = on_test (narrowing? relation a b) (λ _. on_both n left _ right _) (λ _. on_pure n)

-- two operands are worked out over both tables as they stand
pub on_with : (i : Input) (n left right : ℕ) {f : Value → Value → Metered Stop Local ℕ} → ((a b : Value) → OnTables (f a b)) → OnTables (with_both i n left right f)
unfolding with_both
on_with i n left right {f} h =
    on_look {f = λ v. paying (both i v.0 (refinements_of v.1 n) left right) >>= (λ p. dropping p.first (dropping p.second (f p.first p.second)))}
    (λ v. on_bind (on_paying (both_steady i v.0 (refinements_of v.1 n) left right)) (λ p. on_dropping p.first (on_dropping p.second (h p.first p.second))))

-- ---- a membership guard

pub on_member : (constants : List ℕ) (n slot : ℕ) (a b : Value) → OnTables (member constants n slot a b)
unfolding member
on_member constants n slot a b =
    on_look {f = λ v. λ s. cond (integer? (value_at v.0 slot) && (integer? a && integer? b)) (narrowed s) (pure n s)}
    (λ v. chosen (integer? (value_at v.0 slot) && (integer? a && integer? b)))
  where
    narrowed : Metered Stop Local ℕ
    narrowed = in_slots (refine_into constants slot (span a.bound.interval b.bound.interval)) >> pure n

    chosen : (t : Bool) → OnTables (λ s. cond t (narrowed s) (pure n s))
    chosen true = on_then (on_slots_lem (on_refine constants slot _)) (on_pure n)
    chosen false = on_pure n

-- ---- all guards

module _ (i : Input) where
  pub on_one : (n : ℕ) (g : Guard) → OnTables (guard_one i n g)
  on_one n (Compare left relation right) = on_with i n left right (on_compared i.nodes i.constants n left relation right)
  on_one n (Membership slot low high) = on_with i n low high (on_member i.constants n slot)

  pub on_step : (n : ℕ) (g : Guard) → OnTables (guard_step i n g)
  unfolding guard_step
  on_step n g = on_then (on_paying (steady_unit (work 1))) (on_one n g)

  pub on_all : (gs : List Guard) → OnTables (guard_all i gs)
  unfolding guard_all
  on_all gs = on_fold on_step 0 gs

  pub on_guards : (domains : List ℕ) (n : ℕ) (gs : List Guard) → OnTables (guard i domains n gs)
  unfolding guard
  on_guards domains n gs = on_then (on_slots_lem (on_copies domains 0 n)) (on_holding n (on_all gs))
