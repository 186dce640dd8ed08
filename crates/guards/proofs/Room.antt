-- A table of 64 refinements is never full: a guard records two at most, and a rule has 32 guards at most. Where there is room a restriction is
-- always recorded.
use Prim.Native.Nat.{ℕ, zero, suc, ◌+◌, ◌*◌, ◌/◌, ◌≤◌, ◌<◌}
use native.Mathlib.Omega.{arith}
use mathlib.Core.Path.{◌≡◌, refl, ap, subst, ◌∙◌}
use mathlib.Core.Bool.{Bool, true, false, cond, ◌&&◌}
use mathlib.Core.List.{List, [], ◌∷◌}
use borrow.Author.Tests.{ltb-true, ltb-false}
use lib.Dec.{ltb, eqb}
use lib.ListN.{length}
use Rattle.integers.specs.Lists.{from}
use Rattle.limits.specs.declared.Stop.{Stop}
use Rattle.limits.specs.Metered.{Metered, pure, ◌>>=◌, ◌>>◌, fold_m}
use Rattle.limits.specs.declared.Meter.{Meter}
use Rattle.limits.specs.Meter.{work}
use Rattle.limits.proofs.Monad.{Ensures, by_pure, by_test, then}
use Rattle.limits.proofs.Ends.{Ends, completes, ends_pure, ends_test, ends_then, ends_bind, ends_through, ends_as, with_value, in_some_way}
use Rattle.interval.specs.declared.Interval.{Interval}
use Rattle.lattice.specs.Value.{Value}
use Rattle.rows.specs.Row.{value_at}
use Rattle.rules.specs.declared.Relation.{Relation}
use Rattle.rules.specs.declared.Guard.{Guard}
use Rattle.rules.specs.declared.Guard.TheVariants.{Compare, Membership}
use Rattle.slots.specs.Slots.{Slots}
use Rattle.sizes.specs.Sizes.{refinement_row}
use Rattle.refinements.specs.Refinement.{Refinement, refinement_at, refinements_of, put_refinement, integer?, position, Notes, notes, noted, note}
use Rattle.refinements.proofs.Theorems.{length_refinement}
use Rattle.evaluation.specs.Evaluation.{Input, known_identity}
use Rattle.guards.specs.Guards.{Local, paying, in_slots, in_notes, narrow_known, refine_operand, refine_both, narrowing?, compared, with_both, member, guard_one, guard_step}

-- ---- one restriction

-- where it went: a place of the table, which counts then
pub record Put (n id : ℕ) (t : Notes) (k : ℕ) (u : Notes) : Type 0 where
  pub place : ℕ
  pub interval : Interval
  pub counts : place < k
  pub few : k ≤ n + 1
  pub is : u.table ≡ put_refinement t.table place id interval

pub position_within : (k n : ℕ) (rs : List Refinement) (id : ℕ) → k + length rs ≤ n → Ensures (λ p. p ≤ n) (position k rs id)
unfolding position
position_within k n [] id h = by_pure k (omega arith)
position_within k n (r ∷ rs) id h = then (work 1) (by_test (eqb r.expression id) (λ _. by_pure k (omega arith)) (λ _. position_within (k + 1) n rs id (omega arith)))

pub length_from : {A : Type 0} (f : ℕ → A) (j n : ℕ) → length (from f j n) ≡ n
unfolding from
length_from f j zero = refl
length_from f j (suc n) = ap suc (length_from f (j + 1) n)

module _ (n id : ℕ) (i : Interval) where
  noted_puts : (p : ℕ) (t : Notes) → p ≤ n → n < length t.table / refinement_row → Ends (Put n id t) (λ _ _. Unit {0}) (noted n id i p t)
  noted_puts p t l room =
      ends_test (ltb p n) (λ e. completes record { place = p; interval = _; counts = ltb-true p n e; few = omega arith; is = refl })
      (λ e.
      let b : n ≤ p = ltb-false p n e in
      ends_test (ltb p (length t.table / refinement_row)) (λ _. completes record { place = p; interval = i; counts = omega arith; few = omega arith; is = refl })
      (λ d. absurd (full p t l room b d)))
    where
      full : (p : ℕ) (t : Notes) → p ≤ n → n < length t.table / refinement_row → n ≤ p → ltb p (length t.table / refinement_row) ≡ false → ⊥
      full p t l room b d = let c : length t.table / refinement_row ≤ p = ltb-false p (length t.table / refinement_row) d in omega arith

  -- where there is room, a restriction is recorded
  pub note_puts : (t : Notes) → n < length t.table / refinement_row → Ends (Put n id t) (λ _ _. Unit {0}) (note n id i t)
  unfolding note
  note_puts t room =
      ends_bind {P = λ p u. (p ≤ n) × (u.table ≡ t.table)} {Q = λ _ _. Unit {0}} _ (noted n id i) t
      (ends_through _ _ _ _ {P = λ p _. p ≤ n} {Q = λ _ _. Unit {0}} (position 0 (refinements_of t.table n) id) t
      (with_value (position 0 (refinements_of t.table n) id t.meter) ((position_within 0 n (refinements_of t.table n) id (omega (arith, length_from (refinement_at t.table) 0 n))).at t.meter))
      (λ p _ h. (h, refl)) (λ _ _ _. tt))
      (λ p u h. ends_as (noted_puts p u h.0 (rw h.1 room)) (λ k v q. record { place = q.place; interval = q.interval; counts = q.counts; few = q.few; is = q.is ∙ ap (λ (x : List ℕ). put_refinement x q.place id q.interval) h.1 }) (λ _ _ _. tt))
      (λ _ _ _. tt)

  -- and in any case there is one more at most, in a table of the same size
  noted_few : (p : ℕ) (t : Notes) → Ends (λ k u. (k ≤ n + 1) × (length u.table ≡ length t.table)) (λ _ _. Unit {0}) (noted n id i p t)
  noted_few p t =
      ends_test (ltb p n) (λ _. completes (omega arith, length_refinement t.table p id _))
      (λ _. ends_test (ltb p (length t.table / refinement_row)) (λ _. completes (omega arith, length_refinement t.table p id i)) (λ _. completes (omega arith, refl)))

  note_few : (t : Notes) → Ends (λ k u. (k ≤ n + 1) × (length u.table ≡ length t.table)) (λ _ _. Unit {0}) (note n id i t)
  unfolding note
  note_few t =
      ends_bind {P = λ _ u. u.table ≡ t.table} {Q = λ _ _. Unit {0}} _ (noted n id i) t
      (ends_through _ _ _ _ {P = λ _ _. Unit {0}} {Q = λ _ _. Unit {0}} (position 0 (refinements_of t.table n) id) t (in_some_way _) (λ _ _ _. refl) (λ _ _ _. tt))
      (λ p u h. ends_as (noted_few p u) (λ k v q. (q.0, q.1 ∙ ap length h)) (λ _ _ _. tt)) (λ _ _ _. tt)

-- ---- guards

-- from a count of n: more by m at most, in a table of the same size
pub record Adds (m n : ℕ) (c : Metered Stop Local ℕ) : Type 0 where
  pub at : (s : Local) → Ends (λ k t. (k ≤ n + m) × (length t.refinements ≡ length s.refinements)) (λ _ _. Unit {0}) (c s)

adds_pure : (m n : ℕ) → Adds m n (pure n)
adds_pure m n = record { at = λ s. ends_pure n s (omega arith, refl) }

adds_test : {m n : ℕ} (t : Bool) {c d : Metered Stop Local ℕ} → Adds m n c → Adds m n d → Adds m n (cond t c d)
adds_test true h k = h
adds_test false h k = k

-- steps one after another
adds_bind : (l m n : ℕ) {c : Metered Stop Local ℕ} (f : ℕ → Metered Stop Local ℕ) → Adds l n c → ((k : ℕ) → Adds m k (f k)) → Adds (l + m) n (c >>= f)
adds_bind l m n {c} f h g = record {
  at = λ s.
      ends_bind {P = λ k t. (k ≤ n + l) × (length t.refinements ≡ length s.refinements)} {Q = λ _ _. Unit {0}} c f s (h.at s)
      (λ k t p. ends_as ((g k).at t) (λ j u q. (omega (arith, p.0, q.0), q.1 ∙ p.1)) (λ _ _ _. tt)) (λ _ _ _. tt);
}

-- after what changes no refinements
adds_after : {A : Type 0} (m n : ℕ) (c : Metered Stop Local A) (f : A → Metered Stop Local ℕ) → ((s : Local) → Ends (λ _ t. t.refinements ≡ s.refinements) (λ _ _. Unit {0}) (c s)) → ((a : A) → Adds m n (f a)) → Adds m n (c >>= f)
adds_after m n c f h g = record {
  at = λ s.
      ends_bind {P = λ _ t. t.refinements ≡ s.refinements} {Q = λ _ _. Unit {0}} c f s (h s)
      (λ a t p. ends_as ((g a).at t) (λ j u q. (q.0, q.1 ∙ ap length p)) (λ _ _ _. tt)) (λ _ _ _. tt);
}

paying_same : {A : Type 0} (c : Metered Stop Meter A) (s : Local) → Ends (λ _ t. t.refinements ≡ s.refinements) (λ _ _. Unit {0}) (paying c s)
paying_same c s = ends_through _ _ _ _ {P = λ _ _. Unit {0}} {Q = λ _ _. Unit {0}} c s (in_some_way (c s.meter)) (λ _ _ _. refl) (λ _ _ _. tt)

slots_same : {A : Type 0} (c : Metered Stop Slots A) (s : Local) → Ends (λ _ t. t.refinements ≡ s.refinements) (λ _ _. Unit {0}) (in_slots c s)
slots_same c s = ends_through _ _ _ _ {P = λ _ _. Unit {0}} {Q = λ _ _. Unit {0}} c s (in_some_way _) (λ _ _ _. refl) (λ _ _ _. tt)

module _ (nodes constants : List ℕ) where
  known_adds : (n id : ℕ) (x : Interval) → Adds 1 n (narrow_known nodes constants n id x)
  unfolding narrow_known
  known_adds n id x = record {
    at = λ s.
        ends_bind {P = λ k t. (k ≤ n + 1) × (length t.refinements ≡ length s.refinements)} {Q = λ _ _. Unit {0}} (in_notes (note n id x)) _ s
        (ends_through _ _ _ _ {P = λ k u. (k ≤ n + 1) × (length u.table ≡ length s.refinements)} {Q = λ _ _. Unit {0}} (note n id x) s (note_few n id x (notes s.meter s.refinements)) (λ k u p. p) (λ _ _ _. tt))
        (λ k t p.
        ends_then {P = λ _ u. u.refinements ≡ t.refinements} {Q = λ _ _. Unit {0}} (in_slots _) (pure k) t (slots_same _ t) (λ _ u q. ends_pure k u (p.0, ap length q ∙ p.1)) (λ _ _ _. tt))
        (λ _ _ _. tt);
  }

  operand_adds : (n id : ℕ) (x : Interval) → Adds 1 n (refine_operand nodes constants n id x)
  unfolding refine_operand
  operand_adds n id x = adds_after 1 n (paying (known_identity nodes id)) _ (paying_same (known_identity nodes id)) (λ t. adds_test t (known_adds n id x) (adds_pure 1 n))

  compared_adds : (n left : ℕ) (relation : Relation) (right : ℕ) (a b : Value) → Adds 2 n (compared nodes constants n left relation right a b)
  unfolding compared refine_both
  compared_adds n left relation right a b = adds_test (narrowing? relation a b) (adds_bind 1 1 n _ (operand_adds n left _) (λ k. operand_adds k right _)) (adds_pure 2 n)

member_adds : (constants : List ℕ) (n slot : ℕ) (a b : Value) → Adds 2 n (member constants n slot a b)
unfolding member
member_adds constants n slot a b = record {
  at = λ s.
      ends_test (integer? (value_at s.produced slot) && (integer? a && integer? b))
      (λ _. ends_then {P = λ _ t. t.refinements ≡ s.refinements} {Q = λ _ _. Unit {0}} (in_slots _) (pure n) s (slots_same _ s) (λ _ t q. ends_pure n t (omega arith, ap length q)) (λ _ _ _. tt))
      (λ _. ends_pure n s (omega arith, refl));
}

with_adds : (i : Input) (n left right : ℕ) (f : Value → Value → Metered Stop Local ℕ) → ((a b : Value) → Adds 2 n (f a b)) → Adds 2 n (with_both i n left right f)
unfolding with_both
with_adds i n left right f h = record {
  at = λ s.
      ends_bind {P = λ _ t. t.refinements ≡ s.refinements} {Q = λ _ _. Unit {0}} _ _ s (paying_same _ s)
      (λ p t q.
      ends_through _ _ _ _ {P = λ k u. (k ≤ n + 2) × (length u.refinements ≡ length s.refinements)} {Q = λ _ _. Unit {0}} _ t
      (ends_through _ _ _ _ {P = λ k u. (k ≤ n + 2) × (length u.refinements ≡ length s.refinements)} {Q = λ _ _. Unit {0}} _ t
      (ends_as ((h p.first p.second).at t) (λ k u r. (r.0, r.1 ∙ ap length q)) (λ _ _ _. tt)) (λ _ _ r. r) (λ _ _ _. tt))
      (λ _ _ r. r) (λ _ _ _. tt))
      (λ _ _ _. tt);
}

guard_adds : (i : Input) (n : ℕ) (g : Guard) → Adds 2 n (guard_one i n g)
guard_adds i n (Compare left relation right) = with_adds i n left right _ (compared_adds i.nodes i.constants n left relation right)
guard_adds i n (Membership slot low high) = with_adds i n low high _ (member_adds i.constants n slot)

step_adds : (i : Input) (n : ℕ) (g : Guard) → Adds 2 n (guard_step i n g)
unfolding guard_step ◌>>◌
step_adds i n g = adds_after 2 n (paying (work 1)) _ (paying_same (work 1)) (λ _. guard_adds i n g)

-- each guard two at most
pub guards_add : (i : Input) (gs : List Guard) (n : ℕ) → Adds (2 * length gs) n (fold_m (guard_step i) n gs)
unfolding fold_m
guards_add i [] n = adds_pure 0 n
guards_add i (g ∷ gs) n = subst (λ (m : ℕ). Adds m n (guard_step i n g >>= (λ k. fold_m (guard_step i) k gs))) (omega arith) (adds_bind 2 (2 * length gs) n (λ k. fold_m (guard_step i) k gs) (step_adds i n g) (λ k. guards_add i gs k))
