-- Each guard keeps every firing that satisfies it: after `guard` the value of each slot lies in its row, and what is recorded of expressions holds
-- in that firing.
use Prim.Native.Nat.{ℕ, zero, suc, ◌+◌, ◌*◌, ◌/◌, ◌≤◌, ◌<◌, ◌^◌}
use native.Mathlib.Omega.{arith}
use native.Mathlib.Decide.{ℕ_discrete, dec_lt}
use mathlib.Core.Path.{◌≡◌, refl, sym, ap, subst, ◌∙◌}
use mathlib.Core.Bool.{Bool, true, false, cond, ◌&&◌, not}
use mathlib.Core.List.{List, [], ◌∷◌, map}
use mathlib.Core.Option.{some}
use borrow.Author.Tests.{ltb-true, ltb-false, eqb-true}
use lib.Dec.{ltb, eqb}
use lib.IntN.{ℤ}
use lib.ListN.{length}
use Rattle.integers.specs.Order.{Number}
use Rattle.integers.specs.Lists.{All, from}
use Rattle.integers.proofs.Tests.{and_left, and_right}
use Rattle.limits.specs.declared.Stop.{Stop}
use Rattle.limits.specs.Metered.{Metered, pure, ◌>>=◌, fold_m}
use Rattle.limits.specs.Meter.{work}
use Rattle.limits.proofs.Monad.{Ensures, by_pure, by_test, then, weaken, both}
use Rattle.limits.proofs.Ends.{Ends, completes, ends_pure, ends_test, ends_then, ends_bind, ends_through, with_value, in_some_way}
use Rattle.interval.specs.declared.Interval.{Interval}
use Rattle.interval.specs.Cousot.{◌∋◌}
use Rattle.interval.specs.Interval.{cousot, endpoints_of, meet_of}
use Rattle.interval.proofs.Members.{meet_of_has}
use Rattle.lattice.specs.Value.{Value}
use Rattle.lattice.specs.Lattice.{copied, refine}
use Rattle.lattice.proofs.Copies.{copied_is}
use Rattle.lattice.proofs.Tidiness.{refine_tidy}
use Rattle.rows.specs.Row.{value_at, put}
use Rattle.sizes.specs.Sizes.{value_row}
use Rattle.rows.specs.WellFormed.{Proper as ProperEnds}
use Rattle.rows.proofs.RowLaws.{length_put}
use Rattle.rows.proofs.Formed.{refine_formed, proper_meet}
use Rattle.keys.specs.Key.{Key, number}
use Rattle.rules.specs.declared.Relation.{Relation}
use Rattle.rules.specs.declared.Guard.{Guard}
use Rattle.rules.specs.declared.Guard.TheVariants.{Compare, Membership}
use Rattle.producers.specs.Producer.{Scope, scope}
use Rattle.producers.proofs.Scoped.{Scoped, GuardIn, scoped_there}
use Rattle.slots.specs.Slots.{Slots, slots, holding_rows, putting, refine_into, copies}
use Rattle.slots.specs.Slots as on_slots
use Rattle.sizes.specs.Sizes.{refinement_row}
use Rattle.refinements.specs.Refinement.{refinement_at, refinements_of, put_refinement, integer?, position, Notes, notes, noted, note}
use Rattle.refinements.proofs.Theorems.{length_refinement, refinement_back, refinement_kept}
use Rattle.operators.specs.Arithmetic.{span}
use Rattle.evaluation.specs.Evaluation.{Input, known_identity}
use Rattle.evaluation.specs.Evaluation as evaluation
use Rattle.affine.specs.declared.Affine.{Affine}
use Rattle.std.specs.Prelude as std
use Rattle.affine.specs.Affine.{flipped_of, restricted, neq?, affine, solved}
use Rattle.guards.specs.Guards.{Local, paying, in_slots, in_notes, narrow_slot, narrow_known, refine_operand, refine_both, narrowing?, compared, with_both, member, guard_one, guard_step, guard_all}
use Rattle.guards.specs.Guards as guards
use Rattle.guards.proofs.Live.{restricted_proper, solved_proper}
use Rattle.operators.proofs.Formed.{span_proper}
use Rattle.soundness.specs.Plain.{Choice, into, worth, ProperKey, Within, Compared, GuardHolds, AllHold}
use Rattle.soundness.specs.Tied.{plain_guard}
use Rattle.soundness.proofs.Lies.{Lies, refine_lies}
use Rattle.soundness.proofs.Worth.{Scene, ProperChoice, proper_into, Worth, Fixed, fixed_worth, worth_proper}
use Rattle.soundness.proofs.Evaluating.{Holds, Sound, integers, identity_sound}
use Rattle.soundness.proofs.Binding.{Good, Held, held_slots, held_more, Keeps, keeps_pure, keeps_replace, span_in, both_sound}
use Rattle.soundness.proofs.Affine.{related_numbers, compares_flipped, restricted_in, Means, affine_means, solved_has}

-- ---- what is recorded

-- the first k refinements hold in the firing, in a table that has them
pub record Known (w : Scene) (k : ℕ) (table : List ℕ) : Type 0 where
  pub room : refinement_row * k ≤ length table
  pub holds : (j : ℕ) → j < k → Holds w (refinement_at table j)

known_from : (w : Scene) (table : List ℕ) (j n : ℕ) → ((i : ℕ) → i < j + n → Holds w (refinement_at table i)) → All (Holds w) (from (refinement_at table) j n)
unfolding from
known_from w table j zero h = tt
known_from w table j (suc n) h = (h j (omega arith), known_from w table (j + 1) n (λ i l. h i (omega arith)))

pub known_all : {w : Scene} {k : ℕ} {table : List ℕ} → Known w k table → All (Holds w) (refinements_of table k)
known_all {w} {k} {table} h = known_from w table 0 k (λ i l. h.holds i (omega arith))

-- one more, or another in the place of one
known_put : (w : Scene) (k p id : ℕ) (i : Interval) (table : List ℕ) (k' : ℕ) → Known w k table → p < k' → refinement_row * k' ≤ length table → ((j : ℕ) → j < k' → (j ≡ p → ⊥) → j < k) → id < 2 ^ 32 → ProperEnds i →
    Holds w (record { expression = id; restriction = i }) → Known w k' (put_refinement table p id i)
known_put w k p id i table k' h l r old s q g = record {
  room = rw (length_refinement table p id i) r;
  holds = λ j m.
      elim (ℕ_discrete j p) [
        | yes e ↦ rw (ap (refinement_at (put_refinement table p id i)) e ∙ refinement_back table p id i (omega arith) s q) g
        | no e ↦ rw (refinement_kept table p id i j e) (h.holds j (old j m e))
      ];
}

-- where a search ends: at a refinement of the expression, or at the end
pub record Place (table : List ℕ) (id n p : ℕ) : Type 0 where
  pub within : p ≤ n
  pub hit : p < n → (refinement_at table p).expression ≡ id

position_finds : (table : List ℕ) (id j n : ℕ) → Ensures (Place table id (j + n)) (position j (from (refinement_at table) j n) id)
unfolding position from
position_finds table id j zero = by_pure j record { within = omega arith; hit = λ h. absurd (omega arith) }
position_finds table id j (suc n) =
    then (work 1)
    (by_test (eqb (refinement_at table j).expression id) (λ e. by_pure j record { within = omega arith; hit = λ _. eqb-true (refinement_at table j).expression id e })
    (λ _. weaken (λ p h. record { within = omega (arith, h.within); hit = λ l. h.hit (omega arith) }) (position_finds table id (j + 1) n)))

module _ (w : Scene) (k id : ℕ) (i : Interval) (s : id < 2 ^ 32) (q : ProperEnds i) (g : Holds w (record { expression = id; restriction = i })) where
  -- both what was recorded and the new restriction hold
  meets : (table : List ℕ) (p : ℕ) → p < k → Known w k table → (refinement_at table p).expression ≡ id → Holds w (record { expression = id; restriction = meet_of (refinement_at table p).restriction i })
  meets table p l h e = record {
    proper = proper_meet (refinement_at table p).restriction i (h.holds p l).proper q;
    at = λ ch pch n f.
        (meet_of_has (refinement_at table p).restriction i n).1
        ((h.holds p l).at ch pch n (subst (λ (j : ℕ). Worth w ch j (number n)) (sym e) f), g.at ch pch n f);
  }

  noted_known : (p : ℕ) (t : Notes) → Known w k t.table → Place t.table id k p → Ends (λ n u. Known w n u.table) (λ _ _. Unit {0}) (noted k id i p t)
  noted_known p t h f =
      ends_test (ltb p k)
      (λ e.
      let l : p < k = ltb-true p k e in
      let m = meets t.table p l h (f.hit l) in
      completes (known_put w k p id (meet_of (refinement_at t.table p).restriction i) t.table k h l h.room (λ j a _. a) s m.proper m))
      (λ e.
      ends_test (ltb p (length t.table / refinement_row))
      (λ d.
      let l : p < length t.table / refinement_row = ltb-true p (length t.table / refinement_row) d in
      let b : k ≤ p = not_below e in
      completes (known_put w k p id i t.table (k + 1) h (omega (arith, f.within)) (omega (arith, f.within)) (λ j a n. below j a n f.within b) s q g))
      (λ _. completes h))
    where
      not_below : ltb p k ≡ false → k ≤ p
      not_below e = ltb-false p k e

      below : (j : ℕ) → j < k + 1 → (j ≡ p → ⊥) → p ≤ k → k ≤ p → j < k
      below j a n c d = elim (dec_lt j k) [ yes h ↦ h | no h ↦ absurd (n (omega arith)) ]

  pub note_known : (t : Notes) → Known w k t.table → Ends (λ n u. Known w n u.table) (λ _ _. Unit {0}) (note k id i t)
  unfolding note
  note_known t h =
      ends_bind {P = λ p u. Place t.table id k p × (u.table ≡ t.table)} {Q = λ _ _. Unit {0}} _ (noted k id i) t
      (ends_through _ _ _ _ {P = λ p _. Place t.table id k p} {Q = λ _ _. Unit {0}} (position 0 (refinements_of t.table k) id) t
      (with_value (position 0 (refinements_of t.table k) id t.meter) (found.at t.meter)) (λ p _ f. (f, refl)) (λ _ _ _. tt))
      (λ p u f. noted_known p u (subst (Known w k) (sym f.1) h) (subst (λ (x : List ℕ). Place x id k p) (sym f.1) f.0)) (λ _ _ _. tt)
    where
      found : Ensures (Place t.table id k) (position 0 (refinements_of t.table k) id)
      found = subst (λ (n : ℕ). Ensures (Place t.table id n) (position 0 (refinements_of t.table k) id)) (omega arith) (position_finds t.table id 0 k)

-- ---- a slot is narrowed

module _ (w : Scene) (small : All (λ c. c < 2 ^ 32) w.constants) (n : ℕ) where
  refine_keeps : (slot : ℕ) → slot < n → (j : Interval) (k : ℤ) → w.slots slot ≡ number k → cousot j ∋ k → ProperEnds j → Keeps (Held w n) (refine_into w.constants slot j)
  refine_keeps slot l j k e m p =
      keeps_replace w n slot l (λ old. refine w.constants old j)
      (λ v g.
      weaken (λ u h. record { tidy = h.0; formed = h.1.0; lies = h.1.1 })
      (both (refine_tidy w.constants v j g.tidy)
      (both (refine_formed w.constants small v j g.formed p)
      (subst (λ (x : Key). Ensures (λ u. Lies w.key w.constants u x) (refine w.constants v j)) (sym e)
      (refine_lies w.key w.constants w.keys v g.tidy j k (subst ProperKey e (w.proper slot)) m (subst (Lies w.key w.constants v) e g.lies))))))

  slot_number : (slot : ℕ) (k : ℤ) → w.slots slot ≡ number k → Number k
  slot_number slot k e = subst ProperKey e (w.proper slot)

  narrow_keeps : (affine : std.Option Affine) (x : Interval) (z : ℤ) → Number z → cousot x ∋ z → Means w n affine z → Keeps (Held w n) (narrow_slot w.constants affine x)
  narrow_keeps std.None x z f h m = keeps_pure
  narrow_keeps (std.Some a) x z f h m =
      refine_keeps a.slot m.inside (solved a.shape a.constant (endpoints_of x)) m.k m.has (solved_has x m.k a.constant z (slot_number a.slot m.k m.has) f h a.shape m.is)
      (solved_proper a.shape a.constant (endpoints_of x))

-- ---- `refine_operand`

ends_choice : {A : Type 0} {P : A → Local → Type 0} (t : Bool) (m k : Metered Stop Local A) (s : Local) → (t ≡ true → Ends P (λ _ _. Unit {0}) (m s)) → (t ≡ false → Ends P (λ _ _. Unit {0}) (k s)) →
    Ends P (λ _ _. Unit {0}) (cond t m k s)
ends_choice true m k s f g = f refl
ends_choice false m k s f g = g refl

pub record Fits (w : Scene) (n k : ℕ) (s : Local) : Type 0 where
  pub held : Held w n s.produced
  pub known : Known w k s.refinements

-- a computation after which the tables fit, with the count that it answers
abbrev pub Fitting : Scene → ℕ → Metered Stop Local ℕ → Local → Type 0
Fitting w n m s = Ends (λ k t. Fits w n k t) (λ _ _. Unit {0}) (m s)

module _ (w : Scene) (small : All (λ c. c < 2 ^ 32) w.constants) (expressions n : ℕ) (few : expressions ≤ 2 ^ 32) where
  abbrev here : Scope
  here = scope w.nodes expressions n

  -- an expression that is worth z in the firing, and an interval that has z
  pub record Operand (id : ℕ) (x : Interval) : Type 0 where
    pub scoped : Scoped here id
    pub ch : Choice
    pub proper : ProperChoice ch
    pub z : ℤ
    pub worth : Worth w ch id (number z)
    pub inside : cousot x ∋ z
    pub ends : ProperEnds x

  known_operand : (k id : ℕ) (x : Interval) → Operand id x → Fixed (w.tree id) → (s : Local) → Fits w n k s → Fitting w n (narrow_known w.nodes w.constants k id x) s
  unfolding narrow_known
  known_operand k id x o fixed s f =
      ends_bind {P = λ j t. Fits w n j t} {Q = λ _ _. Unit {0}} (in_notes (note k id x)) _ s
      (ends_through _ _ _ _ {P = λ j t. Known w j t.table} {Q = λ _ _. Unit {0}} (note k id x) s
      (note_known w k id x (omega (arith, scoped_there o.scoped)) o.ends holds (notes s.meter s.refinements) f.known) (λ j t h. record { held = f.held; known = h }) (λ _ _ _. tt))
      (λ j t g.
      ends_then {P = λ _ u. Fits w n j u} {Q = λ _ _. Unit {0}} (in_slots (narrow_slot w.constants (affine w.nodes w.constants id) x)) (pure j) t
      (ends_through _ _ _ _ {P = λ _ u. Held w n u.rows} {Q = λ _ _. Unit {0}} (narrow_slot w.constants (affine w.nodes w.constants id) x) t
      ((narrow_keeps w small n (affine w.nodes w.constants id) x o.z number_z o.inside (affine_means w expressions n id o.scoped o.ch o.z o.worth)).at (slots t.meter t.produced) g.held)
      (λ _ u h. record { held = h; known = g.known }) (λ _ _ _. tt))
      (λ _ u h. ends_pure j u h) (λ _ _ _. tt))
      (λ _ _ _. tt)
    where
      number_z : Number o.z
      number_z = worth_proper w o.ch o.proper id (number o.z) o.worth

      holds : Holds w (record { expression = id; restriction = x })
      holds = record {
        proper = o.ends;
        at = λ ch pch m e.
            let one : some (number o.z) ≡ some (number m) = sym o.worth ∙ fixed_worth w.opaque w.slots (w.tree id) fixed o.ch ch ∙ e in
            let d : o.z ≡ m = cc in
            subst (λ (y : ℤ). cousot x ∋ y) d o.inside;
      }

  pub operand_sound : (k id : ℕ) (x : Interval) → Operand id x → (s : Local) → Fits w n k s → Fitting w n (refine_operand w.nodes w.constants k id x) s
  unfolding refine_operand
  operand_sound k id x o s f =
      ends_bind {P = λ t u. (t ≡ true → Fixed (w.tree id)) × Fits w n k u} {Q = λ _ _. Unit {0}} (paying (known_identity w.nodes id)) _ s
      (ends_through _ _ _ _ {P = λ t _. t ≡ true → Fixed (w.tree id)} {Q = λ _ _. Unit {0}} (known_identity w.nodes id) s
      (with_value (known_identity w.nodes id s.meter) ((identity_sound w id).at s.meter)) (λ t _ h. (h, record { held = f.held; known = f.known })) (λ _ _ _. tt))
      (λ t u h. on t u h) (λ _ _ _. tt)
    where
      on : (t : Bool) (u : Local) → (t ≡ true → Fixed (w.tree id)) × Fits w n k u → Ends (λ j v. Fits w n j v) (λ _ _. Unit {0}) (cond t (narrow_known w.nodes w.constants k id x) (pure k) u)
      on true u h = known_operand k id x o (h.0 refl) u h.1
      on false u h = ends_pure k u h.1

  -- ---- a guard, once both its expressions are worked out

  number_in : (v : Value) (k : ℤ) → Lies w.key w.constants v (number k) → cousot v.bound.interval ∋ k
  number_in v k h = h.bound

  compared_sound : (k left right : ℕ) (relation : Relation) (a b : Value) → Scoped here left → Scoped here right → Sound w left a → Sound w right b → (ch : Choice) → ProperChoice ch →
      Compared (worth w.opaque w.slots (into 0 ch) (w.tree left)) (worth w.opaque w.slots (into 1 ch) (w.tree right)) relation →
      (s : Local) → Fits w n k s → Fitting w n (compared w.nodes w.constants k left relation right a b) s
  unfolding compared refine_both
  compared_sound k left right relation a b sl sr sa sb ch pch h s f =
      ends_choice (narrowing? relation a b) _ (pure k) s
      (λ e.
      let ia = and_left (integer? a) (integer? b && not (neq? relation)) e in
      let ib = and_left (integer? b) (not (neq? relation)) (and_right (integer? a) (integer? b && not (neq? relation)) e) in
      let la = sa.covers.at (into 0 ch) (proper_into 0 pch) h.left h.is_left in
      let lb = sb.covers.at (into 1 ch) (proper_into 1 pch) h.right h.is_right in
      go (integers w a h.left ia la) (integers w b h.right ib lb) la lb)
      (λ _. ends_pure k s f)
    where
      go : (m : ℤ) × (h.left ≡ number m) → (m : ℤ) × (h.right ≡ number m) → Lies w.key w.constants a h.left → Lies w.key w.constants b h.right →
          Fitting w n
          (refine_operand w.nodes w.constants k left (restricted relation a.bound.interval b.bound.interval) >>=
          (λ j. refine_operand w.nodes w.constants j right (restricted (flipped_of relation) b.bound.interval a.bound.interval))) s
      go (m, e) (m', d) la lb =
          let wl : Worth w (into 0 ch) left (number m) = h.is_left ∙ ap some e in
          let wr : Worth w (into 1 ch) right (number m') = h.is_right ∙ ap some d in
          let fm : Number m = worth_proper w (into 0 ch) (proper_into 0 pch) left (number m) wl in
          let fm' : Number m' = worth_proper w (into 1 ch) (proper_into 1 pch) right (number m') wr in
          let im : cousot a.bound.interval ∋ m = number_in a m (subst (Lies w.key w.constants a) e la) in
          let im' : cousot b.bound.interval ∋ m' = number_in b m' (subst (Lies w.key w.constants b) d lb) in
          let c = related_numbers relation m m' (rw (e, d) at h.related) in
          ends_bind {P = λ j t. Fits w n j t} {Q = λ _ _. Unit {0}} (refine_operand w.nodes w.constants k left (restricted relation a.bound.interval b.bound.interval)) _ s
          (operand_sound k left (restricted relation a.bound.interval b.bound.interval)
          record {
            scoped = sl;
            ch = into 0 ch;
            proper = proper_into 0 pch;
            z = m;
            worth = wl;
            inside = restricted_in relation a.bound.interval b.bound.interval m m' c im im' fm fm';
            ends = restricted_proper relation a.bound.interval b.bound.interval;
          }
          s f)
          (λ j t g.
          operand_sound j right (restricted (flipped_of relation) b.bound.interval a.bound.interval)
          record {
            scoped = sr;
            ch = into 1 ch;
            proper = proper_into 1 pch;
            z = m';
            worth = wr;
            inside = restricted_in (flipped_of relation) b.bound.interval a.bound.interval m' m (compares_flipped relation m m' c) im' im fm' fm;
            ends = restricted_proper (flipped_of relation) b.bound.interval a.bound.interval;
          }
          t g)
          (λ _ _ _. tt)

  member_sound : (k slot low high : ℕ) (a b : Value) → slot < n → Sound w low a → Sound w high b → (ch : Choice) → ProperChoice ch →
      Within (worth w.opaque w.slots (into 0 ch) (w.tree low)) (worth w.opaque w.slots (into 1 ch) (w.tree high)) (w.slots slot) →
      (s : Local) → Fits w n k s → Fitting w n (member w.constants k slot a b) s
  unfolding member
  member_sound k slot low high a b l sa sb ch pch h s f =
      ends_test (integer? (value_at s.produced slot) && (integer? a && integer? b))
      (λ _.
      ends_then {P = λ _ t. Fits w n k t} {Q = λ _ _. Unit {0}} (in_slots (refine_into w.constants slot (span a.bound.interval b.bound.interval))) (pure k) s
      (ends_through _ _ _ _ {P = λ _ u. Held w n u.rows} {Q = λ _ _. Unit {0}} (refine_into w.constants slot (span a.bound.interval b.bound.interval)) s
      ((refine_keeps w small n slot l (span a.bound.interval b.bound.interval) h.at h.is
      (span_in a.bound.interval b.bound.interval h.from h.to h.at
      (number_in a h.from (sa.covers.at (into 0 ch) (proper_into 0 pch) (number h.from) h.low)) (number_in b h.to (sb.covers.at (into 1 ch) (proper_into 1 pch) (number h.to) h.high))
      h.between (slot_number w small n slot h.at h.is))
      (span_proper a.bound.interval b.bound.interval)).at (slots s.meter s.produced) f.held)
      (λ _ u g. record { held = g; known = f.known }) (λ _ _ _. tt))
      (λ _ t g. ends_pure k t g) (λ _ _ _. tt))
      (λ _. ends_pure k s f)

  -- ---- one guard

  module _ (width : ℕ) where
    abbrev over : Input
    over = record { nodes = w.nodes; constants = w.constants; width = width }

    with_both_lem : (k left right : ℕ) → Scoped here left → Scoped here right → (f : Value → Value → Metered Stop Local ℕ) →
        ((a b : Value) → Sound w left a → Sound w right b → (s : Local) → Fits w n k s → Fitting w n (f a b) s) → (s : Local) → Fits w n k s → Fitting w n (with_both over k left right f) s
    unfolding with_both
    with_both_lem k left right sl sr f h s g =
        ends_bind {P = λ p t. (Sound w left p.first × Sound w right p.second) × Fits w n k t} {Q = λ _ _. Unit {0}} _ _ s
        (ends_through _ _ _ _ {P = λ p _. Sound w left p.first × Sound w right p.second} {Q = λ _ _. Unit {0}} _ s
        (with_value _ (worked.at s.meter)) (λ p _ q. (q, record { held = g.held; known = g.known })) (λ _ _ _. tt))
        (λ p t q.
        ends_through _ _ _ _ {P = λ j u. Fits w n j u} {Q = λ _ _. Unit {0}} _ t
        (ends_through _ _ _ _ {P = λ j u. Fits w n j u} {Q = λ _ _. Unit {0}} _ t (h p.first p.second q.0.0 q.0.1 t q.1) (λ j u r. record { held = r.held; known = r.known }) (λ _ _ _. tt))
        (λ j u r. record { held = r.held; known = r.known }) (λ _ _ _. tt))
        (λ _ _ _. tt)
      where
        worked : Ensures (λ p. Sound w left p.first × Sound w right p.second) (evaluation.both over s.produced (refinements_of s.refinements k) left right)
        worked = both_sound w small expressions n width left right sl sr s.produced (held_slots g.held) (refinements_of s.refinements k) (known_all g.known)

    guard_one_lem : (k : ℕ) (g : Guard) (ch : Choice) → ProperChoice ch → GuardIn here g → GuardHolds w.opaque w.slots ch (plain_guard w.tree g) → (s : Local) → Fits w n k s → Fitting w n (guard_one over k g) s
    guard_one_lem k (Compare left relation right) ch pch i h s f =
        with_both_lem k left right i.0 i.1 (compared w.nodes w.constants k left relation right)
        (λ a b sa sb. compared_sound k left right relation a b i.0 i.1 sa sb ch pch h) s f
    guard_one_lem k (Membership slot low high) ch pch i h s f =
        with_both_lem k low high i.1.0 i.1.1 (member w.constants k slot) (λ a b sa sb. member_sound k slot low high a b i.0 sa sb ch pch h) s f

    -- each guard keeps every firing that satisfies it
    pub guard_sound : (k : ℕ) (g : Guard) (ch : Choice) → ProperChoice ch → GuardIn here g → GuardHolds w.opaque w.slots ch (plain_guard w.tree g) → (s : Local) → Fits w n k s → Fitting w n (guard_step over k g) s
    unfolding guard_step
    guard_sound k g ch pch i h s f =
        ends_then {P = λ _ t. Fits w n k t} {Q = λ _ _. Unit {0}} (paying (work 1)) (guard_one over k g) s
        (ends_through _ _ _ _ {P = λ _ _. Unit {0}} {Q = λ _ _. Unit {0}} (work 1) s (in_some_way (work 1 s.meter)) (λ _ _ _. record { held = f.held; known = f.known }) (λ _ _ _. tt))
        (λ _ t q. guard_one_lem k g ch pch i h t q) (λ _ _ _. tt)

    guards_sound : (gs : List Guard) (k : ℕ) (ch : Choice) → ProperChoice ch → All (GuardIn here) gs → AllHold (GuardHolds w.opaque w.slots) ch (map (plain_guard w.tree) gs) →
        (s : Local) → Fits w n k s → Fitting w n (fold_m (guard_step over) k gs) s
    unfolding fold_m
    guards_sound [] k ch pch i h s f = ends_pure k s f
    guards_sound (g ∷ gs) k ch pch i h s f =
        ends_bind {P = λ j t. Fits w n j t} {Q = λ _ _. Unit {0}} (guard_step over k g) _ s (guard_sound k g (into 0 ch) (proper_into 0 pch) i.0 h.0 s f)
        (λ j t q. guards_sound gs j (into 1 ch) (proper_into 1 pch) i.1 h.1 t q) (λ _ _ _. tt)

-- ---- the values before guards, copied

pub copies_held : (w : Scene) (domains : List ℕ) (m k n : ℕ) → k + n ≤ m → Held w m domains → (s : Slots) → Held w k s.rows → value_row * (k + n) ≤ length s.rows →
    Ends (λ _ t. Held w (k + n) t.rows) (λ _ _. Unit {0}) (copies domains k n s)
unfolding copies
copies_held w domains m k zero l d s h r = ends_pure tt s (subst (λ (i : ℕ). Held w i s.rows) (omega arith) h)
copies_held w domains m k (suc n) l d s h r =
    ends_bind {P = λ v t. (v ≡ value_at domains k) × (t.rows ≡ s.rows)} {Q = λ _ _. Unit {0}} (holding_rows k (on_slots.paying (copied (value_at domains k)))) _ s
    (ends_through _ _ _ _ {P = λ v t. (v ≡ value_at domains k) × (t.rows ≡ s.rows)} {Q = λ _ _. Unit {0}} _ s
    (ends_through _ _ _ _ {P = λ v _. v ≡ value_at domains k} {Q = λ _ _. Unit {0}} (copied (value_at domains k)) s
    (with_value (copied (value_at domains k) s.meter) ((copied_is (value_at domains k)).at s.meter)) (λ v _ e. (e, refl)) (λ _ _ _. tt))
    (λ v t e. e) (λ _ _ _. tt))
    (λ v t e.
    ends_then {P = λ _ u. Held w (k + 1) u.rows × (length u.rows ≡ length s.rows)} {Q = λ _ _. Unit {0}} (putting k v) (copies domains (k + 1) n) t
    (completes (put_one v t e))
    (λ _ u p. subst (λ (i : ℕ). Ends (λ _ x. Held w i x.rows) (λ _ _. Unit {0}) (copies domains (k + 1) n u)) (omega arith) (copies_held w domains m (k + 1) n (omega arith) d u p.0 (omega (arith, p.1))))
    (λ _ _ _. tt))
    (λ _ _ _. tt)
  where
    put_one : (v : Value) (t : Slots) → (v ≡ value_at domains k) × (t.rows ≡ s.rows) → Held w (k + 1) (put t.rows k v) × (length (put t.rows k v) ≡ length s.rows)
    put_one v t e =
        (held_more w k t.rows v (subst (Held w k) (sym e.1) h) (rw e.1 (omega arith)) (subst (Good w k) (sym e.0) (d.good k (omega arith))), length_put t.rows k v ∙ ap length e.1)

-- ---- all guards

module _ (w : Scene) (small : All (λ c. c < 2 ^ 32) w.constants) (expressions n width : ℕ) (few : expressions ≤ 2 ^ 32) (domains : List ℕ) (gs : List Guard) (ch : Choice) (pch : ProperChoice ch)
    (inside : All (GuardIn (scope w.nodes expressions n)) gs) (holds : AllHold (GuardHolds w.opaque w.slots) ch (map (plain_guard w.tree) gs)) where
  -- a firing whose guards hold stays inside the slots' values after guards
  pub guards_keep : (s : Local) → Held w n domains → value_row * n ≤ length s.produced →
      Fitting w n (guards.guard (record { nodes = w.nodes; constants = w.constants; width = width }) domains n gs) s
  unfolding guards.guard guard_all
  guards_keep s d room =
      ends_then {P = λ _ t. Held w n t.produced} {Q = λ _ _. Unit {0}} (in_slots (copies domains 0 n)) _ s
      (ends_through _ _ _ _ {P = λ _ t. Held w n t.rows} {Q = λ _ _. Unit {0}} (copies domains 0 n) s
      (subst (λ (i : ℕ). Ends (λ _ t. Held w i t.rows) (λ _ _. Unit {0}) (copies domains 0 n (slots s.meter s.produced))) (omega arith)
      (copies_held w domains n 0 n (omega arith) d (slots s.meter s.produced) record { room = omega arith; good = λ i l. absurd (omega arith) } (omega arith)))
      (λ _ _ h. h) (λ _ _ _. tt))
      (λ _ t h.
      ends_through _ _ _ _ {P = λ k u. Fits w n k u} {Q = λ _ _. Unit {0}} _ t
      (guards_sound w small expressions n few width gs 0 ch pch inside holds t record { held = h; known = record { room = omega arith; holds = λ j l. absurd (omega arith) } }) (λ _ _ f. f) (λ _ _ _. tt))
      (λ _ _ _. tt)
