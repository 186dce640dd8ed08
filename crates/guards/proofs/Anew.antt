-- What the tables of a rule held before does not matter to its guards: the slots' values after guards are copied into a table of exactly n rows,
-- and only as many refinements are read as are recorded. So from any such tables `guard` ends alike.
use Prim.Native.Nat.{ℕ, ◌*◌}
use mathlib.Core.Path.{◌≡◌, refl, ap, subst}
use mathlib.Core.Bool.{Bool, true, false, cond}
use mathlib.Core.List.{List}
use lib.ListN.{length}
use Rattle.limits.specs.declared.Stop.{Stop}
use Rattle.limits.specs.declared.Meter.{Meter}
use Rattle.limits.specs.Metered.{Metered, pure, ◌>>=◌, ◌>>◌}
use Rattle.limits.specs.Meter.{work, released}
use Rattle.interval.specs.declared.Interval.{Interval}
use Rattle.lattice.specs.Value.{Value}
use Rattle.sizes.specs.Sizes.{value_row, refinement_row}
use Rattle.rows.specs.Row.{entries_of, value_at}
use Rattle.rules.specs.declared.Relation.{Relation}
use Rattle.rules.specs.declared.Guard.{Guard}
use Rattle.rules.specs.declared.Guard.TheVariants.{Compare, Membership}
use Rattle.slots.specs.Slots.{Slots, slots, total, refine_into, copies}
use Rattle.slots.proofs.Likewise.{Likewise, like_pure, like_test, like_bind, like_then, like_fold, like_through, like_part}
use Rattle.slots.proofs.Shared.{Shared, shared_none}
use Rattle.slots.proofs.Anew.{copies_anew}
use Rattle.refinements.specs.Refinement.{Refinement, refinements_of, note}
use Rattle.operators.specs.Arithmetic.{span}
use Rattle.evaluation.specs.Evaluation.{Input, Values, known_identity, both}
use Rattle.affine.specs.Affine.{affine}
use Rattle.guards.specs.Guards.{Local, local, paying, in_slots, in_notes, dropping, holding_produced, narrow_slot, narrow_known, refine_operand, refine_both, narrowing?, compared, spanning?, member, with_both, guard_one, guard_step, guard_all, guard}
use Rattle.guards.proofs.Recorded.{refinements_same, note_like}

-- ---- of the same counts and values after guards, with the first k refinements the same

pub record Beside (k : ℕ) (s s' : Local) : Type 0 where
  pub meter : s.meter ≡ s'.meter
  pub produced : s.produced ≡ s'.produced
  pub shared : Shared (refinement_row * k) s.refinements s'.refinements

-- what a stop leaves of them
abbrev pub Left : Local → Local → Type 0
Left s s' = (s.meter ≡ s'.meter) × (s.produced ≡ s'.produced)

-- and of them, after what has been produced is dropped
abbrev pub Spent : Local → Local → Type 0
Spent s s' = s.meter ≡ s'.meter

abbrev Keeps : {A : Type 0} → (A → ℕ) → ℕ → Metered Stop Local A → Type 0
Keeps of n m = (s s' : Local) → Beside n s s' → Likewise (λ a t t'. Beside (of a) t t') Left (m s) (m s')

-- what records nothing, and what answers how many are recorded
abbrev Stays : {A : Type 0} → ℕ → Metered Stop Local A → Type 0
Stays n m = Keeps (λ _. n) n m

abbrev Adds : ℕ → Metered Stop Local ℕ → Type 0
Adds n m = Keeps (λ k. k) n m

-- ---- on a part of the state

module _ (n : ℕ) where
  stays_paying : {A : Type 0} (m : Metered Stop Meter A) → Stays n (paying m)
  stays_paying m s s' h =
      like_part _ _ _ _ m s s' h.meter (λ _ u. record { meter = refl; produced = h.produced; shared = h.shared }) (λ u. (refl, h.produced))

  stays_slots : {A : Type 0} (m : Metered Stop Slots A) → Stays n (in_slots m)
  stays_slots m s s' h =
      like_part _ _ _ _ m s s' (λ d. slots (h.meter d) (h.produced d)) (λ _ u. record { meter = refl; produced = refl; shared = h.shared }) (λ u. (refl, refl))

  adds_note : (id : ℕ) (x : Interval) → Adds n (in_notes (note n id x))
  adds_note id x s s' h =
      like_through _ _ _ _ (note n id x) s s' (note_like n id x _ _ record { meter = h.meter; shared = h.shared })
      (λ _ u v p. record { meter = p.meter; produced = h.produced; shared = p.shared }) (λ u v p. (p, h.produced))

  adds_dropping : (v : Value) (m : Metered Stop Local ℕ) → Adds n m → Adds n (dropping v m)
  adds_dropping v m k s s' h =
      like_through _ _ _ _ m s s' (k s s' h) (λ _ t t' p. record { meter = ap (released (entries_of v)) p.meter; produced = p.produced; shared = p.shared })
      (λ t t' p. (ap (released (entries_of v)) p.0, p.1))

  adds_pure : Adds n (pure n)
  adds_pure s s' h = like_pure n s s' h

  adds_test : (b : Bool) (m m' : Metered Stop Local ℕ) → Adds n m → Adds n m' → Adds n (cond b m m')
  adds_test b m m' f g s s' h = like_test b m m' s s' (f s s' h) (g s s' h)

  adds_bind : (m : Metered Stop Local ℕ) (f : ℕ → Metered Stop Local ℕ) → Adds n m → ((k : ℕ) → Adds k (f k)) → Adds n (m >>= f)
  adds_bind m f k l s s' h = like_bind m f s s' (k s s' h) (λ a t t' p. l a t t' p) (λ t t' p. p)

  -- after what records nothing
  adds_after : {A : Type 0} (m : Metered Stop Local A) (f : A → Metered Stop Local ℕ) → Stays n m → ((a : A) → Adds n (f a)) → Adds n (m >>= f)
  adds_after m f k l s s' h = like_bind m f s s' (k s s' h) (λ a t t' p. l a t t' p) (λ t t' p. p)

  adds_then : {A : Type 0} (m : Metered Stop Local A) (f : Metered Stop Local ℕ) → Stays n m → Adds n f → Adds n (m >> f)
  adds_then m f k l s s' h = like_then m f s s' (k s s' h) (λ _ t t' p. l t t' p) (λ t t' p. p)

-- ---- comparisons

module _ (nodes constants : List ℕ) where
  adds_known : (n id : ℕ) (x : Interval) → Adds n (narrow_known nodes constants n id x)
  unfolding narrow_known
  adds_known n id x =
      adds_bind n (in_notes (note n id x)) _ (adds_note n id x)
      (λ k. adds_then k (in_slots (narrow_slot constants (affine nodes constants id) x)) (pure k) (stays_slots k _) (adds_pure k))

  adds_operand : (n id : ℕ) (x : Interval) → Adds n (refine_operand nodes constants n id x)
  unfolding refine_operand
  adds_operand n id x =
      adds_after n (paying (known_identity nodes id)) _ (stays_paying n (known_identity nodes id))
      (λ t. adds_test n t (narrow_known nodes constants n id x) (pure n) (adds_known n id x) (adds_pure n))

  adds_both : (n left : ℕ) (x : Interval) (right : ℕ) (y : Interval) → Adds n (refine_both nodes constants n left x right y)
  unfolding refine_both
  adds_both n left x right y = adds_bind n (refine_operand nodes constants n left x) _ (adds_operand n left x) (λ k. adds_operand k right y)

  adds_compared : (n left : ℕ) (relation : Relation) (right : ℕ) (a b : Value) → Adds n (compared nodes constants n left relation right a b)
  unfolding compared
  adds_compared n left relation right a b = adds_test n (narrowing? relation a b) (refine_both nodes constants n left _ right _) (pure n) (adds_both n left _ right _) (adds_pure n)

-- ---- a membership guard

adds_member : (constants : List ℕ) (n slot : ℕ) (a b : Value) → Adds n (member constants n slot a b)
unfolding member
adds_member constants n slot a b s s' h =
    subst (λ (p : List ℕ). Likewise (λ k t t'. Beside k t t') Left (chosen (spanning? (value_at s.produced slot) a b) s) (chosen (spanning? (value_at p slot) a b) s')) h.produced
    (both_chosen (spanning? (value_at s.produced slot) a b))
  where
    spanned : Metered Stop Local ℕ
    spanned = in_slots (refine_into constants slot (span a.bound.interval b.bound.interval)) >> pure n

    chosen : Bool → Metered Stop Local ℕ
    chosen b t = cond b (spanned t) (pure n t)

    both_chosen : (b : Bool) → Likewise (λ k t t'. Beside k t t') Left (chosen b s) (chosen b s')
    both_chosen true = adds_then n (in_slots (refine_into constants slot _)) (pure n) (stays_slots n _) (adds_pure n) s s' h
    both_chosen false = adds_pure n s s' h

-- ---- a guard of either kind

adds_with : (i : Input) (n left right : ℕ) (f : Value → Value → Metered Stop Local ℕ) → ((a b : Value) → Adds n (f a b)) → Adds n (with_both i n left right f)
unfolding with_both
adds_with i n left right f k s s' h =
    subst (λ (x : List ℕ × List Refinement). Likewise (λ k t t'. Beside k t t') Left (over (s.produced, refinements_of s.refinements n) s) (over x s'))
    (λ d. (h.produced d, refinements_same n h.shared d))
    (adds_after n (paying (both i s.produced (refinements_of s.refinements n) left right)) use_both (stays_paying n _)
    (λ p. adds_dropping n p.first _ (adds_dropping n p.second (f p.first p.second) (k p.first p.second))) s s' h)
  where
    use_both : Values → Metered Stop Local ℕ
    use_both p = dropping p.first (dropping p.second (f p.first p.second))

    over : List ℕ × List Refinement → Metered Stop Local ℕ
    over x = paying (both i x.0 x.1 left right) >>= use_both

module _ (i : Input) where
  adds_one : (n : ℕ) (g : Guard) → Adds n (guard_one i n g)
  adds_one n (Compare left relation right) = adds_with i n left right _ (adds_compared i.nodes i.constants n left relation right)
  adds_one n (Membership slot low high) = adds_with i n low high _ (adds_member i.constants n slot)

  adds_step : (n : ℕ) (g : Guard) → Adds n (guard_step i n g)
  unfolding guard_step
  adds_step n g = adds_then n (paying (work 1)) (guard_one i n g) (stays_paying n (work 1)) (adds_one n g)

  adds_all : (gs : List Guard) → Adds 0 (guard_all i gs)
  unfolding guard_all
  adds_all gs s s' h = like_fold (λ b a t t' p. adds_step b a t t' p) 0 gs s s' h

  module _ (domains : List ℕ) (n : ℕ) (gs : List Guard) (m : Meter) (p p' r r' : List ℕ)
      (size : length p ≡ value_row * n) (same : length p' ≡ length p) (alike : length r' ≡ length r) where
    -- both go on with the same answer, counts and values after guards, and as many refinements the same as the answer says are recorded, or both
    -- are stopped with the same stop and the same counts
    pub guard_anew : Likewise (λ k s s'. Beside k s s') Spent (guard i domains n gs (local m p r)) (guard i domains n gs (local m p' r'))
    unfolding guard
    guard_anew =
        like_then {P = λ _ t t'. Beside 0 t t'} {Q = Spent} (in_slots (copies domains 0 n)) (holding_produced n (guard_all i gs)) (local m p r) (local m p' r')
        (like_through _ _ _ _ (copies domains 0 n) (local m p r) (local m p' r') (copies_anew n m p p' size same domains)
        (λ _ u v e. record { meter = λ d. (e d).meter; produced = λ d. (e d).rows; shared = shared_none alike }) (λ u v e. e))
        (λ _ t t' q.
        like_through _ _ _ _ (guard_all i gs) t t' (adds_all gs t t' q) (λ _ u v e. e) (λ u v e d. released (total (e.1 d) n) (e.0 d)))
        (λ t t' q. q)
