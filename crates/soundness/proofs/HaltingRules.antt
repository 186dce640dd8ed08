-- What a computation may be stopped with. Whatever a rule does with its slots charges work and live entries alone: here that is followed through
-- everything below a round.
use Prim.Native.Nat.{ℕ, zero, suc, ◌+◌, min, ◌/◌}
use Rattle.std.proofs.Common.{Ok, Err}
use mathlib.Core.Path.{◌≡◌, refl}
use mathlib.Core.Logic.{◌⊎◌, inl, inr}
use mathlib.Core.Bool.{Bool, true, false, cond, ◌&&◌, ◌||◌}
use mathlib.Core.List.{List, [], ◌∷◌, ◌++◌}
use mathlib.Core.Option.{Option, some, none}
use lib.Dec.{leb, ltb, eqb}
use lib.ListN.{length}
use Rattle.limits.specs.declared.Resource.{Resource}
use Rattle.limits.specs.declared.Resource.TheVariants.{Work, ValueEntries}
use Rattle.limits.specs.declared.Stop.{Stop}
use Rattle.limits.specs.declared.Budget.{Budget}
use Rattle.limits.specs.Charge.{stop_of, charge_of}
use Rattle.limits.specs.Records.{count_of, limit_of}
use Rattle.limits.specs.Metered.{Run, Metered, pure, ◌>>=◌, ◌>>◌, fold_m, through}
use Rattle.limits.specs.declared.Meter.{Meter}
use Rattle.limits.specs.Meter.{work, retain, release, charged, with_work, with_entries}
use Rattle.limits.specs.Budget as budgets
use Rattle.limits.proofs.Ends.{Ends, completes, stops, ends_as, ends_test, ends_after, ends_through}
use Rattle.interval.specs.declared.Interval.{Interval}
use Rattle.interval.specs.declared.Bound.{Bound}
use Rattle.interval.specs.declared.Constant.{Constant}
use Rattle.interval.specs.declared.Constant.TheVariants.{Number, Name, Large}
use Rattle.interval.specs.Bound.{bottom_bound, same_bound, allows_of}
use Rattle.std.specs.declared.cmp.Ordering.{Ordering}
use Rattle.std.specs.declared.cmp.Ordering.TheVariants.{Less, Equal, Greater}
use Rattle.search.specs.Seek.{Place, by, middle, seek}
use Rattle.lists.specs.Lists.{union, push, retain_all, take_one, collect, list_turns, permits_in, permits, same_ids}
use Rattle.lattice.specs.Value.{Reason}
use Rattle.lattice.specs.Value.{Value}
use Rattle.lattice.specs.Constants.{constant_at}
use Rattle.lattice.specs.Lattice.{numeric, retained, constant, copied_list, copied, same_lists, same, join_lists, join, permitted, keep_one, sift, reduce, source, meet_lists, meet, refine}
use Rattle.rows.specs.Row.{id_of, value_at}
use Rattle.nodes.specs.declared.BinaryOp.{BinaryOp}
use Rattle.nodes.specs.declared.Expression.{Expression}
use Rattle.nodes.specs.declared.Expression.TheVariants as node
use Rattle.nodes.specs.Node.{expression_at}
use Rattle.rules.specs.declared.Binding.{Binding}
use Rattle.rules.specs.declared.Binding.TheVariants.{Positive, Assign, Range, Aggregate}
use Rattle.rules.specs.declared.Relation.{Relation}
use Rattle.rules.specs.declared.Guard.{Guard}
use Rattle.rules.specs.declared.Guard.TheVariants.{Compare, Membership}
use Rattle.rules.specs.Read.{slots_at, bindings_at, guards_at}
use Rattle.slots.specs.Slots.{Slots, settled, replace, meet_into, meet_owned, refine_into, after_unit, each, tops, meet_argument, mark_dependent, copies}
use Rattle.sizes.specs.Sizes.{refinement_row}
use Rattle.refinements.specs.Refinement.{Refinement, refinements_of, integer?, narrow, restrict, position, noted, note}
use Rattle.operators.specs.Arithmetic.{empty?, difference?}
use Rattle.evaluation.specs.Evaluation.{Input, known_node, known_in, known_identity, combined, after_one, after_two, evaluate_node, evaluate_in, expression, Values, both}
use Rattle.bindings.specs.Bindings.{assigned, aggregate, spanning, ranged, meeting, meet_binding, three_passes, bind}
use Rattle.affine.specs.declared.Affine.{Affine}
use Rattle.std.specs.Prelude as std
use Rattle.affine.specs.Affine.{affine}
use Rattle.guards.specs.Guards.{Local, narrow_slot, narrow_known, refine_operand, refine_both, narrowing?, compared, with_both, member, guard_one, guard_step, guard_all, guard}
use Rattle.transfer.specs.Transfer.{guarding, rule, head}

-- ---- a computation that is stopped with a resource of R alone

module _ {S A : Type 0} (R : Resource → Type 0) where
  abbrev pub Halted : Run Stop S A → Type 0
  Halted x = Ends (λ _ _. Unit {0}) (λ e _. R e.resource) x

  pub record Halts (m : Metered Stop S A) : Type 0 where
    pub at : (s : S) → Halted (m s)

module _ {S A : Type 0} {R : Resource → Type 0} where
  pub halts_pure : (a : A) → Halts {S = S} R (pure a)
  unfolding pure
  halts_pure a = record { at = λ s. completes tt }

  pub halts_test : (b : Bool) {m n : Metered Stop S A} → Halts R m → Halts R n → Halts R (cond b m n)
  halts_test true f g = f
  halts_test false f g = g

  -- what is charged may depend on the state
  pub halts_look : {f : S → Metered Stop S A} → ((s : S) → Halts R (f s)) → Halts R (λ s. f s s)
  halts_look h = record { at = λ s. (h s).at s }

  -- of more resources
  pub halts_as : {Q : Resource → Type 0} {m : Metered Stop S A} → ((r : Resource) → R r → Q r) → Halts R m → Halts Q m
  halts_as k h = record { at = λ s. ends_as (h.at s) (λ _ _ _. tt) (λ e _ p. k e.resource p) }

module _ {S A B : Type 0} {R : Resource → Type 0} where
  pub halts_bind : {m : Metered Stop S A} {f : A → Metered Stop S B} → Halts R m → ((a : A) → Halts R (f a)) → Halts R (m >>= f)
  unfolding ◌>>=◌
  halts_bind {m} {f} h k = record { at = λ s. ends_after f (h.at s) (λ a t _. (k a).at t) (λ _ _ p. p) }

  pub halts_then : {m : Metered Stop S A} {k : Metered Stop S B} → Halts R m → Halts R k → Halts R (m >> k)
  unfolding ◌>>◌
  halts_then h k = halts_bind h (λ _. k)

module _ {S A B : Type 0} {R : Resource → Type 0} where
  pub halts_fold : {f : B → A → Metered Stop S B} → ((b : B) (a : A) → Halts R (f b a)) → (b : B) (l : List A) → Halts R (fold_m f b l)
  unfolding fold_m
  halts_fold h b [] = halts_pure b
  halts_fold h b (a ∷ l) = halts_bind (h b a) (λ b'. halts_fold h b' l)

-- for `on_stop`, `finally` and `zoom` alike
module _ {S T A : Type 0} {R : Resource → Type 0} where
  pub halts_through : (get : S → T) (kept left : S → T → S) {m : Metered Stop T A} → Halts R m → Halts R (through get kept left (λ e. e) m)
  halts_through get kept left {m} h = record { at = λ s. ends_through get kept left (λ e. e) m s (h.at (get s)) (λ _ _ _. tt) (λ _ _ p. p) }

-- ---- the charges

module _ (R : Resource → Type 0) (r : Resource) (given : R r) where
  meter_charged : (put : ℕ → Meter) (m : Meter) (t : Bool) (n limit observed : ℕ) → Halted R (charged put m (cond t (Ok n) (Err (stop_of r limit observed))))
  meter_charged put m true n limit observed = completes tt
  meter_charged put m false n limit observed = stops given

  budget_charged : (b : Budget) (t : Bool) (n limit observed : ℕ) → Halted R (budgets.charged r b (cond t (Ok n) (Err (stop_of r limit observed))))
  budget_charged b true n limit observed = completes tt
  budget_charged b false n limit observed = stops given

module _ {R : Resource → Type 0} where
  pub halts_charge : (r : Resource) → R r → (n : ℕ) → Halts R (budgets.charge r n)
  unfolding budgets.charge charge_of
  halts_charge r g n = record { at = λ b. budget_charged R r g b (leb (count_of r b.statistics + n) (limit_of r b.limits)) _ _ _ }

  pub halts_work : R Work → (n : ℕ) → Halts R (work n)
  unfolding work charge_of
  halts_work g n = record { at = λ m. meter_charged R Work g (λ k. with_work k m) m (leb (m.work + n) m.max_work) _ _ _ }

  pub halts_retain : R ValueEntries → (n : ℕ) → Halts R (retain n)
  unfolding retain charge_of
  halts_retain g n = record { at = λ m. meter_charged R ValueEntries g (λ k. with_entries k m) m (leb (m.entries + n) m.max_entries) _ _ _ }

  pub halts_release : (n : ℕ) → Halts R (release n)
  unfolding release
  halts_release n = record { at = λ m. completes tt }

-- ---- a search

module _ {R : Resource → Type 0} (given : R Work) where
  halts_by : (o : Ordering) {x y z : Metered Stop Meter Place} → Halts R x → Halts R y → Halts R z → Halts R (by o x y z)
  halts_by Less f g h = f
  halts_by Equal f g h = g
  halts_by Greater f g h = h

  pub seek_halts : (probe : ℕ → Ordering) (turns low high : ℕ) → Halts R (seek probe turns low high)
  unfolding seek
  seek_halts probe zero low high = halts_pure _
  seek_halts probe (suc f) low high =
      halts_test (ltb low high)
      (halts_then (halts_work given 1) (halts_by (probe (middle low high)) (seek_halts probe f (middle low high + 1) high) (halts_pure _) (seek_halts probe f low (middle low high)))) (halts_pure _)

-- ---- what a rule may be stopped with: work, or live entries

abbrev pub Spends : Resource → Type 0
Spends r = (r ≡ Work) ⊎ (r ≡ ValueEntries)

abbrev pub Frugal : {S A : Type 0} → Metered Stop S A → Type 0
Frugal m = Halts Spends m

pub works : (n : ℕ) → Frugal (work n)
works n = halts_work (inl refl) n

retains : (n : ℕ) → Frugal (retain n)
retains n = halts_retain (inr refl) n

-- ---- lists

pushes : (n : ℕ) → Frugal (push n)
unfolding push
pushes n = halts_through _ _ _ (retains 1)

retain_all_lem : (n count : ℕ) → Frugal (retain_all n count)
unfolding retain_all
retain_all_lem n zero = halts_pure _
retain_all_lem n (suc count) = halts_then (pushes n) (retain_all_lem (n + 1) count)

take_halts : (width n : ℕ) → Frugal (take_one width n)
unfolding take_one
take_halts width n = halts_then (halts_through _ _ _ (works 1)) (halts_test (leb (min width 16) n) (halts_then (halts_release n) (halts_pure _)) (halts_then (pushes n) (halts_pure _)))

collect_halts : (width : ℕ) (kept l : List ℕ) → Frugal (collect width kept l)
unfolding collect
collect_halts width kept [] = halts_pure _
collect_halts width kept (i ∷ l) = halts_bind (take_halts width (length kept)) (λ t. halts_test t (collect_halts width (kept ++ (i ∷ [])) l) (halts_pure _))

permits_halts : (o : Option (List ℕ)) (id : ℕ) → Frugal (permits o id)
unfolding permits_in
permits_halts none id = halts_pure _
permits_halts (some l) id = halts_bind (seek_halts (inl refl) _ list_turns 0 (length l)) (λ p. halts_pure _)

same_ids_lem : (l r : List ℕ) → Frugal (same_ids l r)
unfolding same_ids
same_ids_lem [] r = halts_pure _
same_ids_lem (a ∷ l) [] = halts_pure _
same_ids_lem (a ∷ l) (b ∷ r) = halts_then (works 1) (halts_test (eqb a b) (same_ids_lem l r) (halts_pure _))

-- ---- values

retained_halts : (id : ℕ) (b : Bound) (width : ℕ) → Frugal (retained id b width)
retained_halts id b width = halts_test (leb 1 width) (halts_then (retains 1) (halts_pure _)) (halts_pure _)

pub constant_halts : (id : ℕ) (c : Constant) (width : ℕ) → Frugal (constant id c width)
constant_halts id (Number n) width = retained_halts id _ width
constant_halts id Name width = retained_halts id _ width
constant_halts id Large width = halts_pure _

copied_list_lem : (o : Option (List ℕ)) → Frugal (copied_list o)
copied_list_lem none = halts_pure _
copied_list_lem (some l) = halts_then (works (length l)) (retain_all_lem 0 (length l))

copied_halts : (v : Value) → Frugal (copied v)
unfolding copied
copied_halts v = halts_then (works 1) (halts_then (copied_list_lem v.values) (halts_pure v))

same_lists_lem : (x y : Option (List ℕ)) → Frugal (same_lists x y)
same_lists_lem none none = halts_pure _
same_lists_lem none (some r) = halts_pure _
same_lists_lem (some l) none = halts_pure _
same_lists_lem (some l) (some r) = halts_test (eqb (length l) (length r)) (same_ids_lem l r) (halts_pure _)

pub same_halts : (u v : Value) → Frugal (same u v)
unfolding same
same_halts u v = halts_then (works 1) (halts_test (same_bound u.bound v.bound) (same_lists_lem u.values v.values) (halts_pure _))

join_lists_lem : (width : ℕ) (b : Bound) (r : Reason) (x y : Option (List ℕ)) → Frugal (join_lists width b r x y)
join_lists_lem width b r none y = halts_pure _
join_lists_lem width b r (some x) none = halts_pure _
join_lists_lem width b r (some x) (some y) = halts_bind (collect_halts width [] (union x y)) (λ kept. halts_pure _)

pub join_halts : (width : ℕ) (u v : Value) → Frugal (join width u v)
unfolding join
join_halts width u v = halts_then (works 1) (join_lists_lem width _ _ u.values v.values)

permitted_halts : (u v : Value) (i : ℕ) → Frugal (permitted u v i)
unfolding permitted
permitted_halts u v i = halts_bind (permits_halts u.values i) (λ t. halts_test t (permits_halts v.values i) (halts_pure _))

keep_halts : (u v : Value) (b : Bound) (cs : List ℕ) (n i : ℕ) → Frugal (keep_one u v b cs n i)
unfolding keep_one
keep_halts u v b cs n i =
    halts_then (halts_through _ _ _ (works 1))
    (halts_bind (halts_through _ _ _ (permitted_halts u v i)) (λ t. halts_test (t && allows_of b (constant_at cs i)) (halts_then (pushes n) (halts_pure _)) (halts_pure _)))

sift_halts : (u v : Value) (b : Bound) (cs kept l : List ℕ) → Frugal (sift u v b cs kept l)
unfolding sift
sift_halts u v b cs kept [] = halts_pure kept
sift_halts u v b cs kept (i ∷ l) = halts_bind (keep_halts u v b cs (length kept) i) (λ t. sift_halts u v b cs (cond t (kept ++ (i ∷ [])) kept) l)

reduce_halts : (b : Bound) (cs kept : List ℕ) → Frugal (reduce b cs kept)
unfolding reduce
reduce_halts b cs kept = halts_bind (halts_fold (λ h i. halts_then (halts_through _ _ _ (works 1)) (halts_pure _)) bottom_bound kept) (λ held. halts_pure _)

meet_lists_lem : (u v : Value) (b : Bound) (cs : List ℕ) (o : Option (List ℕ)) → Frugal (meet_lists u v b cs o)
meet_lists_lem u v b cs none = halts_pure _
meet_lists_lem u v b cs (some l) = halts_bind (sift_halts u v b cs [] l) (λ kept. halts_bind (reduce_halts b cs kept) (λ reduced. halts_pure _))

meet_halts : (cs : List ℕ) (u v : Value) → Frugal (meet cs u v)
unfolding meet
meet_halts cs u v = halts_then (works 1) (meet_lists_lem u v _ cs (source u.values v.values))

refine_halts : (cs : List ℕ) (v : Value) (i : Interval) → Frugal (refine cs v i)
unfolding refine
refine_halts cs v i = meet_halts cs v (numeric i)

-- ---- refinements

narrow_halts : (constants : List ℕ) (i : Interval) (v : Value) → Frugal (narrow constants i v)
narrow_halts constants i v = halts_test (integer? v) (halts_through _ _ _ (refine_halts constants v i)) (halts_pure v)

restrict_halts : (constants : List ℕ) (rs : List Refinement) (id : ℕ) (v : Value) → Frugal (restrict constants rs id v)
unfolding restrict
restrict_halts constants [] id v = halts_pure v
restrict_halts constants (r ∷ rs) id v =
    halts_then (halts_through _ _ _ (works 1)) (halts_test (eqb r.expression id) (narrow_halts constants r.restriction v) (restrict_halts constants rs id v))

position_halts : (k : ℕ) (rs : List Refinement) (id : ℕ) → Frugal (position k rs id)
unfolding position
position_halts k [] id = halts_pure k
position_halts k (r ∷ rs) id = halts_then (works 1) (halts_test (eqb r.expression id) (halts_pure k) (position_halts (k + 1) rs id))

noted_halts : (n id : ℕ) (i : Interval) (k : ℕ) → Frugal (noted n id i k)
noted_halts n id i k = record { at = λ s. ends_test (ltb k n) (λ _. completes tt) (λ _. ends_test (ltb k (length s.table / refinement_row)) (λ _. completes tt) (λ _. completes tt)) }

note_halts : (n id : ℕ) (i : Interval) → Frugal (note n id i)
unfolding note
note_halts n id i = halts_look (λ s. halts_bind (halts_through _ _ _ (position_halts 0 (refinements_of s.table n) id)) (noted_halts n id i))

-- ---- expressions

known_node_lem : (known : ℕ → Metered Stop Meter Bool) → ((id : ℕ) → Frugal (known id)) → (e : Expression) → Frugal (known_node known e)
known_node_lem known h (node.Constant k) = halts_pure _
known_node_lem known h (node.Slot s) = halts_pure _
known_node_lem known h (node.Unary op e) = h e
known_node_lem known h (node.Absolute e) = h e
known_node_lem known h (node.Binary op l r) = halts_bind (h r) (λ t. halts_test t (h l) (halts_pure _))
known_node_lem known h (node.Unknown i w) = halts_pure _

known_in_lem : (depth : ℕ) (nodes : List ℕ) (id : ℕ) → Frugal (known_in depth nodes id)
unfolding known_in
known_in_lem zero nodes id = halts_pure _
known_in_lem (suc depth) nodes id = halts_then (works 1) (known_node_lem (known_in depth nodes) (known_in_lem depth nodes) (expression_at nodes id))

known_halts : (nodes : List ℕ) (id : ℕ) → Frugal (known_identity nodes id)
unfolding known_identity
known_halts nodes id = known_in_lem (suc id) nodes id

module _ (nodes constants : List ℕ) (op : BinaryOp) (l r : ℕ) where
  combined_halts : (x y : Interval) → Frugal (combined nodes constants op l r x y)
  unfolding combined
  combined_halts x y = halts_test (empty? x || empty? y) (halts_pure _) (halts_bind (halts_test (difference? op && eqb l r) (known_halts nodes l) (halts_pure _)) (λ t. halts_pure _))

  two_halts : (a b : Value) → Frugal (after_two nodes constants op l r a b)
  unfolding after_two
  two_halts a b = halts_through _ _ _ (halts_then (works 1) (halts_bind (combined_halts a.bound.interval b.bound.interval) (λ i. halts_pure _)))

one_halts : (i : Interval) (a : Value) → Frugal (after_one i a)
unfolding after_one
one_halts i a = halts_through _ _ _ (halts_then (works 1) (halts_pure _))

module _ (i : Input) (slots : List ℕ) where
  node_halts : (evaluate : ℕ → Metered Stop Meter Value) → ((id : ℕ) → Frugal (evaluate id)) → (e : Expression) → Frugal (evaluate_node evaluate i slots e)
  node_halts evaluate h (node.Constant k) = constant_halts (id_of k) (constant_at i.constants (id_of k)) i.width
  node_halts evaluate h (node.Slot s) = copied_halts (value_at slots s)
  node_halts evaluate h (node.Unary op e) = halts_bind (h e) (λ a. one_halts _ a)
  node_halts evaluate h (node.Absolute e) = halts_bind (h e) (λ a. one_halts _ a)
  node_halts evaluate h (node.Binary op l r) = halts_bind (h l) (λ a. halts_through _ _ _ (halts_bind (h r) (two_halts i.nodes i.constants op l r a)))
  node_halts evaluate h (node.Unknown integer w) = halts_pure _

  module _ (known : List Refinement) where
    in_halts : (depth id : ℕ) → Frugal (evaluate_in depth i slots known id)
    unfolding evaluate_in
    in_halts zero id = halts_pure _
    in_halts (suc depth) id =
        halts_then (works 1) (halts_bind (node_halts (evaluate_in depth i slots known) (in_halts depth) (expression_at i.nodes id)) (restrict_halts i.constants known id))

    expression_halts : (id : ℕ) → Frugal (expression i slots known id)
    unfolding expression
    expression_halts id = in_halts (suc id) id

    both_halts : (l r : ℕ) → Frugal (both i slots known l r)
    unfolding both
    both_halts l r = halts_bind (expression_halts l) (λ a. halts_bind (halts_through _ _ _ (expression_halts r)) (λ b. halts_pure _))

-- ---- rows of slots

settled_halts : (slot : ℕ) (old : Value) (rows : List ℕ) {x : Run Stop Meter Value} → Halted Spends x → Halted Spends (settled slot old rows x)
settled_halts slot old rows (completes h) = completes tt
settled_halts slot old rows (stops h) = stops h

pub replace_halts : (slot : ℕ) {f : Value → Metered Stop Meter Value} → ((v : Value) → Frugal (f v)) → Frugal (replace slot f)
unfolding replace
replace_halts slot {f} h = record { at = λ s. settled_halts slot (value_at s.rows slot) s.rows ((h (value_at s.rows slot)).at s.meter) }

meet_into_lem : (constants : List ℕ) (slot : ℕ) (v : Value) → Frugal (meet_into constants slot v)
meet_into_lem constants slot v = replace_halts slot (λ old. meet_halts constants old v)

meet_owned_lem : (constants : List ℕ) (slot : ℕ) (v : Value) → Frugal (meet_owned constants slot v)
unfolding meet_owned
meet_owned_lem constants slot v = halts_through _ _ _ (meet_into_lem constants slot v)

refine_into_lem : (constants : List ℕ) (slot : ℕ) (i : Interval) → Frugal (refine_into constants slot i)
refine_into_lem constants slot i = replace_halts slot (λ old. refine_halts constants old i)

pub step_halts : {m : Metered Stop Slots (Unit {0})} → Frugal m → Frugal (after_unit m)
step_halts h = halts_then (halts_through _ _ _ (works 1)) h

pub each_halts : {A : Type 0} {f : A → Metered Stop Slots (Unit {0})} → ((a : A) → Frugal (f a)) → (l : List A) → Frugal (each f l)
unfolding each
each_halts h [] = halts_pure tt
each_halts h (a ∷ l) = halts_then (step_halts (h a)) (each_halts h l)

tops_halts : (k n : ℕ) → Frugal (tops k n)
unfolding tops
tops_halts k zero = halts_pure tt
tops_halts k (suc n) = halts_then (step_halts record { at = λ _. completes tt }) (tops_halts (k + 1) n)

argument_halts : (constants arguments : List ℕ) (b : Binding) → Frugal (meet_argument constants arguments b)
argument_halts constants arguments (Positive slot argument) = meet_into_lem constants slot (value_at arguments argument)
argument_halts constants arguments (Assign slot value) = halts_pure tt
argument_halts constants arguments (Range slot low high) = halts_pure tt
argument_halts constants arguments (Aggregate slot function) = halts_pure tt

dependent_halts : (b : Binding) → Frugal (mark_dependent b)
dependent_halts (Positive slot argument) = record { at = λ _. completes tt }
dependent_halts (Assign slot value) = halts_pure tt
dependent_halts (Range slot low high) = halts_pure tt
dependent_halts (Aggregate slot function) = halts_pure tt

pub copies_halts : (domains : List ℕ) (k n : ℕ) → Frugal (copies domains k n)
unfolding copies
copies_halts domains k zero = halts_pure tt
copies_halts domains k (suc n) =
    halts_bind (halts_through _ _ _ (halts_through _ _ _ (copied_halts (value_at domains k)))) (λ v. halts_then record { at = λ _. completes tt } (copies_halts domains (k + 1) n))

-- ---- bindings

spanning_halts : (p : Values) → Frugal (spanning p)
unfolding spanning
spanning_halts p = halts_through _ _ _ (halts_through _ _ _ (halts_pure _))

meeting_halts : (constants : List ℕ) (slot : ℕ) {f : List ℕ → Metered Stop Meter Value} → ((rows : List ℕ) → Frugal (f rows)) → Frugal (meeting constants slot f)
unfolding meeting
meeting_halts constants slot h = halts_look (λ s. halts_bind (halts_through _ _ _ (h s.rows)) (meet_owned_lem constants slot))

binding_halts : (i : Input) (b : Binding) → Frugal (meet_binding i b)
unfolding assigned ranged
binding_halts i (Positive slot argument) = halts_pure tt
binding_halts i (Assign slot value) = meeting_halts i.constants slot (λ rows. expression_halts i rows [] value)
binding_halts i (Range slot low high) = meeting_halts i.constants slot (λ rows. halts_bind (both_halts i rows [] low high) spanning_halts)
binding_halts i (Aggregate slot function) = meet_owned_lem i.constants slot (aggregate function)

bindings_halt : (i : Input) (arguments : List ℕ) (n : ℕ) (bs : List Binding) → Frugal (bind i arguments n bs)
unfolding bind three_passes
bindings_halt i arguments n bs =
    halts_then (tops_halts 0 n)
    (halts_through _ _ _ (halts_then (each_halts (argument_halts i.constants arguments) bs) (halts_then (each_halts dependent_halts bs) (each_halts (binding_halts i) bs))))

-- ---- guards

narrow_slot_lem : (constants : List ℕ) (a : std.Option Affine) (x : Interval) → Frugal (narrow_slot constants a x)
narrow_slot_lem constants std.None x = halts_pure tt
narrow_slot_lem constants (std.Some a) x = refine_into_lem constants a.slot _

module _ (nodes constants : List ℕ) where
  operand_halts : (n id : ℕ) (x : Interval) → Frugal (refine_operand nodes constants n id x)
  unfolding refine_operand narrow_known
  operand_halts n id x =
      halts_bind (halts_through _ _ _ (known_halts nodes id))
      (λ t.
      halts_test t
      (halts_bind (halts_through _ _ _ (note_halts n id x)) (λ k. halts_then (halts_through _ _ _ (narrow_slot_lem constants (affine nodes constants id) x)) (halts_pure k))) (halts_pure n))

  compared_halts : (n left : ℕ) (relation : Relation) (right : ℕ) (a b : Value) → Frugal (compared nodes constants n left relation right a b)
  unfolding compared refine_both
  compared_halts n left relation right a b = halts_test (narrowing? relation a b) (halts_bind (operand_halts n left _) (λ k. operand_halts k right _)) (halts_pure n)

with_both_lem : (i : Input) (n left right : ℕ) {f : Value → Value → Metered Stop Local ℕ} → ((a b : Value) → Frugal (f a b)) → Frugal (with_both i n left right f)
unfolding with_both
with_both_lem i n left right h =
    halts_look
    (λ s.
    halts_bind (halts_through _ _ _ (both_halts i s.produced (refinements_of s.refinements n) left right))
    (λ p. halts_through _ _ _ (halts_through _ _ _ (h p.first p.second))))

member_halts : (constants : List ℕ) (n slot : ℕ) (a b : Value) → Frugal (member constants n slot a b)
unfolding member
member_halts constants n slot a b = record {
  at = λ s.
      ends_test (integer? (value_at s.produced slot) && (integer? a && integer? b)) (λ _. (halts_then (halts_through _ _ _ (refine_into_lem constants slot _)) (halts_pure n)).at s)
      (λ _. (halts_pure n).at s);
}

module _ (i : Input) where
  one_guard : (n : ℕ) (g : Guard) → Frugal (guard_one i n g)
  one_guard n (Compare left relation right) = with_both_lem i n left right (compared_halts i.nodes i.constants n left relation right)
  one_guard n (Membership slot low high) = with_both_lem i n low high (member_halts i.constants n slot)

  guards_halt : (domains : List ℕ) (n : ℕ) (gs : List Guard) → Frugal (guard i domains n gs)
  unfolding guard guard_all guard_step
  guards_halt domains n gs =
      halts_then (halts_through _ _ _ (copies_halts domains 0 n)) (halts_through _ _ _ (halts_fold (λ k g. halts_then (halts_through _ _ _ (works 1)) (one_guard k g)) 0 gs))

-- ---- a rule, and the value of a head

pub rule_halts : (i : Input) (rules : List ℕ) (id : ℕ) (arguments : List ℕ) → Frugal (rule i rules id arguments)
unfolding rule guarding
rule_halts i rules id arguments =
    halts_then (halts_through _ _ _ (bindings_halt i arguments (slots_at rules id) (bindings_at rules id)))
    (halts_through _ _ _ (halts_look (λ s. halts_through _ _ _ (guards_halt i s.domains (slots_at rules id) (guards_at rules id)))))

pub head_halts : (i : Input) (produced : List ℕ) (known : List Refinement) (id : ℕ) → Frugal (head i produced known id)
unfolding head
head_halts i produced known id = expression_halts i produced known id
