-- What is seen of a value that is an operand, and of two; what is left of one that is narrowed; a slot as an operand.
use Prim.Native.Nat.{ℕ, ◌<◌}
use native.Mathlib.Omega.{arith}
use native.Mathlib.Nat.{sub-zero}
use mathlib.Core.Path.{◌≡◌, refl, sym, ap, ◌∙◌}
use mathlib.Core.Bool.{Bool, true, false, cond}
use mathlib.Core.List.{List, []}
use mathlib.Core.Option.{Option, some, none}
use lib.ListN.{length}
use Rattle.integers.specs.Lists.{from}
use Rattle.limits.specs.declared.Stop.{Stop}
use Rattle.limits.specs.Metered.{Run, going, stopped, Metered, pure, after, ◌>>=◌, ◌>>◌, fold_m, mapped, through}
use Rattle.limits.specs.declared.Meter.{Meter}
use Rattle.limits.specs.Meter.{meter, work, released, dropping}
use Rattle.limits.proofs.Monad.{then_stop, then_on}
use Rattle.interval.specs.declared.Interval.{Interval}
use Rattle.interval.specs.declared.Interval.TheVariants.{Bottom, Bounded, Unbounded}
use Rattle.interval.specs.declared.Bound.{Bound}
use Rattle.interval.specs.declared.Integrality.{Integrality}
use Rattle.interval.specs.declared.Integrality.TheVariants.{Integer, Mixed}
use Rattle.interval.specs.Interval.{meet_of}
use Rattle.interval.specs.Bound.{bottom_bound, numeric_bound, meet_bound, same_bound}
use Rattle.lattice.specs.Value.{Value, Reason, value}
use Rattle.lattice.specs.Lattice.{numeric, copied, sift, reduce, source, meet_lists, meet, refine}
use Rattle.rows.specs.Row.{listed?, list_of, entries_of}
use Rattle.refinements.specs.Refinement.{Refinement, refinements_of, narrow, restrict, position}
use Rattle.refinements.proofs.CodeLaws.{restrict_stopped, restrict_one, restrict_none}
use Rattle.evaluation.specs.declared.Operand.{Operand}
use Rattle.evaluation.specs.Evaluation.{Values}
use Rattle.evaluation.specs.Operands.{operand, numeral, shown, sees, sees_both}
-- for the crates above that have no lists
pub use Rattle.limits.proofs.Seen.{seen_went, seen_broke, seen_exits}

-- ---- what is seen of a run

-- what is shown of a run is shown of its value
pub record Origin {A B : Type 0} (f : A → B) (x : Run Stop Meter A) (b : B) (m : Meter) : Type 0 where
  pub value : A
  pub is : going value m ≡ x
  pub shows : f value ≡ b

module _ {A B : Type 0} (f : A → B) where
  pub origin : (x : Run Stop Meter A) {b : B} {m : Meter} → going b m ≡ shown f x → Origin f x b m
  origin (going a m') {b} {m} h =
      let p : b ≡ f a = cc in
      let q : m ≡ m' = cc in
      record { value = a; is = ap (λ (k : Meter). going a k) q; shows = sym p }
  origin (stopped s m') h = let z : ◌≡◌ {A = ℕ} 0 1 = cc in absurd (omega arith)

  -- or it is stopped alike
  pub shown_stopped : (x : Run Stop Meter A) {s : Stop} {m : Meter} → stopped s m ≡ shown f x → stopped s m ≡ x
  shown_stopped (going a m') h = let z : ◌≡◌ {A = ℕ} 0 1 = cc in absurd (omega arith)
  shown_stopped (stopped s' m') {s} {m} h =
      let p : s ≡ s' = cc in
      let q : m ≡ m' = cc in
      ap (λ (t : Stop). stopped t m) p ∙ ap (λ (k : Meter). stopped s' k) q

pub seen_value : (x : Run Stop Meter Value) {a : Operand} {m : Meter} → going a m ≡ sees x → Origin operand x a m
seen_value x h = origin operand x h

pub seen_stop : (x : Run Stop Meter Value) {s : Stop} {m : Meter} → stopped s m ≡ sees x → stopped s m ≡ x
seen_stop x h = shown_stopped operand x h

-- and of two
pub record Pair (x : Run Stop Meter Values) (a b : Operand) (m : Meter) : Type 0 where
  pub pair : Values
  pub is : going pair m ≡ x
  pub first : operand pair.first ≡ a
  pub second : operand pair.second ≡ b

pub seen_pair : (x : Run Stop Meter Values) {a b : Operand} {m : Meter} → going (a, b) m ≡ sees_both x → Pair x a b m
seen_pair x h =
    let o = origin (λ (p : Values). (operand p.first, operand p.second)) x h in
    record { pair = o.value; is = o.is; first = ap (λ (p : Operand × Operand). p.0) o.shows; second = ap (λ (p : Operand × Operand). p.1) o.shows }

pub pair_stop : (x : Run Stop Meter Values) {s : Stop} {m : Meter} → stopped s m ≡ sees_both x → stopped s m ≡ x
pair_stop x h = shown_stopped (λ (p : Values). (operand p.first, operand p.second)) x h

-- what the code makes of a value
pub sees_going : (v : Value) {a : Operand} {m : Meter} {x : Run Stop Meter Value} → a ≡ operand v → going v m ≡ x → going a m ≡ sees x
sees_going v {m} p h = ap (λ (a : Operand). going a m) p ∙ ap sees h

-- what follows a run that has ended
module _ {A B : Type 0} (f : A → Metered Stop Meter B) where
  pub after_stop : {y : Run Stop Meter A} {s : Stop} {m : Meter} → stopped s m ≡ y → stopped s m ≡ after y f
  unfolding after
  after_stop h = rw (← h)

  pub after_on : {y : Run Stop Meter A} {v : A} {m : Meter} → going v m ≡ y → f v m ≡ after y f
  unfolding after
  after_on h = rw (← h)

  pub after_pure : {v u : A} {m : Meter} → v ≡ u → f v m ≡ after (pure u m) f
  unfolding after pure
  after_pure e = rw e refl

-- ---- a numeric value

numeral_is : (i : Interval) → numeral i ≡ operand (numeric i)
numeral_is Bottom = refl
numeral_is (Bounded low high) = refl
numeral_is Unbounded = refl

pub sees_numeral : (i : Interval) {a : Operand} {m : Meter} {x : Run Stop Meter Value} → a ≡ numeral i → going (numeric i) m ≡ x → going a m ≡ sees x
sees_numeral i p h = sees_going (numeric i) (p ∙ numeral_is i) h

-- ---- where nothing is known

pub free : (constants cells : List ℕ) (id : ℕ) (v : Value) (m : Meter) {n : ℕ} → n ≡ 0 → going v m ≡ restrict constants (refinements_of cells n) id v m
unfolding restrict pure from
free constants cells id v m e = rw e refl

-- ---- a value without a list that is narrowed

undropped : (c : Metered Stop Meter Value) (m : Meter) → dropping 0 c m ≡ c m
unfolding through mapped
undropped c m = go (c m)
  where
    go : (x : Run Stop Meter Value) → mapped (released 0) (released 0) (λ e. e) x ≡ x
    go (going v m) = ap (λ (n : ℕ). going v (meter m.work m.max_work n m.max_entries)) (sub-zero m.entries)
    go (stopped s m) = ap (λ (n : ℕ). stopped s (meter m.work m.max_work n m.max_entries)) (sub-zero m.entries)

-- what it has in common with an interval
abbrev common : List ℕ → Bound → Reason → Interval → Metered Stop Meter Value
common constants b reason i = meet_lists (value b none reason) (numeric i) (meet_bound b (numeric i).bound) constants (source none (numeric i).values)

abbrev bare : Bound → Operand
bare b = record { bound = b; entries = 0 }

met_empty : (b : Bound) → meet_bound (meet_bound b bottom_bound) bottom_bound ≡ meet_bound b bottom_bound
unfolding meet_of
met_empty b = go b.integrality b.interval
  where
    go : (g : Integrality) (x : Interval) → meet_bound (meet_bound (record { integrality = g; interval = x }) bottom_bound) bottom_bound ≡ meet_bound (record { integrality = g; interval = x }) bottom_bound
    go Integer Bottom = refl
    go Integer (Bounded low high) = refl
    go Integer Unbounded = refl
    go Mixed Bottom = refl
    go Mixed (Bounded low high) = refl
    go Mixed Unbounded = refl

no_list : (t : Bool) → length (list_of (cond t (some []) none)) ≡ 0
no_list true = refl
no_list false = refl

seen_bare : (b : Bound) (m : Meter) {n : ℕ} → n ≡ 0 → ◌≡◌ {A = Run Stop Meter Operand} (going (bare b) m) (going (record { bound = b; entries = n }) m)
seen_bare b m e = rw e refl

common_seen : (constants : List ℕ) (b : Bound) (reason : Reason) (i : Interval) (m : Meter) → going (bare (meet_bound b (numeric_bound i))) m ≡ sees (common constants b reason i m)
unfolding sift reduce fold_m ◌>>=◌ after pure
common_seen constants b reason Bottom m = ap (λ (c : Bound). going (bare c) m) (sym (met_empty b))
common_seen constants b reason (Bounded low high) m = seen_bare _ m (no_list (same_bound (meet_bound b (numeric_bound (Bounded low high))) bottom_bound))
common_seen constants b reason Unbounded m = seen_bare _ m (no_list (same_bound (meet_bound b (numeric_bound Unbounded)) bottom_bound))

module _ (b : Bound) (i : Interval) (m : Meter) where
  pub bound_mixed : b.integrality ≡ Mixed → (constants : List ℕ) (reason : Reason) → going (bare b) m ≡ sees (narrow constants i (value b none reason) m)
  unfolding pure
  bound_mixed p constants reason = rw p

  module _ (other : b.integrality ≡ Mixed → ⊥) where
    p : b.integrality ≡ Integer
    p = go b.integrality other
      where
        go : (g : Integrality) → (g ≡ Mixed → ⊥) → g ≡ Integer
        go Integer h = refl
        go Mixed h = absurd (h refl)

    narrow_is : (constants : List ℕ) (reason : Reason) → (work 1 >> common constants b reason i) m ≡ narrow constants i (value b none reason) m
    unfolding refine meet
    narrow_is constants reason = sym (undropped (refine constants (value b none reason) i) m) ∙ rw p

    pub bound_refused : {s : Stop} {t : Meter} → stopped s t ≡ work 1 m → (constants : List ℕ) (reason : Reason) → stopped s t ≡ sees (narrow constants i (value b none reason) m)
    bound_refused q constants reason = ap sees (then_stop (work 1) m _ q ∙ narrow_is constants reason)

    pub bound_met : {t : Meter} {j d : Bound} → going tt t ≡ work 1 m → j ≡ numeric_bound i → d ≡ meet_bound b j → (constants : List ℕ) (reason : Reason) →
        going (bare d) t ≡ sees (narrow constants i (value b none reason) m)
    bound_met {t} q ej ed constants reason =
        ap (λ (c : Bound). going (bare c) t) (ed ∙ ap (meet_bound b) ej) ∙ common_seen constants b reason i t ∙ ap sees (then_on (work 1) m _ q refl ∙ narrow_is constants reason)

-- of a slot
module _ (constants : List ℕ) (i : Interval) (v : Value) (m : Meter) where
  pub unlisted_narrowed : {t : Bool} {b : Bound} {y : Run Stop Meter Operand} → t ≡ listed? v.values → t ≡ false → b ≡ v.bound → ((l : List ℕ) (reason : Reason) → y ≡ sees (narrow l i (value b none reason) m)) →
      y ≡ sees (narrow constants i v m)
  unlisted_narrowed e f p h = h constants v.widening ∙ rw p (ap (λ (o : Option (List ℕ)). sees (narrow constants i (value v.bound o v.widening) m)) (go v.values (sym e ∙ f)))
    where
      go : (o : Option (List ℕ)) → listed? o ≡ false → none ≡ o
      go none h = refl
      go (some l) h = let z : ◌≡◌ {A = ℕ} 0 1 = cc in absurd (omega arith)

-- ---- a slot as an operand

module _ (constants : List ℕ) (g : ℕ → Refinement) (count id : ℕ) (v : Value) (m : Meter) where
  abbrev Slotted : Run Stop Meter Operand → Type 0
  Slotted y = y ≡ sees (after (copied v m) (restrict constants (from g 0 count) id))

  pub copy_stopped : {s : Stop} {t : Meter} → stopped s t ≡ copied v m → Slotted (stopped s t)
  copy_stopped h = ap sees (after_stop (restrict constants (from g 0 count) id) h)

  module _ {t : Meter} (h : going v t ≡ copied v m) where
    whole : restrict constants (from g 0 count) id v t ≡ after (copied v m) (restrict constants (from g 0 count) id)
    whole = after_on (restrict constants (from g 0 count) id) h

    module _ {u : Meter} where
      pub slot_stopped : {s : Stop} {left : Meter} {n : ℕ} → stopped s u ≡ position 0 (from g 0 count) id t → n ≡ entries_of v → left ≡ released n u → Slotted (stopped s left)
      slot_stopped k e l = ap sees (restrict_stopped constants g id v count t k e l ∙ whole)

      pub slot_seen : {b : Bound} {n : ℕ} → going count u ≡ position 0 (from g 0 count) id t → b ≡ v.bound → n ≡ entries_of v → Slotted (going (record { bound = b; entries = n }) u)
      slot_seen k p e = rw (p, e) (ap sees (restrict_none constants g id v count t k ∙ whole))

      pub slot_narrowed : {k : ℕ} {j : Interval} {y : Run Stop Meter Operand} → going k u ≡ position 0 (from g 0 count) id t → k < count → j ≡ (g k).restriction → y ≡ sees (narrow constants j v u) → Slotted y
      slot_narrowed k l e n = n ∙ ap sees (restrict_one constants g id v count t k l e refl ∙ whole)
