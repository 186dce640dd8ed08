-- Thresholds stand in strictly rising order, each once: `enter` and `around` keep them so, lose none, and bring in what they are named for.
use Prim.Native.Nat.{ℕ, ◌+◌, ◌-◌, ◌≤◌, ◌<◌}
use native.Mathlib.Omega.{arith}
use native.Mathlib.Decide.{dec_lt}
use mathlib.Core.Path.{◌≡◌, refl, sym, ap, subst, ◌∙◌}
use mathlib.Core.Logic.{◌⊎◌, inl, inr}
use mathlib.Core.Bool.{Bool, true, false, cond}
use mathlib.Core.List.{List}
use lib.IntN.{ℤ, pos, ◌+ℤ◌, ◌-ℤ◌}
use lib.ListN.{length, get_or}
use Rattle.integers.specs.Order.{Lt, Number, number?}
use Rattle.integers.specs.Lists.{inserted}
use Rattle.integers.proofs.OrderLaws.{number_yes, yes_number}
use Rattle.integers.proofs.Insertion.{inserted_length, inserted_below, inserted_at, inserted_above, inserted_beyond}
use Rattle.limits.specs.declared.Stop.{Stop}
use Rattle.limits.specs.Metered.{Run, going, stopped, Metered, pure, after, ◌>>=◌, ◌>>◌}
use Rattle.search.specs.Seek.{compareℤ}
use Rattle.search.proofs.Complete.{Rising}
use Rattle.search.proofs.Total.{Sorted, rising, inserted_sorted}
use Rattle.search.proofs.Integers.{ℤ_less, less_ℤ, total_ℤ}
use Rattle.thresholds.specs.Thresholds.{Entry, against, enter, enter_number, around}
use Rattle.thresholds.proofs.Outcomes.{Charging, charging_none, charging_more, Leaves, standing, new, refused, enter_leaves}

-- the first `count` numbers of the table are strictly increasing
abbrev pub Rises : ℕ → List ℤ → Type 0
Rises count t = (p q : ℕ) → p < q → q < count → Lt (get_or t p (pos 0)) (get_or t q (pos 0))

-- z is one of the thresholds
abbrev pub Has : Entry → ℤ → Type 0
Has s z = (i : ℕ) × (i < s.count) × (get_or s.table i (pos 0) ≡ z)

-- what holds of the state s' that is left of s, by whatever end: at most `room` more, none of them but those that New names
pub record Kept (New : ℤ → Type 0) (room : ℕ) (s s' : Entry) : Type 0 where
  pub rises : Rises s'.count s'.table
  pub old : (z : ℤ) → Has s z → Has s' z
  pub fresh : (z : ℤ) → Has s' z → Has s z ⊎ New z
  pub fewest : s.count ≤ s'.count
  pub most : s'.count ≤ s.count + room
  pub behind : (k : ℕ) → s.count + room ≤ k → get_or s'.table k (pos 0) ≡ get_or s.table k (pos 0)
  pub size : length s'.table ≡ length s.table
  pub charging : Charging s.budget s'.budget

-- P of the state where a computation completes, Q where it is stopped
abbrev pub Ending : (Entry → Type 0) → (Entry → Type 0) → Run Stop Entry (Unit {0}) → Type 0
Ending P Q (going a s) = P s
Ending P Q (stopped e s) = Q s

-- the search goes by the order of the table
in_order : (n : ℕ) (t : List ℤ) → Rises n t → Sorted compareℤ (λ i. get_or t i (pos 0)) n
in_order n t s p q h k = ℤ_less (get_or t p (pos 0)) (get_or t q (pos 0)) (s p q h k)

goes_up : (t : List ℤ) (n : ℕ) (v : ℤ) → Rises n t → Rising (against t v) n
goes_up t n v s = rising total_ℤ (λ i. get_or t i (pos 0)) v n (in_order n t s)

-- ---- what is kept, step after step

module _ {New : ℤ → Type 0} where
  kept_none : (s : Entry) {s' : Entry} → Rises s.count s.table → s.count ≡ s'.count → s.table ≡ s'.table → Charging s.budget s'.budget → (room : ℕ) → Kept New room s s'
  kept_none s {s'} r e f c room = record {
    rises = rw (← e, ← f) r;
    old = λ z h. rw (← e, ← f) h;
    fresh = λ z h. inl (rw (e, f) h);
    fewest = omega arith;
    most = omega arith;
    behind = λ k h. rw f;
    size = rw f;
    charging = c;
  }

  roomier : {a b : ℕ} {s s' : Entry} → a ≤ b → Kept New a s s' → Kept New b s s'
  roomier {a} {b} {s} {s'} h k = record {
    rises = k.rises;
    old = k.old;
    fresh = k.fresh;
    fewest = k.fewest;
    most = omega (arith, k.most);
    behind = λ i l. k.behind i (omega arith);
    size = k.size;
    charging = k.charging;
  }

  kept_more : {a b : ℕ} {s s₁ s₂ : Entry} → Kept New a s s₁ → Kept New b s₁ s₂ → Kept New (a + b) s s₂
  kept_more {a} {b} {s} {s₁} {s₂} h k = record {
    rises = k.rises;
    old = λ z m. k.old z (h.old z m);
    fresh = λ z m. either (k.fresh z m);
    fewest = omega (arith, h.fewest, k.fewest);
    most = omega (arith, h.most, k.most);
    behind = λ i l. k.behind i (omega (arith, h.most)) ∙ h.behind i (omega arith);
    size = k.size ∙ h.size;
    charging = charging_more h.charging k.charging;
  }
    where
      either : {z : ℤ} → Has s₁ z ⊎ New z → Has s z ⊎ New z
      either {z} (inl m) = h.fresh z m
      either {z} (inr n) = inr n

-- ---- one step after another

ending_then : (R U : Entry → Type 0) {P Q : Entry → Type 0} (f : Metered Stop Entry (Unit {0})) (x : Run Stop Entry (Unit {0})) → Ending P Q x → ((s : Entry) → P s → Ending R U (f s)) → ((s : Entry) → Q s → U s) →
    Ending R U (after x (λ _. f))
unfolding after
ending_then R U f (going a s) h k l = k s h
ending_then R U f (stopped e s) h k l = l s h

ending_as : {P Q R U : Entry → Type 0} (x : Run Stop Entry (Unit {0})) → Ending P Q x → ((s : Entry) → P s → R s) → ((s : Entry) → Q s → U s) → Ending R U x
ending_as (going a s) h k l = k s h
ending_as (stopped e s) h k l = l s h

-- ---- `enter`

-- no thresholds stand in order
pub rises_none : (t : List ℤ) → Rises 0 t
rises_none t = λ p q l m. absurd (omega arith)

module _ (New : ℤ → Type 0) (v : ℤ) (named : New v) (s : Entry) (r : Rises s.count s.table) (g : s.count < length s.table) where
  module _ (low : ℕ) (k : low ≤ s.count) where
    stay_old : (z : ℤ) → Has s z → (i : ℕ) × (i < s.count + 1) × (get_or (inserted s.table low s.count v) i (pos 0) ≡ z)
    stay_old z h = elim (dec_lt h.0 low) [
      | yes b ↦ (h.0, omega (arith, h.1), inserted_below (pos 0) s.table low s.count v h.0 b ∙ h.2)
      | no b ↦ (h.0 + 1, omega (arith, h.1), inserted_above (pos 0) s.table low s.count v k g h.0 (omega arith) (omega (arith, h.1)) ∙ h.2)
    ]

    come_new : (z : ℤ) → (i : ℕ) × (i < s.count + 1) × (get_or (inserted s.table low s.count v) i (pos 0) ≡ z) → Has s z ⊎ New z
    come_new z h = go (dec_lt h.0 low) (dec_lt low h.0)
      where
        go : Dec (h.0 < low) → Dec (low < h.0) → Has s z ⊎ New z
        go (yes b) c = inl (h.0, omega arith, sym (inserted_below (pos 0) s.table low s.count v h.0 b) ∙ h.2)
        go (no b) (yes c) = inl (h.0 - 1, omega (arith, h.1), sym (inserted_above (pos 0) s.table low s.count v k g (h.0 - 1) (omega arith) (omega (arith, h.1))) ∙ ap (λ (i : ℕ). get_or (inserted s.table low s.count v) i (pos 0)) (omega arith) ∙ h.2)
        go (no b) (no c) =
            let e : h.0 ≡ low = omega arith in
            inr (subst New (sym (inserted_at (pos 0) s.table low s.count v k g) ∙ ap (λ (i : ℕ). get_or (inserted s.table low s.count v) i (pos 0)) (sym e) ∙ h.2) named)

  left : {x : Run Stop Entry (Unit {0})} → Leaves v s x → Ending (λ s'. Kept New 1 s s' × Has s' v) (Kept New 1 s) x
  left (standing {i} {b} c k l) =
      (kept_none s r refl refl c 1, (i, k, total_ℤ.equal (get_or s.table i (pos 0)) v (l (goes_up s.table s.count v r)).1))
  left (new {low} {b} c k l) =
      let m = l (goes_up s.table s.count v r) in (
        record {
          rises = λ p q i j.
              less_ℤ (get_or (inserted s.table low s.count v) p (pos 0)) (get_or (inserted s.table low s.count v) q (pos 0))
              (inserted_sorted total_ℤ (λ z. z) (pos 0) s.table s.count low v k g (in_order s.count s.table r) m.1 m.2 p q i j);
          old = λ z h. stay_old low k z h;
          fresh = λ z h. come_new low k z h;
          fewest = omega arith;
          most = omega arith;
          behind = λ j h. inserted_beyond (pos 0) s.table low s.count v k g j (omega arith);
          size = inserted_length (pos 0) s.table low s.count v;
          charging = c;
        },
        (low, omega arith, inserted_at (pos 0) s.table low s.count v k g),
      )
  left (refused c) = kept_none s r refl refl c 1

  enter_in : Ending (λ s'. Kept New 1 s s' × Has s' v) (Kept New 1 s) (enter v s)
  enter_in = left (enter_leaves v s)

number_in : (New : ℤ → Type 0) (v : ℤ) → (Number v → New v) → (s : Entry) → Rises s.count s.table → s.count < length s.table →
    Ending (λ s'. Kept New 1 s s' × (Number v → Has s' v)) (Kept New 1 s) (enter_number v s)
unfolding enter_number pure
number_in New v named s r g = go (number? v) refl
  where
    go : (t : Bool) → number? v ≡ t → Ending (λ s'. Kept New 1 s s' × (Number v → Has s' v)) (Kept New 1 s) (cond t (enter v) (λ (u : Entry). going tt u) s)
    go true e = ending_as (enter v s) (enter_in New v (named (number_yes v e)) s r g) (λ s' h. (h.0, λ _. h.1)) (λ s' h. h)
    go false e = (kept_none s r refl refl (charging_none s.budget) 1, λ n. let f = yes_number v n in let y : ◌≡◌ {A = ℕ} 0 1 = cc in absurd (omega arith))

-- v stands afterwards, if nothing was refused, and nothing but v is new
pub enter_keeps : (v : ℤ) (s : Entry) → Rises s.count s.table → s.count < length s.table →
    Ending (λ s'. Kept (λ z. z ≡ v) 1 s s' × Has s' v) (Kept (λ z. z ≡ v) 1 s) (enter v s)
enter_keeps v s r g = enter_in (λ z. z ≡ v) v refl s r g

-- a refused `enter` changes the budget alone
pub enter_stopped : (v : ℤ) (s : Entry) → Ending (λ _. Unit {0}) (λ s'. (s'.count ≡ s.count) × (s'.table ≡ s.table)) (enter v s)
enter_stopped v s = go (enter_leaves v s)
  where
    go : {x : Run Stop Entry (Unit {0})} → Leaves v s x → Ending (λ _. Unit {0}) (λ s'. (s'.count ≡ s.count) × (s'.table ≡ s.table)) x
    go (standing c k l) = tt
    go (new c k l) = tt
    go (refused c) = (refl, refl)

-- whatever the table holds: nothing is charged but work and links, and at most n numbers are new
abbrev pub Grows : ℕ → Entry → Entry → Type 0
Grows n s s' = Charging s.budget s'.budget × (s.count ≤ s'.count) × (s'.count ≤ s.count + n)

pub enter_grows : (v : ℤ) (s : Entry) → Ending (Grows 1 s) (Grows 1 s) (enter v s)
enter_grows v s = go (enter_leaves v s)
  where
    go : {x : Run Stop Entry (Unit {0})} → Leaves v s x → Ending (Grows 1 s) (Grows 1 s) x
    go (standing c k l) = (c, omega arith, omega arith)
    go (new c k l) = (c, omega arith, omega arith)
    go (refused c) = (c, omega arith, omega arith)

number_grows : (v : ℤ) (s : Entry) → Ending (Grows 1 s) (Grows 1 s) (enter_number v s)
unfolding enter_number pure
number_grows v s = go (number? v)
  where
    go : (t : Bool) → Ending (Grows 1 s) (Grows 1 s) (cond t (enter v) (λ (u : Entry). going tt u) s)
    go true = enter_grows v s
    go false = (charging_none s.budget, omega arith, omega arith)

grows_more : (a b c : ℕ) (s s₁ s₂ : Entry) → a + b ≤ c → Grows a s s₁ → Grows b s₁ s₂ → Grows c s s₂
grows_more a b c s s₁ s₂ e h k = (charging_more h.0 k.0, omega (arith, h.1, k.1), omega (arith, h.2, k.2))

-- ---- `around`

-- z is v, or next to it and of 32 bits
abbrev pub Near : ℤ → ℤ → Type 0
Near v z = (Number z × (z ≡ v -ℤ pos 1)) ⊎ ((z ≡ v) ⊎ (Number z × (z ≡ v +ℤ pos 1)))

-- v stands, and so do its neighbours of 32 bits
abbrev pub Surrounded : ℤ → Entry → Type 0
Surrounded v s = Has s v × (Number (v -ℤ pos 1) → Has s (v -ℤ pos 1)) × (Number (v +ℤ pos 1) → Has s (v +ℤ pos 1))

pub around_keeps : (v : ℤ) (s : Entry) → Rises s.count s.table → s.count + 3 ≤ length s.table →
    Ending (λ s'. Kept (Near v) 3 s s' × Surrounded v s') (Kept (Near v) 3 s) (around v s)
unfolding around ◌>>◌ ◌>>=◌
around_keeps v s r g =
    ending_then (λ s'. Kept (Near v) 3 s s' × Surrounded v s') (Kept (Near v) 3 s) (enter v >> enter_number (v +ℤ pos 1)) (enter_number (v -ℤ pos 1) s) (number_in (Near v) (v -ℤ pos 1) (λ n. inl (n, refl)) s r (omega arith))
    (λ s₁ h.
    ending_then (λ s'. Kept (Near v) 3 s s' × Surrounded v s') (Kept (Near v) 3 s) (enter_number (v +ℤ pos 1)) (enter v s₁) (enter_in (Near v) v (inr (inl refl)) s₁ h.0.rises (omega (arith, h.0.most, h.0.size)))
    (λ s₂ k.
    ending_as (enter_number (v +ℤ pos 1) s₂) (number_in (Near v) (v +ℤ pos 1) (λ n. inr (inr (n, refl))) s₂ k.0.rises (omega (arith, h.0.most, h.0.size, k.0.most, k.0.size)))
    (λ s₃ l.
    (roomier (omega arith) (kept_more (kept_more h.0 k.0) l.0), (l.0.old v k.1, (λ n. l.0.old (v -ℤ pos 1) (k.0.old (v -ℤ pos 1) (h.1 n))), l.1)))
    (λ s₃ l. roomier (omega arith) (kept_more (kept_more h.0 k.0) l)))
    (λ s₂ k. roomier (omega arith) (kept_more h.0 k)))
    (λ s₁ h. roomier (omega arith) h)

pub around_grows : (v : ℤ) (s : Entry) → Ending (Grows 3 s) (Grows 3 s) (around v s)
unfolding around ◌>>◌ ◌>>=◌
around_grows v s =
    ending_then (Grows 3 s) (Grows 3 s) (enter v >> enter_number (v +ℤ pos 1)) (enter_number (v -ℤ pos 1) s) (number_grows (v -ℤ pos 1) s)
    (λ s₁ h.
    ending_then (Grows 3 s) (Grows 3 s) (enter_number (v +ℤ pos 1)) (enter v s₁) (enter_grows v s₁)
    (λ s₂ k. ending_as (enter_number (v +ℤ pos 1) s₂) (number_grows (v +ℤ pos 1) s₂) (λ s₃ l. both s₁ h s₂ k s₃ l) (λ s₃ l. both s₁ h s₂ k s₃ l))
    (λ s₂ k. grows_more 1 1 3 s s₁ s₂ (omega arith) h k))
    (λ s₁ h. (h.0, h.1, omega (arith, h.2)))
  where
    both : (s₁ : Entry) → Grows 1 s s₁ → (s₂ : Entry) → Grows 1 s₁ s₂ → (s₃ : Entry) → Grows 1 s₂ s₃ → Grows 3 s s₃
    both s₁ h s₂ k s₃ l = grows_more 2 1 3 s s₂ s₃ (omega arith) (grows_more 1 1 2 s s₁ s₂ (omega arith) h k) l
