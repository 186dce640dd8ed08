-- Tables of refinements that share their first n rows: `note`, of n that are recorded, looks at no others, so it answers alike, and the tables
-- share as many rows as are recorded then.
use Prim.Native.Nat.{ℕ, zero, suc, ◌+◌, ◌*◌, ◌/◌, ◌%◌, ◌^◌, ◌≤◌, ◌<◌}
use native.Mathlib.Omega.{arith}
use mathlib.Core.Path.{◌≡◌, refl, sym, ap, subst}
use mathlib.Core.Bool.{Bool, true, false, cond}
use mathlib.Core.List.{List, [], ◌∷◌}
use borrow.Author.Tests.{ltb-true, ltb-false}
use lib.Dec.{ltb}
use lib.ListN.{length, get_or}
use lib.Seq.{sets}
use Rattle.integers.specs.Lists.{from}
use Rattle.limits.specs.declared.Stop.{Stop}
use Rattle.limits.specs.declared.Meter.{Meter}
use Rattle.limits.specs.Metered.{Run, going, Metered, ◌>>=◌, zoom}
use Rattle.limits.proofs.Monad.{Ensures}
use Rattle.interval.specs.declared.Interval.{Interval}
use Rattle.interval.specs.Interval.{meet_of}
use Rattle.rows.specs.Row.{case_cell, low_cell, high_cell}
use Rattle.sizes.specs.Sizes.{refinement_row}
use Rattle.slots.proofs.Likewise.{Likewise, both_go, like_known, like_bind, like_through}
use Rattle.slots.proofs.Shared.{Shared, shared_kept, shared_more}
use Rattle.refinements.specs.Refinement.{Refinement, refinement_at, refinements_of, put_refinement, position, Notes, notes, noted, note}
use Rattle.guards.proofs.Room.{position_within, length_from}

-- ---- rows

-- a row among the shared ones reads the same
refinement_same : (n : ℕ) {l l' : List ℕ} → Shared (refinement_row * n) l l' → (k : ℕ) → k < n → refinement_at l k ≡ refinement_at l' k
unfolding refinement_at
refinement_same n {l} {l'} h k g =
    let first : get_or l (refinement_row * k) 0 ≡ get_or l' (refinement_row * k) 0 = h.cell (refinement_row * k) (omega arith) in
    let case : get_or l (refinement_row * k + 1) 0 ≡ get_or l' (refinement_row * k + 1) 0 = h.cell (refinement_row * k + 1) (omega arith) in
    let low : get_or l (refinement_row * k + 2) 0 ≡ get_or l' (refinement_row * k + 2) 0 = h.cell (refinement_row * k + 2) (omega arith) in
    let high : get_or l (refinement_row * k + 3) 0 ≡ get_or l' (refinement_row * k + 3) 0 = h.cell (refinement_row * k + 3) (omega arith) in
    rw (first, case, low, high)

from_same : {A : Type 0} (f g : ℕ → A) (a n : ℕ) → ((j : ℕ) → j < a + n → f j ≡ g j) → from f a n ≡ from g a n
unfolding from
from_same f g a zero h = refl
from_same f g a (suc n) h = λ d. h a (omega arith) d ∷ from_same f g (a + 1) n (λ j b. h j (omega arith)) d

-- so do all of them
pub refinements_same : (n : ℕ) {l l' : List ℕ} → Shared (refinement_row * n) l l' → refinements_of l n ≡ refinements_of l' n
refinements_same n {l} {l'} h = from_same (refinement_at l) (refinement_at l') 0 n (λ j b. refinement_same n h j (omega arith))

module _ (k id : ℕ) (i : Interval) {l l' : List ℕ} where
  put_kept : {c : ℕ} → Shared c l l' → Shared c (put_refinement l k id i) (put_refinement l' k id i)
  unfolding put_refinement
  put_kept h = shared_kept h (refinement_row * k) (id % 2 ^ 32 ∷ case_cell i ∷ low_cell i ∷ high_cell i ∷ [])

  put_more : Shared (refinement_row * k) l l' → k < length l / refinement_row → Shared (refinement_row * (k + 1)) (put_refinement l k id i) (put_refinement l' k id i)
  unfolding put_refinement
  put_more h r =
      let new : List ℕ = id % 2 ^ 32 ∷ case_cell i ∷ low_cell i ∷ high_cell i ∷ [] in
      let e : refinement_row * k + 4 ≡ refinement_row * (k + 1) = omega arith in
      subst (λ (j : ℕ). Shared j (sets l (refinement_row * k) new) (sets l' (refinement_row * k) new)) e (shared_more h (refinement_row * k) new (omega arith) (omega arith))

-- ---- `note`

pub record Recorded (n : ℕ) (s s' : Notes) : Type 0 where
  pub meter : s.meter ≡ s'.meter
  pub shared : Shared (refinement_row * n) s.table s'.table

abbrev pub Records : Run Stop Notes ℕ → Run Stop Notes ℕ → Type 0
Records x y = Likewise (λ k t t'. Recorded k t t') (λ t t'. t.meter ≡ t'.meter) x y

module _ (n id : ℕ) (i : Interval) where
  -- by whether the place is one that is recorded, and whether the table has room
  placed : ℕ → Notes → Bool → Bool → Run Stop Notes ℕ
  placed k s t u =
      cond t (going n (notes s.meter (put_refinement s.table k id (meet_of (refinement_at s.table k).restriction i))))
      (cond u (going (n + 1) (notes s.meter (put_refinement s.table k id i))) (going n s))

  noted_like : (k : ℕ) (s s' : Notes) → k ≤ n → Recorded n s s' → Records (noted n id i k s) (noted n id i k s')
  unfolding placed
  noted_like k s s' b h = known (ltb k n) refl
    where
      room : ltb k (length s.table / refinement_row) ≡ ltb k (length s'.table / refinement_row)
      room = ap (λ (c : ℕ). ltb k (c / refinement_row)) (sym h.shared.size)

      more : n ≤ k → (u : Bool) → ltb k (length s.table / refinement_row) ≡ u → Records (placed k s false u) (placed k s' false u)
      more l true e =
          let p : k ≡ n = omega arith in
          let r : k < length s.table / refinement_row = ltb-true k (length s.table / refinement_row) e in
          both_go record {
            meter = h.meter;
            shared = subst (λ (j : ℕ). Shared (refinement_row * (j + 1)) (put_refinement s.table k id i) (put_refinement s'.table k id i)) p
                (put_more k id i (subst (λ (j : ℕ). Shared (refinement_row * j) s.table s'.table) (sym p) h.shared) r);
          }
      more l false e = both_go h

      known : (t : Bool) → ltb k n ≡ t → Records (placed k s t (ltb k (length s.table / refinement_row))) (placed k s' t (ltb k (length s'.table / refinement_row)))
      known true e =
          let q = refinement_same n h.shared k (ltb-true k n e) in
          both_go record { meter = h.meter; shared = rw (sym q) (put_kept k id (meet_of (refinement_at s.table k).restriction i) h.shared) }
      known false e =
          subst (λ (u : Bool). Records (placed k s false (ltb k (length s.table / refinement_row))) (placed k s' false u)) room
          (more (ltb-false k n e) (ltb k (length s.table / refinement_row)) refl)

  pub note_like : (s s' : Notes) → Recorded n s s' → Records (note n id i s) (note n id i s')
  unfolding note
  note_like s s' h =
      subst (λ (rs : List Refinement). Records (note n id i s) ((sought rs >>= noted n id i) s')) (refinements_same n h.shared)
      (like_bind {P = λ k t t'. (k ≤ n) × Recorded n t t'} {Q = λ t t'. t.meter ≡ t'.meter} (sought (refinements_of s.table n)) (noted n id i) s s'
      (like_through _ _ _ _ {P = λ k u v. (k ≤ n) × (u ≡ v)} {Q = λ u v. u ≡ v} found s s' (like_known found h.meter (within.at s.meter) (λ k u b. (b, refl)) (λ u. refl))
      (λ k u v p. (p.0, record { meter = p.1; shared = h.shared })) (λ u v q. q))
      (λ k t t' p. noted_like k t t' p.0 p.1) (λ t t' q. q))
    where
      sought : List Refinement → Metered Stop Notes ℕ
      sought rs = zoom (λ t. t.meter) (λ m t. notes m t.table) (position 0 rs id)

      found : Metered Stop Meter ℕ
      found = position 0 (refinements_of s.table n) id

      within : Ensures (λ k. k ≤ n) found
      within = position_within 0 n (refinements_of s.table n) id (omega (arith, length_from (refinement_at s.table) 0 n))
