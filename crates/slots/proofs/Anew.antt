-- What a table of slots held before does not matter: a table of exactly n rows is written row by row before any of them is read, so from two
-- tables of this length `tops` and `copies` end alike.
use Prim.Native.Nat.{ℕ, zero, suc, ◌+◌, ◌*◌, ◌≤◌, ◌<◌}
use native.Mathlib.Omega.{arith}
use mathlib.Core.Path.{◌≡◌, refl, sym, ap, subst, ◌∙◌}
use mathlib.Core.List.{List}
use lib.ListN.{length, drop}
use lib.Seq.{sets, ext_get_or}
use Rattle.limits.specs.Metered.{◌>>◌}
use Rattle.limits.specs.declared.Meter.{Meter}
use Rattle.limits.specs.Meter.{work, released}
use Rattle.std.specs.Prelude.{None}
use Rattle.lattice.specs.Value.{Value}
use Rattle.lattice.specs.Lattice.{top, copied}
use Rattle.sizes.specs.Sizes.{value_row}
use Rattle.rows.specs.Row.{padded, encode, decode, value_at, put}
use Rattle.rows.proofs.RowLaws.{length_padded, length_encode, row_cell, length_put}
use Rattle.slots.specs.Slots.{Slots, slots, paying, holding_rows, total, putting, after_unit, tops, copies}
use Rattle.slots.proofs.Live.{total_same}
use Rattle.slots.proofs.Shared.{Shared, shared_none, shared_all, shared_more}
use Rattle.slots.proofs.Likewise.{Likewise, both_go, like_as, like_pure, like_bind, like_then, like_through, like_part}

-- ---- rows of values

-- a row among the shared cells reads the same
pub shared_value : {k : ℕ} {l l' : List ℕ} → Shared k l l' → (i : ℕ) → value_row * i + value_row ≤ k → value_at l i ≡ value_at l' i
unfolding value_at
shared_value {k} {l} {l'} h i r =
    ap decode (
    ext_get_or 0 (padded value_row (drop (value_row * i) l)) (padded value_row (drop (value_row * i) l'))
    (length_padded value_row (drop (value_row * i) l) ∙ sym (length_padded value_row (drop (value_row * i) l')))
    (λ j g.
    let g' : j < value_row = omega (arith, length_padded value_row (drop (value_row * i) l)) in
    row_cell l (value_row * i) j g' ∙ h.cell (value_row * i + j) (omega arith) ∙ sym (row_cell l' (value_row * i) j g'))
    )

pub shared_total : {k : ℕ} {l l' : List ℕ} → Shared k l l' → (n : ℕ) → value_row * n ≤ k → total l n ≡ total l' n
shared_total {k} {l} {l'} h n r = total_same l' l n (λ i g. shared_value h i (omega arith))

-- a row that is put after the shared ones is shared
pub shared_put : (k : ℕ) {l l' : List ℕ} → Shared (value_row * k) l l' → (v : Value) → value_row * (k + 1) ≤ length l → Shared (value_row * (k + 1)) (put l k v) (put l' k v)
unfolding put
shared_put k {l} {l'} h v r =
    let n = length_encode v in
    let e : value_row * k + length (encode v) ≡ value_row * (k + 1) = omega arith in
    subst (λ (j : ℕ). Shared j (sets l (value_row * k) (encode v)) (sets l' (value_row * k) (encode v))) e (shared_more h (value_row * k) (encode v) (omega arith) (omega arith))

-- ---- runs over tables of exactly n rows, of which k are shared

-- of the same counts, and what is needed of the tables between two rows
pub record Level (n k : ℕ) (s s' : Slots) : Type 0 where
  pub meter : s.meter ≡ s'.meter
  pub size : length s.rows ≡ value_row * n
  pub shared : Shared (value_row * k) s.rows s'.rows

-- what a stop leaves of them: the counts
abbrev pub Paid : Slots → Slots → Type 0
Paid s s' = s.meter ≡ s'.meter

-- of all n rows the states are the same
pub level_all : {n : ℕ} {s s' : Slots} → Level n n s s' → s ≡ s'
level_all {n} {s} {s'} h = λ d. slots (h.meter d) (shared_all h.shared (omega (arith, h.size)) d)

-- with other counts
level_meter : {n k : ℕ} (s s' : Slots) → Level n k s s' → (m : Meter) → Level n k (slots m s.rows) (slots m s'.rows)
level_meter s s' h m = record { meter = refl; size = h.size; shared = h.shared }

-- with one row more
level_put : {n k : ℕ} (s s' : Slots) → k < n → Level n k s s' → (v : Value) → Level n (k + 1) (slots s.meter (put s.rows k v)) (slots s'.meter (put s'.rows k v))
level_put {n} {k} s s' l h v = record { meter = h.meter; size = length_put s.rows k v ∙ h.size; shared = shared_put k h.shared v (omega (arith, h.size)) }

tops_level : (n k j : ℕ) → k + j ≡ n → (s s' : Slots) → Level n k s s' → Likewise (λ _ t t'. Level n n t t') Paid (tops k j s) (tops k j s')
unfolding tops
tops_level n k zero e s s' h = like_pure tt s s' (let d : k ≡ n = omega arith in subst (λ (i : ℕ). Level n i s s') d h)
tops_level n k (suc j) e s s' h =
    like_then {P = λ _ t t'. Level n (k + 1) t t'} {Q = Paid} (after_unit (putting k (top None))) (tops (k + 1) j) s s'
    (like_then {P = λ _ t t'. Level n k t t'} {Q = Paid} (paying (work 1)) (putting k (top None)) s s'
    (like_part _ _ _ _ (work 1) s s' h.meter (λ _ m. level_meter s s' h m) (λ m. refl))
    (λ _ t t' q. both_go (level_put t t' (omega arith) q (top None))) (λ t t' q. q))
    (λ _ t t' q. tops_level n (k + 1) j (omega arith) t t' q) (λ t t' q. q)

copies_level : (domains : List ℕ) (n k j : ℕ) → k + j ≡ n → (s s' : Slots) → Level n k s s' →
    Likewise (λ _ t t'. Level n n t t') Paid (copies domains k j s) (copies domains k j s')
unfolding copies
copies_level domains n k zero e s s' h = like_pure tt s s' (let d : k ≡ n = omega arith in subst (λ (i : ℕ). Level n i s s') d h)
copies_level domains n k (suc j) e s s' h =
    like_bind {P = λ _ t t'. Level n k t t'} {Q = Paid} (holding_rows k (paying (copied (value_at domains k)))) (λ v. putting k v >> copies domains (k + 1) j) s s'
    (like_through _ _ _ _ {P = λ _ t t'. Level n k t t'} {Q = λ t t'. Level n k t t'} (paying (copied (value_at domains k))) s s'
    (like_part _ _ _ _ (copied (value_at domains k)) s s' h.meter (λ _ m. level_meter s s' h m) (λ m. level_meter s s' h m))
    (λ _ t t' q. q) (λ t t' q. fewer_same t t' q))
    (λ v t t' q.
    like_then {P = λ _ u u'. Level n (k + 1) u u'} {Q = Paid} (putting k v) (copies domains (k + 1) j) t t' (both_go (level_put t t' (omega arith) q v))
    (λ _ u u' p. copies_level domains n (k + 1) j (omega arith) u u' p) (λ u u' p. p))
    (λ t t' q. q)
  where
    fewer_same : (t t' : Slots) → Level n k t t' → released (total t.rows k) t.meter ≡ released (total t'.rows k) t'.meter
    fewer_same t t' q = λ d. released (shared_total q.shared k (omega arith) d) (q.meter d)

-- ---- what the table held before does not matter

module _ (n : ℕ) (m : Meter) (t t' : List ℕ) (size : length t ≡ value_row * n) (same : length t' ≡ length t) where
  begins : Level n 0 (slots m t) (slots m t')
  begins = record { meter = refl; size = size; shared = shared_none same }

  -- both go on with the same counts and the same table, or both are stopped with the same stop and the same counts
  pub tops_anew : Likewise (λ _ s s'. s ≡ s') Paid (tops 0 n (slots m t)) (tops 0 n (slots m t'))
  tops_anew = like_as (tops_level n 0 n (omega arith) (slots m t) (slots m t') begins) (λ _ s s' h. level_all h) (λ s s' h. h)

  pub copies_anew : (domains : List ℕ) → Likewise (λ _ s s'. s ≡ s') Paid (copies domains 0 n (slots m t)) (copies domains 0 n (slots m t'))
  copies_anew domains = like_as (copies_level domains n 0 n (omega arith) (slots m t) (slots m t') begins) (λ _ s s' h. level_all h) (λ s s' h. h)
