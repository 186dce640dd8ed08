-- Theorems about rows: any contents read as a well-formed value, a well-formed value comes back from its row, and a row that is put
-- is one value set among the values of the table.
use Prim.Native.Nat.{ℕ, zero, suc, ◌+◌, ◌-◌, ◌*◌, ◌^◌, ◌≤◌, ◌<◌}
use native.Mathlib.Omega.{arith}
use native.Mathlib.Decide.{dec_lt, ℕ_discrete}
use mathlib.Core.Path.{◌≡◌, refl, sym, ap, ◌∙◌}
use mathlib.Core.Bool.{cond}
use mathlib.Core.List.{List, [], ◌∷◌, ◌++◌, map}
use mathlib.Core.Option.{Option, some, none}
use lib.Dec.{eqb}
use lib.IntN.{ℤ}
use lib.ListN.{length, get_or, take, drop, set, replicate, length-append, length-take, length-set, length-replicate, length-map, get_or-replicate, get_or-eq_default, get_or-append, get_or-map}
use lib.Seq.{sets, length-sets, get_or-take, get_or-drop, get_or-append-add, get_or_at, ext_get_or, get_or-set_same, get_or-set_other}
use Rattle.integers.specs.Order.{Number}
use Rattle.integers.specs.Lists.{All}
use Rattle.integers.proofs.Tests.{by_cond}
use Rattle.integers.proofs.OrderLaws.{yes_le, by_le}
use Rattle.integers.proofs.Stores.{sets_before, sets_after, sets_in, all_get_d}
use Rattle.interval.specs.declared.Integrality.{Integrality}
use Rattle.interval.specs.declared.Integrality.TheVariants.{Integer, Mixed}
use Rattle.interval.specs.declared.Interval.{Interval}
use Rattle.interval.specs.declared.Interval.TheVariants.{Bottom, Bounded, Unbounded}
use Rattle.interval.specs.Interval.{ascending_of}
use Rattle.interval.specs.Interval as intervals
use Rattle.interval.specs.Cousot as cousot
use Rattle.cells.specs.Cells.{of_cell}
use Rattle.cells.proofs.CellLaws.{of_to, of_number}
use Rattle.lists.proofs.LiveLaws.{list_size}
use Rattle.lattice.specs.declared.Widening.TheVariants.{HeadForm, HeadTerm, UnboundVariable, SymbolSize, ValueWidth, Dependency}
use Rattle.lattice.specs.Value.{Reason}
use Rattle.std.specs.Prelude.{None, Some}
use Rattle.lattice.specs.Value.{Value, reason_number}
use Rattle.lattice.specs.Lattice.{numeric}
use Rattle.lattice.proofs.LiveLaws.{size}
use Rattle.sizes.specs.Sizes.{value_row}
use Rattle.rows.specs.Row.{padded, integrality_cell, case_cell, low_cell, high_cell, kept_cell, list_of, entries_of, encode, integrality_of, interval_of, reason_of, id_of, decode, value_at, put, values_of}
use Rattle.rows.specs.WellFormed.{Proper, Short, WellFormed}

-- ---- the first n of a list, with 0 beyond its end

pub length_padded : (n : ℕ) (l : List ℕ) → length (padded n l) ≡ n
unfolding padded
length_padded n l = simp (length-take, length-append, length-replicate) (omega arith)

pub get_or_padded : (n : ℕ) (l : List ℕ) (k : ℕ) → k < n → get_or (padded n l) k 0 ≡ get_or l k 0
unfolding padded
get_or_padded n l k h = get_or-take n (l ++ replicate n 0) k 0 h ∙ elim (dec_lt k (length l)) [
  | yes a ↦ get_or-append l (replicate n 0) 0 k a
  | no a ↦
      let e : length l + (k - length l) ≡ k = omega arith in
      sym (ap (λ (m : ℕ). get_or (l ++ replicate n 0) m 0) e) ∙ get_or-append-add l (replicate n 0) (k - length l) 0
      ∙ get_or-replicate n (k - length l) 0 0 (omega arith) ∙ sym (get_or-eq_default l 0 (omega arith))
]

pub length_encode : (v : Value) → length (encode v) ≡ value_row
unfolding encode
length_encode v = omega (arith, length_padded (value_row - 7) (list_of v.values))

-- ---- live entries, as the lattice counts them

pub size_is : (v : Value) → size v ≡ entries_of v
size_is v = go v.values
  where
    go : (o : Option (List ℕ)) → list_size o ≡ length (list_of o)
    go none = refl
    go (some l) = refl

-- a numeric value has no entries
pub numeric_none : (i : Interval) → 0 ≡ entries_of (numeric i)
numeric_none Bottom = refl
numeric_none (Bounded low high) = refl
numeric_none Unbounded = refl

-- ---- any contents read as a well-formed value

pub ascending_proper : (low high : ℤ) → Number low → Number high → Proper (ascending_of low high)
ascending_proper low high l h =
    by_le (λ b. Proper (intervals.interval (cond b (cousot.between (cousot.from low) (cousot.to high)) cousot.empty))) low high (λ a. (l, (h, a))) (λ _. tt)

pub interval_proper : (n : ℕ) (low high : ℤ) → Number low → Number high → Proper (interval_of n low high)
interval_proper zero low high l h = tt
interval_proper (suc zero) low high l h = ascending_proper low high l h
interval_proper (suc (suc zero)) low high l h = tt
interval_proper (suc (suc (suc n))) low high l h = tt

ids_small : (n : ℕ) (l : List ℕ) → All (λ m. m < 2 ^ 16) (take n (map id_of l))
ids_small zero l = tt
ids_small (suc n) [] = tt
ids_small (suc n) (a ∷ l) = (omega arith, ids_small n l)

-- only the two ends can be too large
ends_formed : (r : List ℕ) → get_or r 2 0 < 2 ^ 32 → get_or r 3 0 < 2 ^ 32 → WellFormed (decode r)
unfolding decode
ends_formed r l h = record {
  interval = interval_proper (get_or r 1 0) (of_cell (get_or r 2 0)) (of_cell (get_or r 3 0)) (of_number (get_or r 2 0) l) (of_number (get_or r 3 0) h);
  list = by_cond Short (eqb (get_or r 4 0) 0) (λ _. tt)
      (λ _. (simp (length-take, length-map) (omega arith), ids_small (get_or r 5 0) (take 16 (drop 7 r))));
}

pub decode_formed : (r : List ℕ) → All (λ n. n < 2 ^ 32) r → WellFormed (decode r)
decode_formed r h =
    ends_formed r (all_get_d (λ n. n < 2 ^ 32) r 2 0 h (omega arith)) (all_get_d (λ n. n < 2 ^ 32) r 3 0 h (omega arith))

-- what a cell of a row is
pub row_cell : (cells : List ℕ) (b k : ℕ) → k < value_row → get_or (padded value_row (drop b cells)) k 0 ≡ get_or cells (b + k) 0
row_cell cells b k h = get_or_padded value_row (drop b cells) k h ∙ get_or-drop b cells k 0

pub value_formed : (cells : List ℕ) (i : ℕ) → All (λ n. n < 2 ^ 32) cells → WellFormed (value_at cells i)
unfolding value_at
value_formed cells i h = ends_formed (padded value_row (drop (value_row * i) cells)) (small 2 (omega arith)) (small 3 (omega arith))
  where
    small : (k : ℕ) → k < value_row → get_or (padded value_row (drop (value_row * i) cells)) k 0 < 2 ^ 32
    small k g = rw (row_cell cells (value_row * i) k g) (all_get_d (λ n. n < 2 ^ 32) cells (value_row * i + k) 0 h (omega arith))

-- ---- a well-formed value comes back from its row

integrality_back : (x : Integrality) → integrality_of (integrality_cell x) ≡ x
integrality_back Integer = refl
integrality_back Mixed = refl

pub interval_back : (x : Interval) → Proper x → interval_of (case_cell x) (of_cell (low_cell x)) (of_cell (high_cell x)) ≡ x
interval_back Bottom p = refl
interval_back (Bounded low high) p = rw (of_to low p.0, of_to high p.1.0, yes_le low high p.1.1)
interval_back Unbounded p = refl

reason_back : (x : Reason) → reason_of (reason_number x) ≡ x
reason_back None = refl
reason_back (Some HeadForm) = refl
reason_back (Some HeadTerm) = refl
reason_back (Some UnboundVariable) = refl
reason_back (Some SymbolSize) = refl
reason_back (Some ValueWidth) = refl
reason_back (Some Dependency) = refl

ids_back : (l : List ℕ) → length l ≤ 16 → All (λ n. n < 2 ^ 16) l → take (length l) (map id_of (take 16 (padded (value_row - 7) l))) ≡ l
ids_back l h s =
    ext_get_or 0 (take (length l) (map id_of (take 16 (padded (value_row - 7) l)))) l
    (simp (length-take, length-map, length_padded) (omega arith))
    (λ k g. let g' : k < length l = omega (arith, simp (length-take, length-map, length_padded) at g) in at k g')
  where
    at : (k : ℕ) → k < length l → get_or (take (length l) (map id_of (take 16 (padded (value_row - 7) l)))) k 0 ≡ get_or l k 0
    at k g =
        get_or-take (length l) (map id_of (take 16 (padded (value_row - 7) l))) k 0 g ∙ get_or-map id_of (take 16 (padded (value_row - 7) l)) k 0
        ∙ ap id_of (get_or-take 16 (padded (value_row - 7) l) k 0 (omega arith) ∙ get_or_padded (value_row - 7) l k (omega arith))
        ∙ (let b = all_get_d (λ n. n < 2 ^ 16) l k 0 s (omega arith) in omega arith)

values_back : (x : Option (List ℕ)) → Short x →
    cond (eqb (kept_cell x) 0) none (some (take (length (list_of x)) (map id_of (take 16 (padded (value_row - 7) (list_of x)))))) ≡ x
values_back none s = refl
values_back (some l) s = ap some (ids_back l s.0 s.1)

pub decode_encode : (v : Value) → WellFormed v → decode (encode v) ≡ v
unfolding decode encode
decode_encode v w =
    λ d. record {
      bound = record { integrality = integrality_back v.bound.integrality d; interval = interval_back v.bound.interval w.interval d };
      values = values_back v.values w.list d;
      widening = reason_back v.widening d;
    }

-- ---- a row that was put

pub length_put : (cells : List ℕ) (i : ℕ) (v : Value) → length (put cells i v) ≡ length cells
unfolding put
length_put cells i v = length-sets cells (value_row * i) (encode v)

module _ (cells : List ℕ) (i : ℕ) (v : Value) where
  row_back : value_row * i + value_row ≤ length cells → padded value_row (drop (value_row * i) (put cells i v)) ≡ encode v
  unfolding put
  row_back h =
      ext_get_or 0 (padded value_row (drop (value_row * i) (sets cells (value_row * i) (encode v)))) (encode v) (length_padded value_row (drop (value_row * i) (sets cells (value_row * i) (encode v))) ∙ sym (length_encode v))
      (λ k g.
      let n = length_encode v in
      let g' : k < value_row = omega (arith, length_padded value_row (drop (value_row * i) (sets cells (value_row * i) (encode v)))) in
      row_cell (sets cells (value_row * i) (encode v)) (value_row * i) k g' ∙ sets_in 0 (encode v) cells (value_row * i) k (omega arith) (omega arith))

  -- it reads back
  pub put_back : value_row * i + value_row ≤ length cells → WellFormed v → value_at (put cells i v) i ≡ v
  unfolding value_at
  put_back h w = ap decode (row_back h) ∙ decode_encode v w

  cell_other : (j k : ℕ) → (j ≡ i → ⊥) → k < value_row → get_or (put cells i v) (value_row * j + k) 0 ≡ get_or cells (value_row * j + k) 0
  unfolding put
  cell_other j k n h = elim (dec_lt j i) [
    | yes l ↦ sets_before 0 (encode v) cells (value_row * i) (value_row * j + k) (omega arith)
    | no l ↦ sets_after 0 (encode v) cells (value_row * i) (value_row * j + k) (omega (arith, length_encode v, apart j n l))
  ]
    where
      apart : (j : ℕ) → (j ≡ i → ⊥) → (j < i → ⊥) → i < j
      apart j n l = elim (dec_lt i j) [ yes h ↦ h | no h ↦ absurd (n (omega arith)) ]

  -- other rows keep theirs
  pub put_other : (j : ℕ) → (j ≡ i → ⊥) → value_at (put cells i v) j ≡ value_at cells j
  unfolding value_at
  put_other j n =
      ap decode (
      ext_get_or 0 (padded value_row (drop (value_row * j) (put cells i v))) (padded value_row (drop (value_row * j) cells))
      (length_padded value_row (drop (value_row * j) (put cells i v)) ∙ sym (length_padded value_row (drop (value_row * j) cells)))
      (λ k g.
      let g' : k < value_row = omega (arith, length_padded value_row (drop (value_row * j) (put cells i v))) in
      row_cell (put cells i v) (value_row * j) k g' ∙ cell_other j k n g' ∙ sym (row_cell cells (value_row * j) k g'))
      )

-- ---- the values of a table

pub length_values : (cells : List ℕ) (n : ℕ) → length (values_of cells n) ≡ n
unfolding values_of
length_values cells zero = refl
length_values cells (suc n) = simp length-append (omega (arith, length_values cells n))

pub get_or_values : (cells : List ℕ) (n i : ℕ) (d : Value) → i < n → get_or (values_of cells n) i d ≡ value_at cells i
unfolding values_of
get_or_values cells zero i d h = absurd (omega arith)
get_or_values cells (suc n) i d h = elim (dec_lt i n) [
  | yes l ↦ get_or-append (values_of cells n) (value_at cells n ∷ []) d i (omega (arith, length_values cells n)) ∙ get_or_values cells n i d l
  | no l ↦
      let e : n ≡ i = omega arith in
      get_or_at (values_of cells n) (value_at cells n) [] d i (length_values cells n ∙ e) ∙ ap (value_at cells) e
]

pub put_is_set : (cells : List ℕ) (n i : ℕ) (v : Value) → i < n → value_row * n ≤ length cells → WellFormed v →
    values_of (put cells i v) n ≡ set (values_of cells n) i v
put_is_set cells n i v h inside w =
    ext_get_or v (values_of (put cells i v) n) (set (values_of cells n) i v)
    (length_values (put cells i v) n ∙ sym (length-set (values_of cells n) i v ∙ length_values cells n))
    (λ k g.
    let g' : k < n = omega (arith, length_values (put cells i v) n) in
    get_or_values (put cells i v) n k v g' ∙ at k g')
  where
    at : (k : ℕ) → k < n → value_at (put cells i v) k ≡ get_or (set (values_of cells n) i v) k v
    at k g = elim (ℕ_discrete k i) [
      | yes e ↦
          ap (value_at (put cells i v)) e ∙ put_back cells i v (omega arith) w
          ∙ sym (ap (λ (m : ℕ). get_or (set (values_of cells n) i v) m v) e ∙ get_or-set_same (values_of cells n) i v v (omega (arith, length_values cells n)))
      | no d ↦ put_other cells i v k d ∙ sym (get_or-set_other (values_of cells n) i k v v d ∙ get_or_values cells n k v g)
    ]
