-- A value as a row of cells in a lent table. A cell beyond the table reads as 0 and is not written, and any contents read as a value.
use Rattle.std.specs.Prelude.{ℕ, zero, suc, ◌+◌, ◌-◌, ◌*◌, ◌%◌, ◌^◌, Bool, true, false, cond, List, [], ◌∷◌, ◌++◌, map, eqb, ℤ, length, get_or, take, drop, replicate}
use Rattle.sizes.specs.Sizes as size
use Rattle.std.proofs.Math.Option.{Option, some, none}
use Rattle.std.proofs.lemmas.List.Edits.{sets}
use Rattle.interval.specs.declared.Integrality.{Integrality}
use Rattle.interval.specs.declared.Integrality.TheVariants.{Integer, Mixed}
use Rattle.interval.specs.declared.Interval.{Interval}
use Rattle.interval.specs.declared.Interval.TheVariants.{Bottom, Bounded, Unbounded}
use Rattle.interval.specs.declared.Bound.{Bound}
use Rattle.interval.specs.Interval.{ascending_of}
use Rattle.cells.specs.Cells.{to_cell, of_cell}
use Rattle.lattice.specs.declared.Widening.TheVariants.{HeadForm, HeadTerm, UnboundVariable, SymbolSize, ValueWidth, Dependency}
use Rattle.lattice.specs.Value.{Reason}
use Rattle.std.specs.Prelude.{None, Some}
use Rattle.lattice.specs.Value.{Value, reason_number}

-- the first n of a list, with 0 beyond its end
unfoldable pub padded : ℕ → List ℕ → List ℕ
padded n l = take n (l ++ replicate n 0)

-- ---- from a value to its cells

abbrev pub integrality_cell : Integrality → ℕ
integrality_cell Integer = 0
integrality_cell Mixed = 1

abbrev pub case_cell : Interval → ℕ
case_cell Bottom = 0
case_cell (Bounded low high) = 1
case_cell Unbounded = 2

abbrev pub low_cell : Interval → ℕ
low_cell Bottom = 0
low_cell (Bounded low high) = to_cell low
low_cell Unbounded = 0

abbrev pub high_cell : Interval → ℕ
high_cell Bottom = 0
high_cell (Bounded low high) = to_cell high
high_cell Unbounded = 0

abbrev pub bound_cells : Bound → List ℕ
bound_cells b = integrality_cell b.integrality ∷ case_cell b.interval ∷ low_cell b.interval ∷ high_cell b.interval ∷ []

abbrev pub kept_cell : Option (List ℕ) → ℕ
kept_cell none = 0
kept_cell (some l) = 1

abbrev pub listed? : Option (List ℕ) → Bool
listed? none = false
listed? (some l) = true

abbrev pub list_of : Option (List ℕ) → List ℕ
list_of none = []
list_of (some l) = l

-- the live entries of a value
abbrev pub entries_of : Value → ℕ
entries_of v = length (list_of v.values)

unfoldable pub encode : Value → List ℕ
encode v =
    bound_cells v.bound ++ (kept_cell v.values ∷ length (list_of v.values) ∷ reason_number v.widening ∷ padded (size.value_row - size.value_ids) (list_of v.values))

-- ---- and back

abbrev pub integrality_of : ℕ → Integrality
integrality_of n = cond (eqb n 0) Integer Mixed

-- by the case's number. Any other number reads as Bottom, and so does a descending pair
abbrev pub interval_of : ℕ → ℤ → ℤ → Interval
interval_of n low high = get_or (Bottom ∷ ascending_of low high ∷ Unbounded ∷ []) n Bottom

abbrev pub reasons : List Reason
reasons = None ∷ Some HeadForm ∷ Some HeadTerm ∷ Some UnboundVariable ∷ Some SymbolSize ∷ Some ValueWidth ∷ Some Dependency ∷ []

abbrev pub reason_of : ℕ → Reason
reason_of n = get_or reasons n None

abbrev pub id_of : ℕ → ℕ
id_of n = n % 2 ^ 16

-- the 16 ids; a longer list reads as all of them
abbrev pub row_ids : List ℕ → List ℕ
row_ids r = map id_of (take size.width (drop size.value_ids r))

unfoldable pub decode : List ℕ → Value
decode r = record {
  bound = record {
    integrality = integrality_of (get_or r 0 0);
    interval = interval_of (get_or r size.value_case 0) (of_cell (get_or r size.value_low 0)) (of_cell (get_or r size.value_high 0));
  };
  values = cond (eqb (get_or r size.value_kept 0) 0) none (some (take (get_or r size.value_length 0) (row_ids r)));
  widening = reason_of (get_or r size.value_reason 0);
}

-- ---- a table of rows

unfoldable pub value_at : List ℕ → ℕ → Value
value_at cells i = decode (padded size.value_row (drop (size.value_row * i) cells))

unfoldable pub put : List ℕ → ℕ → Value → List ℕ
put cells i v = sets cells (size.value_row * i) (encode v)

-- the bound of the row that begins at a place
abbrev pub bound_of : List ℕ → ℕ → Bound
bound_of cells at = record {
  integrality = integrality_of (get_or cells at 0);
  interval = interval_of (get_or cells (at + size.value_case) 0) (of_cell (get_or cells (at + size.value_low) 0)) (of_cell (get_or cells (at + size.value_high) 0));
}

-- the values that the first n rows decode to
unfoldable pub values_of : List ℕ → ℕ → List Value
values_of cells zero = []
values_of cells (suc n) = values_of cells n ++ (value_at cells n ∷ [])

-- the first n rows of a table stand in another
unfoldable pub moved : List ℕ → ℕ → List ℕ → List ℕ
moved from zero to = to
moved from (suc n) to = put (moved from n to) n (value_at from n)
