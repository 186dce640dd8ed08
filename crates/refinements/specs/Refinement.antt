-- What guards have found of expressions (`refinements` of transfer.rs): an expression's id and an interval in which its value lies, a row of a
-- lent table for each. Cells beyond the table read as 0 and are not written.
use Rattle.std.specs.Prelude.{ℕ, ◌+◌, ◌*◌, ◌/◌, ◌%◌, ◌^◌, Bool, true, false, cond, Option, None, Some, List, [], ◌∷◌, ltb, eqb, length, get_or}
use Rattle.sizes.specs.Sizes as size
use Rattle.std.proofs.lemmas.List.Edits.{sets}
use Rattle.integers.specs.Lists.{from}
use Rattle.limits.specs.declared.Stop.{Stop}
use Rattle.limits.specs.Metered.{going, Metered, pure, ◌>>=◌, ◌>>◌, zoom}
use Rattle.limits.specs.declared.Meter.{Meter}
use Rattle.limits.specs.Meter.{work, holding, dropping}
use Rattle.interval.specs.declared.Interval.{Interval}
use Rattle.interval.specs.Interval.{meet_of}
use Rattle.interval.specs.Bound.{mixed}
use Rattle.cells.specs.Cells.{of_cell}
use Rattle.lattice.specs.Value.{Value}
use Rattle.lattice.specs.Lattice.{refine}
use Rattle.rows.specs.Row.{case_cell, low_cell, high_cell, interval_of, entries_of}

pub record Refinement : Type 0 where
  pub expression : ℕ
  pub restriction : Interval

-- ---- a table of rows

unfoldable pub refinement_at : List ℕ → ℕ → Refinement
refinement_at cells k = record {
  expression = get_or cells (size.refinement_row * k) 0;
  restriction = interval_of (get_or cells (size.refinement_row * k + 1) 0) (of_cell (get_or cells (size.refinement_row * k + 2) 0)) (of_cell (get_or cells (size.refinement_row * k + 3) 0));
}

-- what the first n rows say
abbrev pub refinements_of : List ℕ → ℕ → List Refinement
refinements_of cells n = from (refinement_at cells) 0 n

-- an id has 32 bits here: those of a rule have
unfoldable pub put_refinement : List ℕ → ℕ → ℕ → Interval → List ℕ
put_refinement cells k id i = sets cells (size.refinement_row * k) (id % 2 ^ 32 ∷ case_cell i ∷ low_cell i ∷ high_cell i ∷ [])

-- ---- the end of `expression`: a value that was worked out is narrowed by what is known of its expression

abbrev pub integer? : Value → Bool
integer? v = cond (mixed v.bound.integrality) false true

abbrev pub narrow : List ℕ → Interval → Value → Metered Stop Meter Value
narrow constants i v = cond (integer? v) (dropping (entries_of v) (refine constants v i)) (pure v)

-- as transfer.rs does after every node: what is recorded is searched, a unit of work for each up to the one of this expression
unfoldable pub restrict : List ℕ → List Refinement → ℕ → Value → Metered Stop Meter Value
restrict constants [] id v = pure v
restrict constants (r ∷ rs) id v = holding (entries_of v) (work 1) >> cond (eqb r.expression id) (narrow constants r.restriction v) (restrict constants rs id v)

-- ---- the middle of `refine_operand`: a restriction is recorded, or meets the one that is

-- the place of the first refinement of an expression, or the end; k have been looked at
unfoldable pub position : ℕ → List Refinement → ℕ → Metered Stop Meter ℕ
position k [] id = pure k
position k (r ∷ rs) id = work 1 >> cond (eqb r.expression id) (pure k) (position (k + 1) rs id)

-- where a search that finds nothing stands at the end
abbrev pub place_or_end : ℕ → Option ℕ → ℕ
place_or_end n None = n
place_or_end n (Some k) = k

pub record Notes : Type 0 where
  pub meter : Meter
  pub table : List ℕ

abbrev pub notes : Meter → List ℕ → Notes
notes m t = record { meter = m; table = t }

-- at place k of n: how many there are then, and the table
abbrev pub noted : ℕ → ℕ → Interval → ℕ → Metered Stop Notes ℕ
noted n id i k s =
    cond (ltb k n) (going n (notes s.meter (put_refinement s.table k id (meet_of (refinement_at s.table k).restriction i))))
    (cond (ltb k (length s.table / size.refinement_row)) (going (n + 1) (notes s.meter (put_refinement s.table k id i))) (going n s))

-- of n refinements. A table without room stays as it is: 64 rows have room for two of each guard
unfoldable pub note : ℕ → ℕ → Interval → Metered Stop Notes ℕ
note n id i s = (zoom (λ t. t.meter) (λ m t. notes m t.table) (position 0 (refinements_of s.table n) id) >>= noted n id i) s
