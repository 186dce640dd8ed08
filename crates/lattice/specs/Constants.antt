-- The constants as the analysis reads them: two cells each, the kind and a number's cell. A cell beyond the table reads as 0.
use Rattle.std.specs.Prelude.{ℕ, ◌+◌, ◌*◌, ◌≡◌, ◌⊎◌, cond, List, eqb, get_or}
use Rattle.sizes.specs.Sizes as size
use Rattle.interval.specs.declared.Constant.{Constant}
use Rattle.interval.specs.declared.Constant.TheVariants.{Number, Name, Large}
use Rattle.cells.specs.Cells.{of_cell}

-- 1 is a number and 2 a retained name. Any other kind, and so an id that the table does not have, reads as a name that is not retained.
abbrev pub constant_of : ℕ → ℕ → Constant
constant_of kind cell = cond (eqb kind 1) (Number (of_cell cell)) (cond (eqb kind 2) Name Large)

abbrev pub constant_at : List ℕ → ℕ → Constant
constant_at cells id = constant_of (get_or cells (size.constant_row * id) 0) (get_or cells (size.constant_row * id + 1) 0)

-- the constant's key is kept: it is a number or a retained name
abbrev pub Retained : List ℕ → ℕ → Type 0
Retained cells id = (get_or cells (2 * id) 0 ≡ 1) ⊎ (get_or cells (2 * id) 0 ≡ 2)
