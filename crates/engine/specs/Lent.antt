-- What the code lends itself: the tables that a run works in, cut to the rows of its arguments and its rules, and the cells of a pass.
use Rattle.std.specs.Prelude.{ℕ, ◌*◌, ◌≡◌, List, length}
use Rattle.sizes.specs.Sizes as size
use Rattle.rounds.specs.Round.{Given}

abbrev pub fitting : Given → List ℕ → List ℕ → List ℕ → List ℕ → Type 0
fitting g current growth bounds scratch =
    (length current ≡ size.value_row * g.positions) × ((length growth ≡ size.growth_row * g.positions) × ((length bounds ≡ size.bounds_row * g.count) × (length scratch ≡ size.pass_cells)))
