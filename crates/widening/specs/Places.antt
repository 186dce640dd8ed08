-- What the code finds before it pays: the place of the threshold that `above` moves an end to, and whether a side is moved at all.
use Rattle.std.specs.Prelude.{ℕ, suc, ◌+◌, Bool, cond, List, [], ◌∷◌, ltb, ℤ, Option, Some, None}
use Rattle.widening.specs.Widening.{Side, side}

-- the place of the first item that the test holds of, or the number of items
unfoldable pub first_place : (ℤ → Bool) → List ℤ → ℕ
first_place test [] = 0
first_place test (t ∷ l) = cond (test t) 0 (suc (first_place test l))

-- a side that stays or is counted, and none where it is sought among the thresholds
abbrev pub counted : Bool → ℤ → ℕ → Option Side
counted stays end grown = cond stays (Some (side end grown)) (cond (ltb grown 2) (Some (side end (grown + 1))) None)
