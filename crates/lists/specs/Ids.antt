-- A list as it is made, and the next step of a union: the ids of the code's own records.
use Rattle.std.specs.Prelude.{ℕ, min, cond, List, [], ◌∷◌, eqb, take, Option, Some, None}
use Rattle.std.proofs.Math.Option.{some, none}
use Rattle.std.proofs.Math.Option as math
use Rattle.lists.specs.declared.ids.Ids.{Ids}

abbrev pub ids_of : Ids → List ℕ
ids_of l = take l.len l.ids

-- the first id of the union of two lists
abbrev pub next_of : List ℕ → List ℕ → Option ℕ
next_of [] [] = None
next_of [] (y ∷ ys) = Some y
next_of (x ∷ xs) [] = Some x
next_of (x ∷ xs) (y ∷ ys) = Some (min x y)

-- what is left of a list once its first id is taken, if it is this one
abbrev pub past : ℕ → List ℕ → List ℕ
past i [] = []
past i (x ∷ xs) = cond (eqb x i) xs (x ∷ xs)

abbrev pub merged : Option Ids → math.Option (List ℕ)
merged None = none
merged (Some l) = some (ids_of l)
