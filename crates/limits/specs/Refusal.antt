-- 01, "What a call is turned down with", and what the requests of 02 add: the number of each refusal, and the values that it carries.
use Rattle.std.specs.Prelude.{ℕ, List, [], ◌∷◌, ◌++◌, Result, Ok, Err}
use Rattle.limits.specs.declared.Resource.{Resource}
use Rattle.limits.specs.declared.Resource.TheVariants.{Work, Predicates, Positions, Links, ValueEntries, Rounds, InspectedBytes}
use Rattle.limits.specs.declared.Refusal.{Refusal}
use Rattle.limits.specs.declared.Refusal.TheVariants.{Closed, Shape, Full, Limit, Missing, Descending, MissingSlot}
use Rattle.limits.specs.Charge.{observed}
use Rattle.limits.specs.Metered.{Run, going, stopped}

abbrev pub resource_number : Resource → ℕ
resource_number Work = 3
resource_number InspectedBytes = 4
resource_number Predicates = 6
resource_number Positions = 7
resource_number Links = 8
resource_number ValueEntries = 9
resource_number Rounds = 10

-- 01: "Numbers 3, 4 and 6 to 10 carry resource, limit and observed sum": the resource by its number
pub record Told : Type 0 where
  pub number : ℕ
  pub values : List ℕ

abbrev pub told : Refusal → Told
told Closed = record { number = 1; values = [] }
told Shape = record { number = 1; values = [] }
told Full = record { number = 2; values = [] }
told (Limit s) = record { number = resource_number s.resource; values = s.limit ∷ observed s ∷ [] }
told Missing = record { number = 5; values = [] }
told Descending = record { number = 13; values = [] }
told MissingSlot = record { number = 14; values = [] }

-- "Demand 1's ten refusals grow by the numbers that requests add": CR 3 adds 13, "low exceeds high", and 14, "no such slot"
abbrev pub first_ten : List ℕ
first_ten = 1 ∷ 2 ∷ 3 ∷ 4 ∷ 5 ∷ 6 ∷ 7 ∷ 8 ∷ 9 ∷ 10 ∷ []

abbrev pub added : List ℕ
added = 13 ∷ 14 ∷ []

abbrev pub refusals : List ℕ
refusals = first_ten ++ added

-- a call's answer in the code, and the state that it leaves, as what the call's definition gives: a refusal as 01 tells it
abbrev pub replied : {S A : Type 0} → Result A Refusal → S → Run Told S A
replied (Ok a) s = going a s
replied (Err r) s = stopped (told r) s
