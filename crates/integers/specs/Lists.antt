-- Lists: what holds of every element, strictly increasing lists of natural numbers, the elements that pass a test, a run of elements, and
-- insertion.
use Rattle.std.specs.Prelude.{ℕ, zero, suc, ◌+◌, ◌-◌, ◌<◌, Bool, cond, List, [], ◌∷◌, take, drop}
use Rattle.std.proofs.lemmas.List.Edits.{sets}

abbrev pub All : {A : Type 0} → (A → Type 0) → List A → Type 0
All P [] = Unit {0}
All P (a ∷ l) = P a × All P l

-- strictly increasing from z on
abbrev pub Above : ℕ → List ℕ → Type 0
Above z [] = Unit {0}
Above z (x ∷ l) = (z < x) × Above x l

abbrev pub Increasing : List ℕ → Type 0
Increasing [] = Unit {0}
Increasing (x ∷ l) = Above x l

abbrev pub passing : {A : Type 0} → (A → Bool) → List A → List A
passing p [] = []
passing p (a ∷ l) = cond (p a) (a ∷ passing p l) (passing p l)

-- what f gives of j, j + 1 and so on, n of them
unfoldable pub from : {A : Type 0} → (ℕ → A) → ℕ → ℕ → List A
from f j zero = []
from f j (suc n) = f j ∷ from f (j + 1) n

-- a value stored at a place, and what stood from there up to `count` one place further; nothing is stored beyond the end
unfoldable pub inserted : {A : Type 0} → List A → ℕ → ℕ → A → List A
inserted l at count v = sets l at (v ∷ take (count - at) (drop at l))
