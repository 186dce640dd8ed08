-- The words that tell a number. The job format: "Leading zeros and `-0` are read; `+5` and tabs are not."
use Rattle.std.specs.Prelude.{ℕ, ◌≡◌, ◌≤◌, ◌⊎◌, Bool, true, false, cond, List, [], ◌∷◌, ◌++◌, replicate, ℤ, Option, Some, None}
use Rattle.text.specs.Text.{decimal}
use Rattle.words.specs.declared.Word.{Word}
use Rattle.words.specs.Words.{started, read, natural, signed, with_sign}

-- a minus or none, zeros, and the decimal of n
abbrev pub Written : Bool → ℕ → List ℕ → Type 0
Written negative n l = (zeros : ℕ) × (l ≡ cond negative (45 ∷ []) [] ++ (replicate zeros 48 ++ decimal n))

-- a number from 0 to `most`: a minus stands before 0 alone
abbrev pub Natural : ℕ → ℕ → List ℕ → Type 0
Natural most n l = (n ≤ most) × (Written false n l ⊎ ((n ≡ 0) × Written true 0 l))

-- a number of 32 signed bits
abbrev pub Signed : ℤ → List ℕ → Type 0
Signed z l = (negative : Bool) × ((n : ℕ) × ((with_sign negative n ≡ z) × ((n ≤ cond negative 2147483648 2147483647) × Written negative n l)))

-- ---- what is read of a whole word

abbrev pub then_natural : ℕ → Option Word → Option ℕ
then_natural most None = None
then_natural most (Some w) = natural w most

abbrev pub natural_of : List ℕ → ℕ → Option ℕ
natural_of l most = then_natural most (read started l)

abbrev pub then_signed : Option Word → Option ℤ
then_signed None = None
then_signed (Some w) = signed w

abbrev pub signed_of : List ℕ → Option ℤ
signed_of l = then_signed (read started l)
