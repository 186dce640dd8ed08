-- The words of the report, in bytes of ASCII. 01, "Examples". 10 is the line feed, 32 the space, 44 `,`, 45 `-`, 48 to 57 are the digits, 73 is `I`,
-- 77 `M`, 91 `[`, 93 `]`, 101 `e`, and 42 `*`.
use Rattle.std.specs.Prelude.{ℕ, zero, suc, ◌+◌, ◌/◌, ◌%◌, cond, List, [], ◌∷◌, ◌++◌, ltb, ℤ, pos, negsuc}
use Rattle.std.proofs.Math.Option.{Option, some, none}
use Rattle.interval.specs.declared.Integrality.{Integrality}
use Rattle.interval.specs.declared.Integrality.TheVariants.{Integer, Mixed}
use Rattle.interval.specs.declared.Interval.{Interval}
use Rattle.interval.specs.declared.Interval.TheVariants.{Bottom, Bounded, Unbounded}
use Rattle.interval.specs.declared.Bound.{Bound}

-- ---- numbers

-- the digits of n, the first one first, by a bound on how many there are
unfoldable pub digits_in : ℕ → ℕ → List ℕ
digits_in zero n = []
digits_in (suc most) n = cond (ltb n 10) ((48 + n) ∷ []) (digits_in most (n / 10) ++ ((48 + n % 10) ∷ []))

-- n has fewer than n + 1 digits, or one: the bound is never met
unfoldable pub decimal : ℕ → List ℕ
decimal n = digits_in (suc n) n

-- the decimal of an integer; one below 0 has a minus in front
unfoldable pub integer : ℤ → List ℕ
integer (pos n) = decimal n
integer (negsuc n) = 45 ∷ decimal (suc n)

-- ---- a bound: I or M, and the two words of its interval

abbrev pub letter : Integrality → List ℕ
letter Integer = 73 ∷ []
letter Mixed = 77 ∷ []

-- 02, CR 1: "An Unbounded interval prints `* *`; a bounded one with both 32-bit ends prints the ends [..]; an empty one keeps `e e`."
abbrev pub end_words : Interval → List (List ℕ)
end_words Bottom = (101 ∷ []) ∷ (101 ∷ []) ∷ []
end_words (Bounded low high) = integer low ∷ integer high ∷ []
end_words Unbounded = (42 ∷ []) ∷ (42 ∷ []) ∷ []

abbrev pub bound_words : Bound → List (List ℕ)
bound_words b = letter b.integrality ∷ end_words b.interval

-- ---- a list, 01: "`-` for none, else ids in brackets", parted by commas

unfoldable pub others : List ℕ → List ℕ
others [] = 93 ∷ []
others (i ∷ l) = 44 ∷ (decimal i ++ others l)

abbrev pub bracketed : List ℕ → List ℕ
bracketed [] = 91 ∷ 93 ∷ []
bracketed (i ∷ l) = 91 ∷ (decimal i ++ others l)

abbrev pub list_word : Option (List ℕ) → List ℕ
list_word none = 45 ∷ []
list_word (some l) = bracketed l

-- ---- a line: its words, parted by one space, and a line feed

unfoldable pub spaced : List (List ℕ) → List ℕ
spaced [] = 10 ∷ []
spaced (w ∷ ws) = 32 ∷ (w ++ spaced ws)

-- the words alone, each with a space in front
unfoldable pub spaced_words : List (List ℕ) → List ℕ
spaced_words [] = []
spaced_words (w ∷ ws) = 32 ∷ (w ++ spaced_words ws)

abbrev pub line : List ℕ → List (List ℕ) → List ℕ
line w ws = w ++ spaced ws
