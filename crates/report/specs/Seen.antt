-- The report as a reader of its bytes sees it: words, the lines that begin with a letter, ids in brackets. Nothing here knows how it was written.
use Rattle.std.specs.Prelude.{ℕ, ◌+◌, Bool, cond, ◌&&◌, ◌||◌, not, List, [], ◌∷◌, map, eqb, get_or, sum_by, filter}

-- a byte in front of the first of some words
abbrev pub in_front : ℕ → List (List ℕ) → List (List ℕ)
in_front b [] = (b ∷ []) ∷ []
in_front b (w ∷ ws) = (b ∷ w) ∷ ws

-- the words of a line: a space (32) parts two of them, and the line feed (10) ends the last one
unfoldable pub words_of : List ℕ → List (List ℕ)
words_of [] = []
words_of (b ∷ l) = cond (eqb b 32 || eqb b 10) ([] ∷ words_of l) (in_front b (words_of l))

-- the n-th number of a line, behind its first word
abbrev pub number_word : ℕ → List ℕ → List ℕ
number_word n l = get_or (words_of l) n []

-- the lines whose first word is this one letter
abbrev pub headed : ℕ → List ℕ → Bool
headed letter l = eqb (get_or l 0 0) letter && eqb (get_or l 1 0) 32

abbrev pub lines_headed : ℕ → List (List ℕ) → List (List ℕ)
lines_headed letter lines = filter (headed letter) lines

-- how many ids stand in the brackets of a line: one behind each `[` (91) and each `,` (44), but for a `]` (93) right there
unfoldable pub ids_in : List ℕ → ℕ
ids_in [] = 0
ids_in (b ∷ l) = cond ((eqb b 91 || eqb b 44) && not (eqb (get_or l 0 93) 93)) 1 0 + ids_in l

-- the ids in the brackets of all `a` lines (97)
abbrev pub ids_printed : List (List ℕ) → ℕ
ids_printed lines = sum_by ids_in (lines_headed 97 lines)

-- the fourth number of each `s` line (115)
abbrev pub totals_printed : List (List ℕ) → List (List ℕ)
totals_printed lines = map (number_word 4) (lines_headed 115 lines)
