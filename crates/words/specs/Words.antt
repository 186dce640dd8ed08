-- The words of a job, as they are read from the left. 10 is the line feed, 32 the space, 45 the minus, 48 to 57 are the digits.
use Rattle.std.specs.Prelude.{ℕ, zero, suc, ◌+◌, ◌-◌, ◌*◌, ◌^◌, Bool, true, false, cond, ◌&&◌, ◌||◌, not, List, [], ◌∷◌, take, fold, eqb, ltb, leb, ℤ, pos, negsuc, Option, Some, None}
use Rattle.words.specs.declared.Word.{Word}

-- The job format: "decimal integers, each with an optional minus, parted by spaces and line feeds"
abbrev pub parts : ℕ → Bool
parts b = eqb b 32 || eqb b 10

unfoldable pub word_length : List ℕ → ℕ
word_length [] = 0
word_length (b ∷ l) = cond (parts b) 0 (suc (word_length l))

-- the bytes before the first space or line feed
abbrev pub first_word : List ℕ → List ℕ
first_word l = take (word_length l) l

-- nothing of a word, and a minus alone
abbrev pub started : Word
started = record { negative = false; value = None }

abbrev pub minus : Word
minus = record { negative = true; value = None }

-- a number of 64 bits: no word of a job tells a larger one
abbrev pub tens : ℕ → ℕ → Option ℕ
tens n d = cond (ltb (10 * n + d) (2 ^ 64)) (Some (10 * n + d)) None

abbrev pub told_so_far : Option ℕ → ℕ
told_so_far None = 0
told_so_far (Some n) = n

abbrev pub so_far : Bool → ℕ → Word
so_far negative n = record { negative = negative; value = Some n }

abbrev pub valued : Bool → Option ℕ → Option Word
valued negative None = None
valued negative (Some n) = Some (so_far negative n)

abbrev pub with_digit : Word → ℕ → Option Word
with_digit w d = valued w.negative (tens (told_so_far w.value) d)

-- a minus stands first or nowhere
abbrev pub first : Word → Bool
first w = elim w.value [ None ↦ not w.negative | Some n ↦ false ]

-- one byte more, if a word goes on so
abbrev pub pushed : Word → ℕ → Option Word
pushed w b = cond (leb 48 b && leb b 57) (with_digit w (b - 48)) (cond (eqb b 45 && first w) (Some minus) None)

abbrev pub onward : Option Word → ℕ → Option Word
onward None b = None
onward (Some w) b = pushed w b

-- all bytes of a part, from the left
unfoldable pub read : Word → List ℕ → Option Word
read w l = fold onward (Some w) l

-- ---- a whole word

-- a number from 0 to `most`; the job format: "`-0` [is] read"
abbrev pub natural : Word → ℕ → Option ℕ
natural w most = elim w.value [ None ↦ None | Some n ↦ cond (leb n most && (not w.negative || eqb n 0)) (Some n) None ]

abbrev pub with_sign : Bool → ℕ → ℤ
with_sign false n = pos n
with_sign true zero = pos 0
with_sign true (suc n) = negsuc n

-- a number of 32 signed bits
abbrev pub signed : Word → Option ℤ
signed w = elim w.value [ None ↦ None | Some n ↦ cond (leb n (cond w.negative 2147483648 2147483647)) (Some (with_sign w.negative n)) None ]
