-- When a file is turned down before any call, and where. Said of bytes and texts alone: nothing here knows a reader. 02, CR 2, whose sentences are quoted.
use Rattle.std.specs.Prelude.{ℕ, suc, ◌+◌, ◌-◌, ◌*◌, ◌≡◌, ◌<◌, ◌≤◌, Bool, true, false, List, [], ◌∷◌, ◌++◌, take, length, ℤ, pos, neg_ℤ}
use Rattle.integers.specs.Order.{Number}
use Rattle.grammar.specs.Grammar.{Integer, plain, negative, Text, Piece, literal, text_pieces, bytes, print, Good, IsText}

-- "a file of at most 8,192 bytes"
abbrev pub most : ℕ
most = 8192

-- some text, of any length and with literals of any size, begins so
abbrev pub Begins : List ℕ → Type 0
Begins b = (c : List ℕ) × IsText (b ++ c)

-- ---- "11, not a text, with the first byte at which no text of any length, literals of any size, continues (the length if it breaks off, 8,192 if a
-- longer file has none before)". Places are counted from 0.

pub data NotText (s : List ℕ) : ℕ → Type 0 where
  wrong : {i : ℕ} → i < length s → i < most → Begins (take i s) → (Begins (take (suc i) s) → ⊥) → NotText s i
  breaks_off : length s ≤ most → Begins s → (IsText s → ⊥) → NotText s (length s)
  longer : most < length s → Begins (take most s) → NotText s most

-- "the bytes before any 11"
pub data Before (s : List ℕ) : List ℕ → Type 0 where
  all : length s ≤ most → IsText s → Before s s
  some_of : {i : ℕ} → NotText s i → Before s (take i s)

-- ---- literals

-- the digits go on a number that stands already
unfoldable pub number_on : ℕ → List ℕ → ℕ
number_on n [] = n
number_on n (b ∷ l) = number_on (10 * n + (b - 48)) l

abbrev pub number_of : List ℕ → ℕ
number_of digits = number_on 0 digits

-- with its own minus, if it has one
abbrev pub worth : Bool → List ℕ → ℤ
worth false digits = pos (number_of digits)
worth true digits = neg_ℤ (pos (number_of digits))

abbrev pub integer_of : Integer → ℤ
integer_of (plain w) = worth false w.bytes
integer_of (negative b w) = worth true w.bytes

-- of a text: a literal that is no 32-bit number, and its first digit is at place d
pub record OutsideAt (t : Text) (d : ℕ) : Type 0 where
  pub before : List Piece
  pub own_minus : Bool
  pub digits : List ℕ
  pub behind : List Piece
  pub stands : text_pieces t ≡ before ++ (literal own_minus digits ∷ behind)
  pub place : d ≡ length (bytes before)
  pub outside : Number (worth own_minus digits) → ⊥

-- "12, a literal outside 32 bits by the bytes before any 11 (its minus counts unless they make its sentence a rule)". Bytes settle it if every text
-- that begins with them has it: more digits would not bring the literal back, and its minus counts as long as some of these texts have a fact there.
abbrev pub Outside : List ℕ → ℕ → Type 0
Outside b d = (t : Text) → Good t → (c : List ℕ) → print t ≡ b ++ c → OutsideAt t d

-- ---- what a file is

pub data Judgement : Type 0 where
  -- 11 and 12, each with its place
  not_text : ℕ → Judgement
  outside : ℕ → Judgement
  accepted : Text → Judgement

-- "the earlier of the two": a 12 lies before the 11 if there is one, so where there are both it is told. "with its first digit": of the first such literal
pub data Judged (s : List ℕ) : Judgement → Type 0 where
  first_outside : {b : List ℕ} {d : ℕ} → Before s b → Outside b d → ((e : ℕ) → e < d → Outside b e → ⊥) → Judged s (outside d)
  no_text : {i : ℕ} → NotText s i → ((d : ℕ) → Outside (take i s) d → ⊥) → Judged s (not_text i)
  a_text : (t : Text) → Good t → print t ≡ s → length s ≤ most → ((d : ℕ) → Outside s d → ⊥) → Judged s (accepted t)
