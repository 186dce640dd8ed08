-- The bytes of a typed text, and which of them are letters and digits. 02, CR 2.
use Rattle.std.specs.Prelude.{ℕ, ◌≤◌, ◌⊎◌, List, map}

-- ---- signs

abbrev pub open_bracket : ℕ
open_bracket = 40

abbrev pub close_bracket : ℕ
close_bracket = 41

abbrev pub times_sign : ℕ
times_sign = 42

abbrev pub plus_sign : ℕ
plus_sign = 43

abbrev pub comma : ℕ
comma = 44

abbrev pub minus_sign : ℕ
minus_sign = 45

abbrev pub full_stop : ℕ
full_stop = 46

abbrev pub colon : ℕ
colon = 58

abbrev pub less_sign : ℕ
less_sign = 60

abbrev pub equals_sign : ℕ
equals_sign = 61

abbrev pub greater_sign : ℕ
greater_sign = 62

abbrev pub not_sign : ℕ
not_sign = 33

-- ---- "spaces and line feeds may stand anywhere but inside tokens"

pub data Blank : Type 0 where
  space : Blank
  line_feed : Blank

abbrev pub Blanks : Type 0
Blanks = List Blank

abbrev pub blank_byte : Blank → ℕ
blank_byte space = 32
blank_byte line_feed = 10

abbrev pub blank_bytes : Blanks → List ℕ
blank_bytes = map blank_byte

-- ---- letters and digits

abbrev pub Digit : ℕ → Type 0
Digit b = (48 ≤ b) × (b ≤ 57)

abbrev pub Capital : ℕ → Type 0
Capital b = (65 ≤ b) × (b ≤ 90)

abbrev pub Lower : ℕ → Type 0
Lower b = (97 ≤ b) × (b ≤ 122)

abbrev pub LetterOrDigit : ℕ → Type 0
LetterOrDigit b = Lower b ⊎ (Capital b ⊎ Digit b)
