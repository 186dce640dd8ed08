-- The grammar of typed texts, of any length and with literals of any size: a text is a tree, and `print` says which bytes it is. 02, CR 2, whose
-- sentences are quoted. Every token has the blanks that stand behind it, so that a tree tells its bytes to the last one.
use Rattle.std.specs.Prelude.{ℕ, ◌≡◌, ◌≤◌, Bool, true, false, List, [], ◌∷◌, ◌++◌, map, length}
use Rattle.integers.specs.Lists.{All}
use Rattle.rules.specs.declared.Relation.{Relation}
use Rattle.rules.specs.declared.Relation.TheVariants.{Lt, Le, Gt, Ge, Eq, Neq}
use Rattle.grammar.specs.Bytes.{open_bracket, close_bracket, times_sign, plus_sign, comma, minus_sign, full_stop, colon, less_sign, equals_sign, greater_sign, not_sign, Blanks, blank_bytes, Digit, Capital, Lower, LetterOrDigit}

-- ---- trees

-- a name, a variable or a run of digits
pub record Word : Type 0 where
  pub bytes : List ℕ
  pub blanks : Blanks

abbrev pub word : List ℕ → Blanks → Word
word s b = record { bytes = s; blanks = b }

-- "one or more arguments, a body one or more items; commas part them"
pub record Next (A : Type 0) : Type 0 where
  -- behind the comma
  pub blanks : Blanks
  pub item : A

abbrev pub next : {A : Type 0} → Blanks → A → Next A
next b a = record { blanks = b; item = a }

pub record Items (A : Type 0) : Type 0 where
  pub first : A
  pub more : List (Next A)

abbrev pub items : {A : Type 0} → A → List (Next A) → Items A
items a l = record { first = a; more = l }

-- "Atoms have a lower-case name and, in brackets, one or more arguments"
pub record Atom (A : Type 0) : Type 0 where
  pub predicate : Word
  -- behind the open bracket
  pub before : Blanks
  pub arguments : Items A
  -- behind the closed one
  pub behind : Blanks

abbrev pub atom_of : {A : Type 0} → Word → Blanks → Items A → Blanks → Atom A
atom_of p b a c = record { predicate = p; before = b; arguments = a; behind = c }

-- "Only a fact's integer (a sentence with no `:-`) carries its own minus, a token too."
pub data Integer : Type 0 where
  plain : Word → Integer
  -- the blanks behind the minus
  negative : Blanks → Word → Integer

-- "A fact's argument is an integer (decimal, leading zeros allowed), a lower-case name or a range `0..9` of integers."
pub data Value : Type 0 where
  integer : Integer → Value
  name : Word → Value
  range : Integer → Blanks → Integer → Value

-- "Unary minus binds tightest, then `*`, then `+` and `-`, from the left; minuses may repeat, brackets override." A level is a type: a sum's left
-- part is a sum and its right one a product, a product's left part is a product and its right one unary, what a minus is before is unary.
pub data Additive : Type 0 where
  plus : Additive
  less : Additive

pub data Multiplicative : Type 0 where
  times : Multiplicative

mutual
  pub data Sum : Type 0 where
    product : Product → Sum
    added : Sum → Additive → Blanks → Product → Sum

  pub data Product : Type 0 where
    unary : Unary → Product
    multiplied : Product → Multiplicative → Blanks → Unary → Product

  pub data Unary : Type 0 where
    leaf : Leaf → Unary
    minus : Blanks → Unary → Unary

  -- "their leaves are unsigned integers, names and variables"
  pub data Leaf : Type 0 where
    integer : Word → Leaf
    name : Word → Leaf
    variable : Word → Leaf
    -- the blanks behind each of the two
    brackets : Blanks → Sum → Blanks → Leaf

-- "A body item is an atom over variables or a comparison (`<`, `<=`, `>`, `>=`, `=`, `!=`) of two expressions"
pub data Item : Type 0 where
  atom : Atom Word → Item
  comparison : Sum → Relation → Blanks → Sum → Item

-- "a fact or a head, `:-` and a body, then a full stop", and "head arguments are expressions too"
pub data Sentence : Type 0 where
  fact : Atom Value → Blanks → Sentence
  rule : Atom Sum → Blanks → Items Item → Blanks → Sentence

-- "A text is any number of sentences"
pub record Text : Type 0 where
  -- before the first token
  pub blanks : Blanks
  pub sentences : List Sentence

abbrev pub text : Blanks → List Sentence → Text
text b l = record { blanks = b; sentences = l }

-- ---- what is written: single bytes, and the digits of literals, which an error may name

pub data Piece : Type 0 where
  byte : ℕ → Piece
  -- whether a minus of its own stands before the digits
  literal : Bool → List ℕ → Piece

abbrev pub pieces : List ℕ → List Piece
pieces = map byte

abbrev pub blank_pieces : Blanks → List Piece
blank_pieces b = pieces (blank_bytes b)

-- a byte that is a token, and the blanks behind it
abbrev pub sign : ℕ → Blanks → List Piece
sign s b = byte s ∷ blank_pieces b

abbrev pub word_pieces : Word → List Piece
word_pieces w = pieces w.bytes ++ blank_pieces w.blanks

abbrev pub literal_pieces : Bool → Word → List Piece
literal_pieces own w = literal own w.bytes ∷ blank_pieces w.blanks

unfoldable pub next_pieces : {A : Type 0} → (A → List Piece) → List (Next A) → List Piece
next_pieces f [] = []
next_pieces f (n ∷ l) = sign comma n.blanks ++ (f n.item ++ next_pieces f l)

abbrev pub items_pieces : {A : Type 0} → (A → List Piece) → Items A → List Piece
items_pieces f l = f l.first ++ next_pieces f l.more

abbrev pub atom_pieces : {A : Type 0} → (A → List Piece) → Atom A → List Piece
atom_pieces f a = word_pieces a.predicate ++ (sign open_bracket a.before ++ (items_pieces f a.arguments ++ sign close_bracket a.behind))

abbrev pub integer_pieces : Integer → List Piece
integer_pieces (plain w) = literal_pieces false w
integer_pieces (negative b w) = sign minus_sign b ++ literal_pieces true w

abbrev pub value_pieces : Value → List Piece
value_pieces (integer z) = integer_pieces z
value_pieces (name w) = word_pieces w
value_pieces (range low b high) = integer_pieces low ++ (byte full_stop ∷ sign full_stop b ++ integer_pieces high)

abbrev pub additive_byte : Additive → ℕ
additive_byte plus = plus_sign
additive_byte less = minus_sign

abbrev pub multiplicative_byte : Multiplicative → ℕ
multiplicative_byte times = times_sign

unfoldable mutual
  pub sum_pieces : Sum → List Piece
  sum_pieces (product p) = product_pieces p
  sum_pieces (added s op b p) = sum_pieces s ++ (sign (additive_byte op) b ++ product_pieces p)

  pub product_pieces : Product → List Piece
  product_pieces (unary u) = unary_pieces u
  product_pieces (multiplied p op b u) = product_pieces p ++ (sign (multiplicative_byte op) b ++ unary_pieces u)

  pub unary_pieces : Unary → List Piece
  unary_pieces (leaf l) = leaf_pieces l
  unary_pieces (minus b u) = sign minus_sign b ++ unary_pieces u

  pub leaf_pieces : Leaf → List Piece
  leaf_pieces (integer w) = literal_pieces false w
  leaf_pieces (name w) = word_pieces w
  leaf_pieces (variable w) = word_pieces w
  leaf_pieces (brackets b s c) = sign open_bracket b ++ (sum_pieces s ++ sign close_bracket c)

abbrev pub relation_bytes : Relation → List ℕ
relation_bytes Lt = less_sign ∷ []
relation_bytes Le = less_sign ∷ equals_sign ∷ []
relation_bytes Gt = greater_sign ∷ []
relation_bytes Ge = greater_sign ∷ equals_sign ∷ []
relation_bytes Eq = equals_sign ∷ []
relation_bytes Neq = not_sign ∷ equals_sign ∷ []

abbrev pub item_pieces : Item → List Piece
item_pieces (atom a) = atom_pieces word_pieces a
item_pieces (comparison l r b s) = sum_pieces l ++ (pieces (relation_bytes r) ++ (blank_pieces b ++ sum_pieces s))

abbrev pub sentence_pieces : Sentence → List Piece
sentence_pieces (fact a b) = atom_pieces value_pieces a ++ sign full_stop b
sentence_pieces (rule a b l c) = atom_pieces sum_pieces a ++ (byte colon ∷ sign minus_sign b ++ (items_pieces item_pieces l ++ sign full_stop c))

unfoldable pub sentences_pieces : List Sentence → List Piece
sentences_pieces [] = []
sentences_pieces (s ∷ l) = sentence_pieces s ++ sentences_pieces l

abbrev pub text_pieces : Text → List Piece
text_pieces t = blank_pieces t.blanks ++ sentences_pieces t.sentences

unfoldable pub bytes : List Piece → List ℕ
bytes [] = []
bytes (byte b ∷ l) = b ∷ bytes l
bytes (literal own digits ∷ l) = digits ++ bytes l

unfoldable pub print : Text → List ℕ
print t = bytes (text_pieces t)

-- ---- which trees are good: nothing here limits a text's length, or a literal

abbrev pub IsDigits : List ℕ → Type 0
IsDigits [] = ⊥
IsDigits (b ∷ l) = Digit b × All Digit l

-- "Names and variables (capital first) go on with letters and digits, to 64 in all"
abbrev pub IsName : List ℕ → Type 0
IsName [] = ⊥
IsName (b ∷ l) = Lower b × (All LetterOrDigit l × (length (b ∷ l) ≤ 64))

abbrev pub IsVariable : List ℕ → Type 0
IsVariable [] = ⊥
IsVariable (b ∷ l) = Capital b × (All LetterOrDigit l × (length (b ∷ l) ≤ 64))

abbrev pub GoodNext : {A : Type 0} → (A → Type 0) → List (Next A) → Type 0
GoodNext P [] = Unit {0}
GoodNext P (n ∷ l) = P n.item × GoodNext P l

abbrev pub GoodItems : {A : Type 0} → (A → Type 0) → Items A → Type 0
GoodItems P l = P l.first × GoodNext P l.more

abbrev pub GoodAtom : {A : Type 0} → (A → Type 0) → Atom A → Type 0
GoodAtom P a = IsName a.predicate.bytes × GoodItems P a.arguments

abbrev pub GoodInteger : Integer → Type 0
GoodInteger (plain w) = IsDigits w.bytes
GoodInteger (negative b w) = IsDigits w.bytes

abbrev pub GoodValue : Value → Type 0
GoodValue (integer z) = GoodInteger z
GoodValue (name w) = IsName w.bytes
GoodValue (range low b high) = GoodInteger low × GoodInteger high

abbrev mutual
  pub GoodSum : Sum → Type 0
  GoodSum (product p) = GoodProduct p
  GoodSum (added s op b p) = GoodSum s × GoodProduct p

  pub GoodProduct : Product → Type 0
  GoodProduct (unary u) = GoodUnary u
  GoodProduct (multiplied p op b u) = GoodProduct p × GoodUnary u

  pub GoodUnary : Unary → Type 0
  GoodUnary (leaf l) = GoodLeaf l
  GoodUnary (minus b u) = GoodUnary u

  pub GoodLeaf : Leaf → Type 0
  GoodLeaf (integer w) = IsDigits w.bytes
  GoodLeaf (name w) = IsName w.bytes
  GoodLeaf (variable w) = IsVariable w.bytes
  GoodLeaf (brackets b s c) = GoodSum s

abbrev pub GoodItem : Item → Type 0
GoodItem (atom a) = GoodAtom (λ w. IsVariable w.bytes) a
GoodItem (comparison l r b s) = GoodSum l × GoodSum s

abbrev pub GoodSentence : Sentence → Type 0
GoodSentence (fact a b) = GoodAtom GoodValue a
GoodSentence (rule a b l c) = GoodAtom GoodSum a × GoodItems GoodItem l

abbrev pub Good : Text → Type 0
Good t = All GoodSentence t.sentences

-- ---- what is a text

abbrev pub IsText : List ℕ → Type 0
IsText s = (t : Text) × (Good t × (print t ≡ s))
