-- Reading what is written, over any step: piece after piece, blanks, and the bytes of words.
use Rattle.std.specs.Prelude.{ℕ, ◌+◌, ◌≤◌, ◌<◌, ◌≡◌, refl, Bool, List, [], ◌∷◌, ◌++◌, length}
use mathlib.Core.Path.{sym, ap, subst, ◌∙◌}
use mathlib.Core.Logic.{inl, inr}
use native.Mathlib.Omega.{arith}
use Rattle.std.proofs.Math.Option.{Option, some, none}
use Rattle.std.proofs.lemmas.Bool.{ne_eqb, le-leb, lt-leb, lt-ltb}
use Rattle.std.proofs.lemmas.List.{append_assoc, append-nil, length-append}
use Rattle.integers.specs.Lists.{All}
use Rattle.grammar.specs.Bytes.{Blank, space, line_feed, Blanks, blank_byte, Digit, Capital, Lower, LetterOrDigit}
use Rattle.grammar.specs.Grammar.{Word, word, Piece, byte, literal, pieces, blank_pieces, word_pieces, literal_pieces, bytes, IsDigits, IsName, IsVariable}
use Rattle.grammar.specs.Reader.{Class, blank, digit, capital, lower, class_of, and_then, blank_behind, longer, name_longer, one_byte}

-- ---- classes

pub digit_class : (b : ℕ) → Digit b → class_of b ≡ digit b
unfolding class_of
digit_class b (l, h) = rw (ne_eqb b 32 (λ e. omega (arith, e, l))) (rw (ne_eqb b 10 (λ e. omega (arith, e, l))) (rw (le-leb 48 b l) (rw (le-leb b 57 h) refl)))

pub capital_class : (b : ℕ) → Capital b → class_of b ≡ capital b
unfolding class_of
capital_class b (l, h) =
    rw (ne_eqb b 32 (λ e. omega (arith, e, l))) (rw (ne_eqb b 10 (λ e. omega (arith, e, l))) (
    rw (le-leb 48 b (omega (arith, l))) (rw (lt-leb b 57 (omega (arith, l))) (rw (le-leb 65 b l) (rw (le-leb b 90 h) refl)))))

pub lower_class : (b : ℕ) → Lower b → class_of b ≡ lower b
unfolding class_of
lower_class b (l, h) =
    rw (ne_eqb b 32 (λ e. omega (arith, e, l))) (rw (ne_eqb b 10 (λ e. omega (arith, e, l))) (
    rw (le-leb 48 b (omega (arith, l))) (rw (lt-leb b 57 (omega (arith, l))) (
    rw (le-leb 65 b (omega (arith, l))) (rw (lt-leb b 90 (omega (arith, l))) (rw (le-leb 97 b l) (rw (le-leb b 122 h) refl)))))))

pub blank_class : (x : Blank) → class_of (blank_byte x) ≡ blank x
unfolding class_of
blank_class space = refl
blank_class line_feed = refl

-- ---- following

unfoldable pub follow : {Z : Type 0} → (Z → Class → Option Z) → Z → List ℕ → Option Z
follow f z [] = some z
follow f z (b ∷ s) = and_then (f z (class_of b)) (λ y. follow f y s)

and_again : {A B C : Type 0} (o : Option A) (h : A → Option C) (k : A → Option B) (m : B → Option C) → ((a : A) → h a ≡ and_then (k a) m) → and_then o h ≡ and_then (and_then o k) m
and_again none h k m e = refl
and_again (some a) h k m e = e a

pub and_some : {A B C : Type 0} (o : Option A) (f : A → B) (h : B → C) → and_then (and_then o (λ v. some (f v))) (λ x. some (h x)) ≡ and_then o (λ v. some (h (f v)))
and_some none f h = refl
and_some (some a) f h = refl

pub follow_append : {Z : Type 0} (f : Z → Class → Option Z) (z : Z) (s t : List ℕ) → follow f z (s ++ t) ≡ and_then (follow f z s) (λ y. follow f y t)
unfolding follow
follow_append f z [] t = refl
follow_append f z (b ∷ s) t = and_again (f z (class_of b)) (λ y. follow f y (s ++ t)) (λ y. follow f y s) (λ y. follow f y t) (λ y. follow_append f y s t)

pub bytes_append : (a c : List Piece) → bytes (a ++ c) ≡ bytes a ++ bytes c
unfolding bytes
bytes_append [] c = refl
bytes_append (byte b ∷ a) c = ap (λ l. b ∷ l) (bytes_append a c)
bytes_append (literal own d ∷ a) c = ap (λ l. d ++ l) (bytes_append a c) ∙ sym (append_assoc d (bytes a) (bytes c))

-- from one state to another over what is written
pub record Reads {Z : Type 0} (f : Z → Class → Option Z) (z : Z) (l : List Piece) (y : Z) : Type 0 where
  pub reads : follow f z (bytes l) ≡ some y

abbrev pub reading : {Z : Type 0} {f : Z → Class → Option Z} {z : Z} {l : List Piece} {y : Z} → follow f z (bytes l) ≡ some y → Reads f z l y
reading e = record { reads = e }

pub nothing : {Z : Type 0} {f : Z → Class → Option Z} {z : Z} → Reads f z [] z
unfolding follow bytes
nothing = reading refl

pub then : {Z : Type 0} {f : Z → Class → Option Z} {z y x : Z} {a c : List Piece} → Reads f z a y → Reads f y c x → Reads f z (a ++ c) x
then {f = f} {z = z} {a = a} {c = c} h k = reading (ap (follow f z) (bytes_append a c) ∙ (follow_append f z (bytes a) (bytes c) ∙ (ap (λ o. and_then o (λ y. follow f y (bytes c))) h.reads ∙ k.reads)))

pub single : {Z : Type 0} {f : Z → Class → Option Z} {z y : Z} (b : ℕ) → f z (class_of b) ≡ some y → Reads f z (byte b ∷ []) y
unfolding follow bytes
single {f = f} b e = reading (ap (λ o. and_then o (λ y. some y)) e)

pub one_then : {Z : Type 0} {f : Z → Class → Option Z} {z y x : Z} {c : List Piece} (b : ℕ) → f z (class_of b) ≡ some y → Reads f y c x → Reads f z (byte b ∷ c) x
unfolding follow bytes
one_then {f = f} {c = c} b e k = reading (ap (λ o. and_then o (λ y. follow f y (bytes c))) e ∙ k.reads)

-- written in other groups
pub regrouped : {Z : Type 0} {f : Z → Class → Option Z} {z y : Z} (a b c : List Piece) → Reads f z (a ++ (b ++ c)) y → Reads f z ((a ++ b) ++ c) y
regrouped {f = f} {z = z} {y = y} a b c r = subst (λ l. Reads f z l y) (sym (append_assoc a b c)) r

-- ---- blanks

pub blanks_read : {Z : Type 0} {f : Z → Class → Option Z} (g : Blanks → Z) → ((l : Blanks) (x : Blank) → f (g l) (blank x) ≡ some (g (l ++ (x ∷ [])))) → (l b : Blanks) → Reads f (g l) (blank_pieces b) (g (l ++ b))
blanks_read {f = f} g h l [] = subst (λ m. Reads f (g l) [] (g m)) (sym (append-nil l)) nothing
blanks_read {f = f} g h l (x ∷ b) =
    one_then (blank_byte x) (ap (f (g l)) (blank_class x) ∙ h l x) (subst (λ m. Reads f (g (l ++ (x ∷ []))) (blank_pieces b) (g m)) (append_assoc l (x ∷ []) b) (blanks_read g h (l ++ (x ∷ [])) b))

-- ---- the bytes of a word, behind those that were read, n in all

pub bytes_read : {Z : Type 0} {f : Z → Class → Option Z} (P : ℕ → Type 0) (n : ℕ) (g : List ℕ → Z) →
    ((s : List ℕ) (b : ℕ) → P b → length s < n → f (g s) (class_of b) ≡ some (g (s ++ (b ∷ [])))) →
    (s l : List ℕ) → All P l → length s + length l ≤ n → Reads f (g s) (pieces l) (g (s ++ l))
bytes_read {f = f} P n g h s [] a m = subst (λ l. Reads f (g s) [] (g l)) (sym (append-nil s)) nothing
bytes_read {f = f} P n g h s (b ∷ l) (p, a) m =
    one_then b (h s b p (omega (arith, m))) (subst (λ t. Reads f (g (s ++ (b ∷ []))) (pieces l) (g t)) (append_assoc s (b ∷ []) l)
    (bytes_read P n g h (s ++ (b ∷ [])) l a (let e : length (s ++ (b ∷ [])) ≡ length s + 1 = length-append s (b ∷ []) in omega (arith, m, e))))

pub word_read : {Z : Type 0} {f : Z → Class → Option Z} (P : ℕ → Type 0) (n : ℕ) (g : Word → Z) →
    ((w : Word) (x : Blank) → f (g w) (blank x) ≡ some (g (blank_behind w x))) →
    ((s : List ℕ) (b : ℕ) → P b → length s < n → f (g (word s [])) (class_of b) ≡ some (g (word (s ++ (b ∷ [])) []))) →
    (z : Z) (b : ℕ) (l : List ℕ) (k : Blanks) → f z (class_of b) ≡ some (g (one_byte b)) → All P l → length (b ∷ l) ≤ n → Reads f z (pieces (b ∷ l) ++ blank_pieces k) (g (word (b ∷ l) k))
word_read P n g h p z b l k e a m =
    then (one_then b e (bytes_read P n (λ s. g (word s [])) p (b ∷ []) l a (omega (arith, m)))) (blanks_read (λ c. g (word (b ∷ l) c)) (λ c x. h (word (b ∷ l) c) x) [] k)

-- ---- names and variables

-- where a name or a variable stands: what a step does there
pub record Names {Z : Type 0} (f : Z → Class → Option Z) (g : Word → Z) : Type 0 where
  pub on_blank : (w : Word) (x : Blank) → f (g w) (blank x) ≡ some (g (blank_behind w x))
  pub on_digit : (w : Word) (b : ℕ) → f (g w) (digit b) ≡ and_then (name_longer w b) (λ v. some (g v))
  pub on_capital : (w : Word) (b : ℕ) → f (g w) (capital b) ≡ and_then (name_longer w b) (λ v. some (g v))
  pub on_lower : (w : Word) (b : ℕ) → f (g w) (lower b) ≡ and_then (name_longer w b) (λ v. some (g v))

longer_name : {Z : Type 0} (g : Word → Z) (s : List ℕ) (b : ℕ) → length s < 64 → and_then (name_longer (word s []) b) (λ v. some (g v)) ≡ some (g (word (s ++ (b ∷ [])) []))
longer_name g s b m = rw (lt-ltb (length s) 64 m) refl

name_tail : {Z : Type 0} {f : Z → Class → Option Z} (g : Word → Z) → Names f g → (s : List ℕ) (b : ℕ) → LetterOrDigit b → length s < 64 → f (g (word s [])) (class_of b) ≡ some (g (word (s ++ (b ∷ [])) []))
name_tail {f = f} g p s b (inl h) m = ap (f (g (word s []))) (lower_class b h) ∙ (p.on_lower (word s []) b ∙ longer_name g s b m)
name_tail {f = f} g p s b (inr (inl h)) m = ap (f (g (word s []))) (capital_class b h) ∙ (p.on_capital (word s []) b ∙ longer_name g s b m)
name_tail {f = f} g p s b (inr (inr h)) m = ap (f (g (word s []))) (digit_class b h) ∙ (p.on_digit (word s []) b ∙ longer_name g s b m)

pub name_read : {Z : Type 0} {f : Z → Class → Option Z} (g : Word → Z) → Names f g → (z : Z) → ((b : ℕ) → f z (lower b) ≡ some (g (one_byte b))) → (s : List ℕ) (k : Blanks) → IsName s → Reads f z (word_pieces (word s k)) (g (word s k))
name_read g p z e [] k h = elim h [ ]
name_read {f = f} g p z e (b ∷ l) k (h, (a, m)) = word_read LetterOrDigit 64 g p.on_blank (name_tail g p) z b l k (ap (f z) (lower_class b h) ∙ e b) a m

pub variable_read : {Z : Type 0} {f : Z → Class → Option Z} (g : Word → Z) → Names f g → (z : Z) → ((b : ℕ) → f z (capital b) ≡ some (g (one_byte b))) → (s : List ℕ) (k : Blanks) → IsVariable s → Reads f z (word_pieces (word s k)) (g (word s k))
variable_read g p z e [] k h = elim h [ ]
variable_read {f = f} g p z e (b ∷ l) k (h, (a, m)) = word_read LetterOrDigit 64 g p.on_blank (name_tail g p) z b l k (ap (f z) (capital_class b h) ∙ e b) a m

-- ---- literals

pub bytes_of_pieces : (s : List ℕ) → bytes (pieces s) ≡ s
unfolding bytes
bytes_of_pieces [] = refl
bytes_of_pieces (b ∷ s) = ap (λ l. b ∷ l) (bytes_of_pieces s)

pub literal_bytes : (own : Bool) (d : List ℕ) (c : List Piece) → bytes (literal own d ∷ c) ≡ bytes (pieces d ++ c)
unfolding bytes
literal_bytes own d c = sym (bytes_append (pieces d) c ∙ ap (λ l. l ++ bytes c) (bytes_of_pieces d))

pub record Numbers {Z : Type 0} (f : Z → Class → Option Z) (g : Word → Z) : Type 0 where
  pub on_blank : (w : Word) (x : Blank) → f (g w) (blank x) ≡ some (g (blank_behind w x))
  pub on_digit : (w : Word) (b : ℕ) → f (g w) (digit b) ≡ and_then (longer w b) (λ v. some (g v))

pub digits_read : {Z : Type 0} {f : Z → Class → Option Z} (g : Word → Z) → Numbers f g → (own : Bool) (z : Z) → ((b : ℕ) → f z (digit b) ≡ some (g (one_byte b))) → (s : List ℕ) (k : Blanks) → IsDigits s → Reads f z (literal_pieces own (word s k)) (g (word s k))
digits_read g p own z e [] k h = elim h [ ]
digits_read {f = f} g p own z e (b ∷ l) k (h, a) =
    let r = word_read Digit (length (b ∷ l)) g p.on_blank (λ s c q m. ap (f (g (word s []))) (digit_class c q) ∙ p.on_digit (word s []) c) z b l k (ap (f z) (digit_class b h) ∙ e b) a (omega arith) in
    reading (ap (follow f z) (literal_bytes own (b ∷ l) (blank_pieces k)) ∙ r.reads)
