-- Each live step of an expression appends its byte to what is held, which is written from the left, behind what stands before it.
use Rattle.std.specs.Prelude.{ℕ, Bool, true, false, cond, ltb, length, ◌≡◌, refl, List, [], ◌∷◌, ◌++◌}
use mathlib.Core.Path.{sym, ap, ◌∙◌}
use Rattle.std.proofs.Math.Option.{Option, some, none}
use Rattle.std.proofs.lemmas.List.{append_assoc, append-nil}
use Rattle.grammar.specs.Bytes.{Blank, Blanks, blank_byte}
use Rattle.grammar.specs.Grammar.{Word, word, Sum, Product, Unary, leaf, minus, Leaf, integer, name, variable, brackets, additive_byte, multiplicative_byte, Piece, sum_pieces, product_pieces, unary_pieces, leaf_pieces, byte, literal, pieces, blank_pieces, sign, bytes}
use Rattle.grammar.specs.Reader.{class_of, within, part_step, and_then, longer, leaf_digit, leaf_letter, with_leaf, after_bracket, standing_step, Class, blank, digit, capital, lower, awaited_step, leaf_blank, SumLeft, ProductLeft, Level, level, Open, Part, part, negated, unary_of, product_of, sum_of, product_with, sum_with, blank_at}
use Rattle.grammar.specs.Reader as reader
use Rattle.grammar.proofs.Grows.{Grows, one_more, begins, goes_on, grows_behind}

-- ---- what is held, behind what stands before it

unfoldable pub minuses_on : List Piece → List Blanks → List Piece
minuses_on w [] = w
minuses_on w (b ∷ m) = minuses_on w m ++ (byte 45 ∷ []) ++ blank_pieces b

abbrev pub product_on : List Piece → Option ProductLeft → List Piece
product_on w none = w
product_on w (some p) = w ++ product_pieces p.left ++ (byte (multiplicative_byte p.operator) ∷ []) ++ blank_pieces p.blanks

abbrev pub sum_on : List Piece → Option SumLeft → List Piece
sum_on w none = w
sum_on w (some s) = w ++ sum_pieces s.left ++ (byte (additive_byte s.operator) ∷ []) ++ blank_pieces s.blanks

abbrev pub level_on : List Piece → Level → List Piece
level_on w l = minuses_on (product_on (sum_on w l.sum) l.product) l.minuses

-- ---- a level and its operand are the sum that they make

-- a byte that is a token, its blanks, and what stands behind
sign_written : (w : List Piece) (x : ℕ) (b : Blanks) (l : List Piece) → (w ++ (byte x ∷ []) ++ blank_pieces b) ++ l ≡ w ++ (sign x b ++ l)
sign_written w x b l = append_assoc (w ++ (byte x ∷ [])) (blank_pieces b) l ∙ append_assoc w (byte x ∷ []) (blank_pieces b ++ l)

between_written : (w a : List Piece) (x : ℕ) (b : Blanks) (l : List Piece) → (w ++ a ++ (byte x ∷ []) ++ blank_pieces b) ++ l ≡ w ++ (a ++ (sign x b ++ l))
between_written w a x b l = sign_written (w ++ a) x b l ∙ append_assoc w a (sign x b ++ l)

minuses_written : (w : List Piece) (m : List Blanks) (u : Unary) → minuses_on w m ++ unary_pieces u ≡ w ++ unary_pieces (negated m u)
unfolding minuses_on sum_pieces
minuses_written w [] u = refl
minuses_written w (b ∷ m) u = sign_written (minuses_on w m) 45 b (unary_pieces u) ∙ minuses_written w m (minus b u)

product_written : (w : List Piece) (p : Option ProductLeft) (u : Unary) → product_on w p ++ unary_pieces u ≡ w ++ product_pieces (product_with p u)
unfolding sum_pieces
product_written w none u = refl
product_written w (some p) u = between_written w (product_pieces p.left) (multiplicative_byte p.operator) p.blanks (unary_pieces u)

sum_written : (w : List Piece) (s : Option SumLeft) (p : Product) → sum_on w s ++ product_pieces p ≡ w ++ sum_pieces (sum_with s p)
unfolding sum_pieces
sum_written w none p = refl
sum_written w (some s) p = between_written w (sum_pieces s.left) (additive_byte s.operator) s.blanks (product_pieces p)

pub level_written : (w : List Piece) (l : Level) (x : Leaf) → level_on w l ++ leaf_pieces x ≡ w ++ sum_pieces (sum_of l x)
unfolding sum_pieces
level_written w l x =
    minuses_written (product_on (sum_on w l.sum) l.product) l.minuses (leaf x) ∙
    (product_written (sum_on w l.sum) l.product (negated l.minuses (leaf x)) ∙ sum_written w l.sum (product_with l.product (negated l.minuses (leaf x))))

-- ---- a part

unfoldable pub opens_on : List Piece → List Open → List Piece
opens_on w [] = w
opens_on w (o ∷ l) = level_on (opens_on w l) o.before ++ (byte 40 ∷ []) ++ blank_pieces o.blanks

abbrev pub operand_pieces : Option Leaf → List Piece
operand_pieces none = []
operand_pieces (some x) = leaf_pieces x

-- behind the blanks before it
abbrev pub part_on : List Piece → Part → List Piece
part_on w z = level_on (opens_on (w ++ blank_pieces z.start) z.brackets) z.level ++ operand_pieces z.operand

-- ---- one blank more, behind the token that was read last

pub blank_end : (w : List Piece) (b : Blanks) (x : Blank) → w ++ blank_pieces (b ++ (x ∷ [])) ≡ w ++ blank_pieces b ++ (byte (blank_byte x) ∷ [])
blank_end w b x = ap (λ l. w ++ l) (blanks_more b x) ∙ sym (append_assoc w (blank_pieces b) (byte (blank_byte x) ∷ []))
  where
    blanks_more : (b : Blanks) (x : Blank) → blank_pieces (b ++ (x ∷ [])) ≡ blank_pieces b ++ (byte (blank_byte x) ∷ [])
    blanks_more [] x = refl
    blanks_more (y ∷ b) x = ap (λ l. byte (blank_byte y) ∷ l) (blanks_more b x)

-- behind a token whose operand is not there yet
pub nil_blank : (u : List Piece) (b : Blanks) (x : Blank) → (u ++ blank_pieces (b ++ (x ∷ []))) ++ [] ≡ ((u ++ blank_pieces b) ++ []) ++ (byte (blank_byte x) ∷ [])
nil_blank u b x = append-nil (u ++ blank_pieces (b ++ (x ∷ []))) ∙ (blank_end u b x ∙ ap (λ l. l ++ (byte (blank_byte x) ∷ [])) (sym (append-nil (u ++ blank_pieces b))))

nil_sign : (u : List Piece) (x : ℕ) → ((u ++ (byte x ∷ [])) ++ []) ++ [] ≡ (u ++ []) ++ (byte x ∷ [])
nil_sign u x = append-nil ((u ++ (byte x ∷ [])) ++ []) ∙ (append-nil (u ++ (byte x ∷ [])) ∙ ap (λ l. l ++ (byte x ∷ [])) (sym (append-nil u)))

blank_written : (w : List Piece) (x : Blank) (st : Blanks) (o : List Open) (s : Option SumLeft) (p : Option ProductLeft) (m : List Blanks) → part_on w (blank_at x st o s p m) ≡ part_on w (part st o (level s p m) none) ++ (byte (blank_byte x) ∷ [])
unfolding minuses_on opens_on
blank_written w x st o s p (b ∷ m) = nil_blank (level_on (opens_on (w ++ blank_pieces st) o) (level s p m) ++ (byte 45 ∷ [])) b x
blank_written w x st o s (some p) [] = nil_blank (sum_on (opens_on (w ++ blank_pieces st) o) s ++ product_pieces p.left ++ (byte (multiplicative_byte p.operator) ∷ [])) p.blanks x
blank_written w x st o (some s) none [] = nil_blank (opens_on (w ++ blank_pieces st) o ++ sum_pieces s.left ++ (byte (additive_byte s.operator) ∷ [])) s.blanks x
blank_written w x st (b ∷ o) none none [] = nil_blank (level_on (opens_on (w ++ blank_pieces st) o) b.before ++ (byte 40 ∷ [])) b.blanks x
blank_written w x st [] none none [] = nil_blank w st x

-- ---- what an operand that goes on is written as

bracket_grouped : (b : Blanks) (s : Sum) (c : Blanks) → sign 40 b ++ (sum_pieces s ++ sign 41 c) ≡ (sign 40 b ++ (sum_pieces s ++ (byte 41 ∷ []))) ++ blank_pieces c
bracket_grouped b s c = sym (append_assoc (sign 40 b) (sum_pieces s ++ (byte 41 ∷ [])) (blank_pieces c) ∙ ap (λ l. sign 40 b ++ l) (append_assoc (sum_pieces s) (byte 41 ∷ []) (blank_pieces c)))

leaf_blank_pieces : (l : Leaf) (x : Blank) → leaf_pieces (leaf_blank l x) ≡ leaf_pieces l ++ (byte (blank_byte x) ∷ [])
unfolding sum_pieces
leaf_blank_pieces (integer w) x = blank_end (literal _ w.bytes ∷ []) w.blanks x
leaf_blank_pieces (name w) x = blank_end (pieces w.bytes) w.blanks x
leaf_blank_pieces (variable w) x = blank_end (pieces w.bytes) w.blanks x
leaf_blank_pieces (brackets b s c) x =
    bracket_grouped b s (c ++ (x ∷ [])) ∙ (blank_end (sign 40 b ++ (sum_pieces s ++ (byte 41 ∷ []))) c x ∙ ap (λ l. l ++ (byte (blank_byte x) ∷ [])) (sym (bracket_grouped b s c)))

-- ---- steps

-- the byte of a class that is not dead everywhere
abbrev pub byte_in : Class → ℕ
byte_in (blank x) = blank_byte x
byte_in (digit b) = b
byte_in (capital b) = b
byte_in (lower b) = b
byte_in reader.opening = 40
byte_in reader.closing = 41
byte_in reader.times = 42
byte_in reader.plus = 43
byte_in reader.comma = 44
byte_in reader.minus = 45
byte_in reader.stop = 46
byte_in reader.colon = 58
byte_in reader.less = 60
byte_in reader.equals = 61
byte_in reader.greater = 62
byte_in reader.bang = 33
byte_in reader.other = 0

-- what is held grows by the byte of a live step
abbrev pub Written : List Piece → Part → Class → Option Part → Type 0
Written w z c none = Unit {0}
Written w z c (some y) = Grows (byte_in c) (part_on w z) (part_on w y)

awaited_written : (w : List Piece) (st : Blanks) (o : List Open) (v : Level) (c : Class) → Written w (part st o v none) c (awaited_step (part st o v none) c)
unfolding minuses_on opens_on bytes sum_pieces
awaited_written w st o v (blank x) = one_more (blank_written w x st o v.sum v.product v.minuses)
awaited_written w st o v (digit b) = begins false (ap (λ l. l ++ (literal false (b ∷ []) ∷ [])) (sym (append-nil (level_on (opens_on (w ++ blank_pieces st) o) v))))
awaited_written w st o v (lower b) = one_more (ap (λ l. l ++ (byte b ∷ [])) (sym (append-nil (level_on (opens_on (w ++ blank_pieces st) o) v))))
awaited_written w st o v (capital b) = one_more (ap (λ l. l ++ (byte b ∷ [])) (sym (append-nil (level_on (opens_on (w ++ blank_pieces st) o) v))))
awaited_written w st o v reader.minus = one_more (nil_sign (level_on (opens_on (w ++ blank_pieces st) o) v) 45)
awaited_written w st o v reader.opening = one_more (nil_sign (level_on (opens_on (w ++ blank_pieces st) o) v) 40)
awaited_written w st o v c = tt

-- ---- an operand goes on

abbrev Grown : Leaf → ℕ → Option Leaf → Type 0
Grown x b none = Unit {0}
Grown x b (some y) = Grows b (leaf_pieces x) (leaf_pieces y)

grown_word : (f : Word → Leaf) → ((s : List ℕ) (b : ℕ) → Grows b (leaf_pieces (f (word s []))) (leaf_pieces (f (word (s ++ (b ∷ [])) [])))) →
    (t : Bool) (s : List ℕ) (k : Blanks) (b : ℕ) → Grown (f (word s k)) b (and_then (cond t (longer (word s k) b) none) (λ v. some (f v)))
grown_word f h false s k b = tt
grown_word f h true s [] b = h s b
grown_word f h true s (x ∷ k) b = tt

pub more_name : (s : List ℕ) (b : ℕ) → pieces (s ++ (b ∷ [])) ++ [] ≡ (pieces s ++ []) ++ (byte b ∷ [])
more_name s b = append-nil (pieces (s ++ (b ∷ []))) ∙ (more s ∙ ap (λ l. l ++ (byte b ∷ [])) (sym (append-nil (pieces s))))
  where
    more : (s : List ℕ) → pieces (s ++ (b ∷ [])) ≡ pieces s ++ (byte b ∷ [])
    more [] = refl
    more (c ∷ s) = ap (λ l. byte c ∷ l) (more s)

grown_name : (s : List ℕ) (b : ℕ) → Grows b (pieces s ++ []) (pieces (s ++ (b ∷ [])) ++ [])
grown_name s b = one_more (more_name s b)

pub more_digits : (own : Bool) (s : List ℕ) (b : ℕ) → Grows b (literal own s ∷ []) (literal own (s ++ (b ∷ [])) ∷ [])
more_digits own s b = goes_on [] own s refl refl

grown_digit : (x : Leaf) (b : ℕ) → Grown x b (leaf_digit x b)
unfolding sum_pieces bytes
grown_digit (integer w) b = grown_word (λ v. integer v) (more_digits false) true w.bytes w.blanks b
grown_digit (name w) b = grown_word (λ v. name v) grown_name (ltb (length w.bytes) 64) w.bytes w.blanks b
grown_digit (variable w) b = grown_word (λ v. variable v) grown_name (ltb (length w.bytes) 64) w.bytes w.blanks b
grown_digit (brackets c s d) b = tt

grown_letter : (x : Leaf) (b : ℕ) → Grown x b (leaf_letter x b)
unfolding sum_pieces bytes
grown_letter (integer w) b = tt
grown_letter (name w) b = grown_word (λ v. name v) grown_name (ltb (length w.bytes) 64) w.bytes w.blanks b
grown_letter (variable w) b = grown_word (λ v. variable v) grown_name (ltb (length w.bytes) 64) w.bytes w.blanks b
grown_letter (brackets c s d) b = tt

abbrev Appended : List Piece → Part → ℕ → Option Part → Type 0
Appended w z b none = Unit {0}
Appended w z b (some y) = Grows b (part_on w z) (part_on w y)

grown_part : (w : List Piece) (st : Blanks) (o : List Open) (v : Level) (x : Leaf) (b : ℕ) (y : Option Leaf) → Grown x b y → Appended w (part st o v (some x)) b (with_leaf (part st o v (some x)) y)
grown_part w st o v x b none h = tt
grown_part w st o v x b (some y) h = grows_behind (level_on (opens_on (w ++ blank_pieces st) o) v) b (leaf_pieces x) (leaf_pieces y) h

-- ---- behind an operand

pub two_nils : (u : List Piece) → (u ++ []) ++ [] ≡ u
two_nils u = append-nil (u ++ []) ∙ append-nil u

closed_written : (w : List Piece) (st : Blanks) (o : List Open) (v : Level) (x : Leaf) → Appended w (part st o v (some x)) 41 (after_bracket (part st o v (some x)) x o)
unfolding opens_on sum_pieces
closed_written w st [] v x = tt
closed_written w st (b ∷ o) v x =
    let u = level_on (opens_on (w ++ blank_pieces st) o) b.before in
    let p = sum_pieces (sum_of v x) in
    one_more (sym (sign_written u 40 b.blanks (p ++ (byte 41 ∷ []))) ∙
    (sym (append_assoc (u ++ (byte 40 ∷ []) ++ blank_pieces b.blanks) p (byte 41 ∷ [])) ∙ ap (λ l. l ++ (byte 41 ∷ [])) (sym (level_written (u ++ (byte 40 ∷ []) ++ blank_pieces b.blanks) v x))))

as_written : (w : List Piece) (z : Part) (c : Class) (y : Option Part) → Appended w z (byte_in c) y → Written w z c y
as_written w z c none h = tt
as_written w z c (some y) h = h

standing_written : (w : List Piece) (st : Blanks) (o : List Open) (v : Level) (x : Leaf) (c : Class) → Written w (part st o v (some x)) c (standing_step (part st o v (some x)) x c)
unfolding minuses_on sum_pieces
standing_written w st o v x (blank b) = grown_part w st o v x (blank_byte b) (some (leaf_blank x b)) (one_more (leaf_blank_pieces x b))
standing_written w st o v x (digit b) = as_written w (part st o v (some x)) (digit b) (with_leaf (part st o v (some x)) (leaf_digit x b)) (grown_part w st o v x b (leaf_digit x b) (grown_digit x b))
standing_written w st o v x (lower b) = as_written w (part st o v (some x)) (lower b) (with_leaf (part st o v (some x)) (leaf_letter x b)) (grown_part w st o v x b (leaf_letter x b) (grown_letter x b))
standing_written w st o v x (capital b) = as_written w (part st o v (some x)) (capital b) (with_leaf (part st o v (some x)) (leaf_letter x b)) (grown_part w st o v x b (leaf_letter x b) (grown_letter x b))
standing_written w st o v x reader.plus =
    let u = opens_on (w ++ blank_pieces st) o in one_more (two_nils (u ++ sum_pieces (sum_of v x) ++ (byte 43 ∷ [])) ∙ ap (λ l. l ++ (byte 43 ∷ [])) (sym (level_written u v x)))
standing_written w st o v x reader.minus =
    let u = opens_on (w ++ blank_pieces st) o in one_more (two_nils (u ++ sum_pieces (sum_of v x) ++ (byte 45 ∷ [])) ∙ ap (λ l. l ++ (byte 45 ∷ [])) (sym (level_written u v x)))
standing_written w st o v x reader.times =
    let u = sum_on (opens_on (w ++ blank_pieces st) o) v.sum in
    one_more (two_nils (u ++ product_pieces (product_of v x) ++ (byte 42 ∷ [])) ∙
    ap (λ l. l ++ (byte 42 ∷ [])) (sym (minuses_written (product_on u v.product) v.minuses (leaf x) ∙ product_written u v.product (negated v.minuses (leaf x)))))
standing_written w st o v x reader.closing = as_written w (part st o v (some x)) reader.closing (after_bracket (part st o v (some x)) x o) (closed_written w st o v x)
standing_written w st o v x c = tt

-- a step of an expression appends its byte, or is dead
part_written_at : (w : List Piece) (st : Blanks) (o : List Open) (v : Level) (x : Option Leaf) (c : Class) → Written w (part st o v x) c (part_step (part st o v x) c)
part_written_at w st o v none c = awaited_written w st o v c
part_written_at w st o v (some x) c = standing_written w st o v x c

pub part_written : (w : List Piece) (z : Part) (c : Class) → Written w z c (part_step z c)
part_written w z c = part_written_at w z.start z.brackets z.level z.operand c
