-- What is held of an expression is good, and so is the expression.
use Rattle.std.specs.Prelude.{ℕ, ◌≡◌, List, [], ◌∷◌, ◌++◌}
use mathlib.Core.Logic.{inl, inr}
use native.Mathlib.Omega.{arith}
use Rattle.std.proofs.Math.Option.{Option, some, none}
use Rattle.grammar.specs.Bytes.{Blank, Blanks, LetterOrDigit}
use Rattle.grammar.specs.Grammar.{Piece, blank_pieces, Sum, Unary, minus, Leaf, integer, name, variable, brackets, Product, sum_pieces, GoodSum, GoodProduct, GoodUnary, GoodLeaf}
use Rattle.grammar.specs.Reader.{Class, blank, digit, capital, lower, part_step, and_then, leaf_blank, leaf_digit, leaf_letter, with_leaf, after_bracket, standing_step, awaited_step, SumLeft, ProductLeft, Level, level, empty_level, Open, open_of, Part, part, negated, product_of, sum_of, product_with, sum_with, blank_at, name_longer, longer, whole, whole_at}
use Rattle.grammar.specs.Reader as reader
use Rattle.grammar.proofs.SoundParts.{byte_in, part_on, part_written, level_written, opens_on, Written}
use Rattle.grammar.proofs.Grows.{Grows}
use Rattle.grammar.proofs.Kept.{Kept, kept_map, GoodClass, name_grows, variable_grows, digits_grow}

abbrev pub GoodSumLeft : Option SumLeft → Type 0
GoodSumLeft none = Unit {0}
GoodSumLeft (some s) = GoodSum s.left

abbrev pub GoodProductLeft : Option ProductLeft → Type 0
GoodProductLeft none = Unit {0}
GoodProductLeft (some p) = GoodProduct p.left

abbrev pub GoodLevel : Level → Type 0
GoodLevel l = GoodSumLeft l.sum × GoodProductLeft l.product

abbrev pub GoodOpens : List Open → Type 0
GoodOpens [] = Unit {0}
GoodOpens (o ∷ l) = GoodLevel o.before × GoodOpens l

abbrev pub GoodOperand : Option Leaf → Type 0
GoodOperand none = Unit {0}
GoodOperand (some x) = GoodLeaf x

abbrev pub GoodPart : Part → Type 0
GoodPart z = GoodOpens z.brackets × (GoodLevel z.level × GoodOperand z.operand)

-- ---- a level and its operand make a good sum

negated_good : (m : List Blanks) (u : Unary) → GoodUnary u → GoodUnary (negated m u)
negated_good [] u g = g
negated_good (b ∷ m) u g = negated_good m (minus b u) g

product_good : (p : Option ProductLeft) (u : Unary) → GoodProductLeft p → GoodUnary u → GoodProduct (product_with p u)
product_good none u h g = g
product_good (some p) u h g = (h, g)

sum_good : (s : Option SumLeft) (p : Product) → GoodSumLeft s → GoodProduct p → GoodSum (sum_with s p)
sum_good none p h g = g
sum_good (some s) p h g = (h, g)

product_of_good : (l : Level) (x : Leaf) → GoodLevel l → GoodLeaf x → GoodProduct (product_of l x)
product_of_good l x h g = product_good l.product _ h.1 (negated_good l.minuses _ g)

sum_of_good : (l : Level) (x : Leaf) → GoodLevel l → GoodLeaf x → GoodSum (sum_of l x)
sum_of_good l x h g = sum_good l.sum _ h.0 (product_of_good l x h g)

-- ---- steps

leaf_blank_good : (l : Leaf) (x : Blank) → GoodLeaf l → GoodLeaf (leaf_blank l x)
leaf_blank_good (integer w) x g = g
leaf_blank_good (name w) x g = g
leaf_blank_good (variable w) x g = g
leaf_blank_good (brackets b s c) x g = g

leaf_digit_good : (l : Leaf) (b : ℕ) → GoodClass (digit b) → GoodLeaf l → Kept GoodLeaf (leaf_digit l b)
leaf_digit_good (integer w) b p g = kept_map _ GoodLeaf (λ v. integer v) (λ v h. h.0) (longer w b) (digits_grow w b g p)
leaf_digit_good (name w) b p g = kept_map _ GoodLeaf (λ v. name v) (λ v h. h.0) (name_longer w b) (name_grows w b g (inr (inr p)))
leaf_digit_good (variable w) b p g = kept_map _ GoodLeaf (λ v. variable v) (λ v h. h.0) (name_longer w b) (variable_grows w b g (inr (inr p)))
leaf_digit_good (brackets c s d) b p g = tt

leaf_letter_good : (l : Leaf) (b : ℕ) → LetterOrDigit b → GoodLeaf l → Kept GoodLeaf (leaf_letter l b)
leaf_letter_good (integer w) b p g = tt
leaf_letter_good (name w) b p g = kept_map _ GoodLeaf (λ v. name v) (λ v h. h.0) (name_longer w b) (name_grows w b g p)
leaf_letter_good (variable w) b p g = kept_map _ GoodLeaf (λ v. variable v) (λ v h. h.0) (name_longer w b) (variable_grows w b g p)
leaf_letter_good (brackets c s d) b p g = tt

blank_good : (x : Blank) (st : Blanks) (o : List Open) (s : Option SumLeft) (p : Option ProductLeft) (m : List Blanks) → GoodOpens o → GoodLevel (level s p m) → GoodPart (blank_at x st o s p m)
blank_good x st o s p (b ∷ m) h g = (h, (g, tt))
blank_good x st o s (some p) [] h g = (h, (g, tt))
blank_good x st o (some s) none [] h g = (h, (g, tt))
blank_good x st (b ∷ o) none none [] h g = (h, (g, tt))
blank_good x st [] none none [] h g = (h, (g, tt))

operand_good : (st : Blanks) (o : List Open) (v : Level) (y : Option Leaf) → GoodOpens o → GoodLevel v → Kept GoodLeaf y → Kept GoodPart (and_then y (λ x. some (part st o v (some x))))
operand_good st o v y h g k = kept_map GoodLeaf GoodPart (λ x. part st o v (some x)) (λ x i. (h, (g, i))) y k

awaited_good : (st : Blanks) (o : List Open) (v : Level) (c : Class) → GoodClass c → GoodOpens o → GoodLevel v → Kept GoodPart (awaited_step (part st o v none) c)
awaited_good st o v (blank x) p h g = blank_good x st o v.sum v.product v.minuses h g
awaited_good st o v (digit b) p h g = (h, (g, (p, tt)))
awaited_good st o v (lower b) p h g = (h, (g, (p, (tt, omega arith))))
awaited_good st o v (capital b) p h g = (h, (g, (p, (tt, omega arith))))
awaited_good st o v reader.minus p h g = (h, (g, tt))
awaited_good st o v reader.opening p h g = ((g, h), ((tt, tt), tt))
awaited_good st o v c p h g = tt

bracket_good : (st : Blanks) (o : List Open) (v : Level) (x : Leaf) → GoodOpens o → GoodLevel v → GoodLeaf x → Kept GoodPart (after_bracket (part st o v (some x)) x o)
bracket_good st [] v x h g i = tt
bracket_good st (b ∷ o) v x h g i = (h.1, (h.0, sum_of_good v x g i))

standing_good : (st : Blanks) (o : List Open) (v : Level) (x : Leaf) (c : Class) → GoodClass c → GoodOpens o → GoodLevel v → GoodLeaf x → Kept GoodPart (standing_step (part st o v (some x)) x c)
standing_good st o v x (blank b) p h g i = (h, (g, leaf_blank_good x b i))
standing_good st o v x (digit b) p h g i = operand_good st o v (leaf_digit x b) h g (leaf_digit_good x b p i)
standing_good st o v x (lower b) p h g i = operand_good st o v (leaf_letter x b) h g (leaf_letter_good x b (inl p) i)
standing_good st o v x (capital b) p h g i = operand_good st o v (leaf_letter x b) h g (leaf_letter_good x b (inr (inl p)) i)
standing_good st o v x reader.plus p h g i = (h, ((sum_of_good v x g i, tt), tt))
standing_good st o v x reader.minus p h g i = (h, ((sum_of_good v x g i, tt), tt))
standing_good st o v x reader.times p h g i = (h, ((g.0, product_of_good v x g i), tt))
standing_good st o v x reader.closing p h g i = bracket_good st o v x h g i
standing_good st o v x c p h g i = tt

part_good_at : (st : Blanks) (o : List Open) (v : Level) (x : Option Leaf) (c : Class) → GoodClass c → GoodOpens o → GoodLevel v → GoodOperand x → Kept GoodPart (part_step (part st o v x) c)
part_good_at st o v none c p h g i = awaited_good st o v c p h g
part_good_at st o v (some x) c p h g i = standing_good st o v x c p h g i

-- a live step of an expression: good, and one byte more
abbrev pub PartGoes : List Piece → Part → Class → Part → Type 0
PartGoes w z c y = GoodPart y × Grows (byte_in c) (part_on w z) (part_on w y)

both_kept : (w : List Piece) (z : Part) (c : Class) (o : Option Part) → Kept GoodPart o → Written w z c o → Kept (PartGoes w z c) o
both_kept w z c none g e = tt
both_kept w z c (some y) g e = (g, e)

pub part_goes : (w : List Piece) (z : Part) (c : Class) → GoodClass c → GoodPart z → Kept (PartGoes w z c) (part_step z c)
part_goes w z c p g = both_kept w z c (part_step z c) (part_good_at z.start z.brackets z.level z.operand c p g.0 g.1.0 g.1.1) (part_written w z c)

-- ---- the whole expression

abbrev pub IsWhole : List Piece → Part → Sum → Type 0
IsWhole w z s = GoodSum s × (part_on w z ≡ (w ++ blank_pieces z.start) ++ sum_pieces s)

whole_is_at : (w : List Piece) (st : Blanks) (o : List Open) (v : Level) (x : Option Leaf) → GoodLevel v → GoodOperand x → Kept (IsWhole w (part st o v x)) (whole_at v o x)
unfolding opens_on
whole_is_at w st [] v (some x) g i = (sum_of_good v x g i, level_written (w ++ blank_pieces st) v x)
whole_is_at w st [] v none g i = tt
whole_is_at w st (b ∷ o) v x g i = tt

pub whole_is : (w : List Piece) (z : Part) → GoodPart z → Kept (IsWhole w z) (whole z)
whole_is w z g = whole_is_at w z.start z.brackets z.level z.operand g.1.0 g.1.1
