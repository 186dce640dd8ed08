-- Each live step of an item of a body appends its byte to what is held, which stays good.
use Rattle.std.specs.Prelude.{ℕ, true, cond, ◌≡◌, refl, List, [], ◌∷◌, ◌++◌}
use mathlib.Core.Path.{sym, ap, ◌∙◌}
use mathlib.Core.Logic.{inl, inr}
use native.Mathlib.Omega.{arith}
use Rattle.std.proofs.Math.Option.{Option, some, none}
use Rattle.std.proofs.lemmas.List.{append_assoc, append-nil}
use Rattle.integers.proofs.Tests.{by_cond}
use Rattle.rules.specs.declared.Relation.{Relation}
use Rattle.rules.specs.declared.Relation.TheVariants.{Lt, Gt, Eq}
use Rattle.grammar.specs.Bytes.{Blanks, blank_byte, LetterOrDigit}
use Rattle.grammar.specs.Grammar.{Word, Next, next, Atom, Sum, Leaf, Item, Piece, byte, pieces, relation_bytes, blank_pieces, bytes, word_pieces, sum_pieces, atom_pieces, item_pieces, IsName, IsVariable, GoodNext, GoodAtom, GoodSum, GoodItem}
use Rattle.grammar.specs.Grammar as tree
use Rattle.grammar.specs.Reader.{Class, blank, digit, capital, lower, opening, comma, closing, less, greater, equals, bang, and_then, name_longer, SumLeft, ProductLeft, level, Open, Part, part, begun, part_step, whole, ItemPart, left, not_yet, right, variable_awaited, variable_standing, atom_read, against, atom_at, left_step, or_equal, nothing_read, right_step, variable_step, item_step, item_of}
use Rattle.grammar.proofs.SoundParts.{byte_in, blank_end, two_nils, part_on, opens_on, minuses_on}
use Rattle.grammar.proofs.Kept.{Kept, kept_map, GoodClass, Longer, variable_grows, end_more}
use Rattle.grammar.proofs.Grows.{Grows, one_more}
use Rattle.grammar.proofs.Behind.{items_on, item_more, opened_on, atom_written, atom_blank_written, next_more, atom_good}
use Rattle.grammar.proofs.GoodParts.{GoodPart, PartGoes, part_goes, IsWhole, whole_is}

-- ---- what is held, behind what stands before it

abbrev pub side_on : List Piece → Blanks → Sum → List Piece
side_on w b s = (w ++ blank_pieces b) ++ sum_pieces s

abbrev pub variables_on : List Piece → Blanks → Word → List (Next Word) → Blanks → List Piece
variables_on w b p l s = items_on word_pieces (opened_on (w ++ blank_pieces b) p) l ++ blank_pieces s

abbrev pub item_on : List Piece → ItemPart → List Piece
item_on w (left z) = part_on w z
item_on w (not_yet b s) = side_on w b s ++ (byte 33 ∷ [])
item_on w (right b s r z) = part_on (side_on w b s ++ pieces (relation_bytes r)) z
item_on w (variable_awaited b p l s) = variables_on w b p l s
item_on w (variable_standing b p l s v) = variables_on w b p l s ++ word_pieces v
item_on w (atom_read b a) = (w ++ blank_pieces b) ++ atom_pieces word_pieces a

abbrev pub GoodVariable : Word → Type 0
GoodVariable w = IsVariable w.bytes

abbrev pub GoodItemPart : ItemPart → Type 0
GoodItemPart (left z) = GoodPart z
GoodItemPart (not_yet b s) = GoodSum s
GoodItemPart (right b s r z) = GoodSum s × GoodPart z
GoodItemPart (variable_awaited b p l s) = IsName p.bytes × GoodNext GoodVariable l
GoodItemPart (variable_standing b p l s v) = IsName p.bytes × (GoodNext GoodVariable l × GoodVariable v)
GoodItemPart (atom_read b a) = GoodAtom GoodVariable a

abbrev pub ItemGoes : List Piece → ItemPart → ℕ → ItemPart → Type 0
ItemGoes w i b j = GoodItemPart j × Grows b (item_on w i) (item_on w j)

-- an expression of which nothing is read yet
pub begun_on : (w : List Piece) → part_on w begun ≡ w
unfolding opens_on minuses_on
begun_on w = two_nils w

pub begun_good : GoodPart begun
begun_good = (tt, ((tt, tt), tt))

-- ---- the left side

against_goes : (w : List Piece) (z : Part) (r : Relation) (b : ℕ) → GoodPart z → pieces (relation_bytes r) ≡ byte b ∷ [] → Kept (ItemGoes w (left z) b) (against z r)
against_goes w z r b g e =
    kept_map (IsWhole w z) (ItemGoes w (left z) b) (λ s. right z.start s r begun)
    (λ s h. ((h.0, begun_good), one_more (begun_on (side_on w z.start s ++ pieces (relation_bytes r)) ∙ (ap (λ k. side_on w z.start s ++ k) e ∙ ap (λ k. k ++ (byte b ∷ [])) (sym h.1))))) (whole z) (whole_is w z g)

part_in_left : (w : List Piece) (z : Part) (c : Class) → GoodClass c → GoodPart z → Kept (ItemGoes w (left z) (byte_in c)) (and_then (part_step z c) (λ y. some (left y)))
part_in_left w z c q g = kept_map (PartGoes w z c) (ItemGoes w (left z) (byte_in c)) (λ y. left y) (λ y h. h) (part_step z c) (part_goes w z c q g)

opening_goes : (w : List Piece) (st : Blanks) (o : List Open) (s : Option SumLeft) (p : Option ProductLeft) (m : List Blanks) (x : Option Leaf) → GoodPart (part st o (level s p m) x) →
    Kept (ItemGoes w (left (part st o (level s p m) x)) 40) (atom_at (part st o (level s p m) x) o s p m x)
unfolding opens_on minuses_on items_on sum_pieces
opening_goes w st [] none none [] (some (tree.name v)) g = ((g.1.1, tt), one_more (append-nil (opened_on (w ++ blank_pieces st) v)))
opening_goes w st o s p m x g = part_in_left w (part st o (level s p m) x) opening tt g

left_goes : (w : List Piece) (z : Part) (c : Class) → GoodClass c → GoodPart z → Kept (ItemGoes w (left z) (byte_in c)) (left_step z c)
left_goes w z less q g = against_goes w z Lt 60 g refl
left_goes w z greater q g = against_goes w z Gt 62 g refl
left_goes w z equals q g = against_goes w z Eq 61 g refl
left_goes w z bang q g = kept_map (IsWhole w z) (ItemGoes w (left z) 33) (λ s. not_yet z.start s) (λ s h. (h.0, one_more (ap (λ k. k ++ (byte 33 ∷ [])) (sym h.1)))) (whole z) (whole_is w z g)
left_goes w z opening q g = opening_goes w z.start z.brackets z.level.sum z.level.product z.level.minuses z.operand g
left_goes w z c q g = part_in_left w z c q g

-- ---- the right side

nothing_is : (u : List Piece) (st : Blanks) (o : List Open) (s : Option SumLeft) (p : Option ProductLeft) (m : List Blanks) (x : Option Leaf) → nothing_read st o s p m x ≡ true → part_on u (part st o (level s p m) x) ≡ u
nothing_is u [] [] none none [] none e = begun_on u
nothing_is u st o s p m x e = cc

longer_relation : (w : List Piece) (b : Blanks) (s : Sum) (r : Relation) (z : Part) → GoodSum s → part_on (side_on w b s ++ pieces (relation_bytes r)) z ≡ side_on w b s ++ pieces (relation_bytes r) →
    Kept (ItemGoes w (right b s r z) 61) (and_then (or_equal r) (λ q. some (right b s q begun)))
longer_relation w b s Lt z g e = ((g, begun_good), one_more (begun_on (side_on w b s ++ (byte 60 ∷ byte 61 ∷ [])) ∙ (sym (append_assoc (side_on w b s) (byte 60 ∷ []) (byte 61 ∷ [])) ∙ ap (λ k. k ++ (byte 61 ∷ [])) (sym e))))
longer_relation w b s Gt z g e = ((g, begun_good), one_more (begun_on (side_on w b s ++ (byte 62 ∷ byte 61 ∷ [])) ∙ (sym (append_assoc (side_on w b s) (byte 62 ∷ []) (byte 61 ∷ [])) ∙ ap (λ k. k ++ (byte 61 ∷ [])) (sym e))))
longer_relation w b s r z g e = tt

equals_goes : (w : List Piece) (b : Blanks) (t : Sum) (r : Relation) (st : Blanks) (o : List Open) (s : Option SumLeft) (p : Option ProductLeft) (m : List Blanks) (x : Option Leaf) → GoodSum t →
    Kept (ItemGoes w (right b t r (part st o (level s p m) x)) 61) (cond (nothing_read st o s p m x) (and_then (or_equal r) (λ q. some (right b t q begun))) none)
equals_goes w b t r st o s p m x g =
    by_cond (Kept (ItemGoes w (right b t r (part st o (level s p m) x)) 61)) (nothing_read st o s p m x)
    (λ e. longer_relation w b t r (part st o (level s p m) x) g (nothing_is (side_on w b t ++ pieces (relation_bytes r)) st o s p m x e)) (λ n. tt)

right_goes : (w : List Piece) (b : Blanks) (s : Sum) (r : Relation) (z : Part) (c : Class) → GoodClass c → GoodSum s → GoodPart z → Kept (ItemGoes w (right b s r z) (byte_in c)) (right_step b s r z c)
right_goes w b s r z equals q i g = equals_goes w b s r z.start z.brackets z.level.sum z.level.product z.level.minuses z.operand i
right_goes w b s r z c q i g =
    kept_map (PartGoes (side_on w b s ++ pieces (relation_bytes r)) z c) (ItemGoes w (right b s r z) (byte_in c)) (λ y. right b s r y) (λ y h. ((i, h.0), h.1)) (part_step z c) (part_goes (side_on w b s ++ pieces (relation_bytes r)) z c q g)

-- ---- an atom over variables

variable_longer : (w : List Piece) (b : Blanks) (p : Word) (l : List (Next Word)) (s : Blanks) (v : Word) (d : ℕ) → LetterOrDigit d → GoodItemPart (variable_standing b p l s v) →
    Kept (ItemGoes w (variable_standing b p l s v) d) (and_then (name_longer v d) (λ u. some (variable_standing b p l s u)))
variable_longer w b p l s v d q g =
    kept_map (Longer IsVariable v d) (ItemGoes w (variable_standing b p l s v) d) (λ u. variable_standing b p l s u) (λ u h. ((g.0, (g.1.0, h.0)), one_more (end_more _ _ (variables_on w b p l s) d h.1))) (name_longer v d) (variable_grows v d g.1.1 q)

variable_goes : (w : List Piece) (b : Blanks) (p : Word) (l : List (Next Word)) (s : Blanks) (v : Word) (c : Class) → GoodClass c → GoodItemPart (variable_standing b p l s v) →
    Kept (ItemGoes w (variable_standing b p l s v) (byte_in c)) (variable_step b p l s v c)
variable_goes w b p l s v (blank x) q g = (g, one_more (end_more _ _ (variables_on w b p l s) (blank_byte x) (blank_end (pieces v.bytes) v.blanks x)))
variable_goes w b p l s v (digit d) q g = variable_longer w b p l s v d (inr (inr q)) g
variable_goes w b p l s v (lower d) q g = variable_longer w b p l s v d (inl q) g
variable_goes w b p l s v (capital d) q g = variable_longer w b p l s v d (inr (inl q)) g
variable_goes w b p l s v comma q g =
    ((g.0, next_more GoodVariable l (next s v) g.1.0 g.1.1), one_more (append-nil (items_on word_pieces (opened_on (w ++ blank_pieces b) p) (l ++ (next s v ∷ []))) ∙ item_more word_pieces (opened_on (w ++ blank_pieces b) p) l (next s v)))
variable_goes w b p l s v closing q g = (atom_good GoodVariable p l (next s v) g.0 g.1.0 g.1.1, one_more (atom_written word_pieces (w ++ blank_pieces b) p l (next s v)))
variable_goes w b p l s v c q g = tt

-- ---- an item

pub item_goes : (w : List Piece) (i : ItemPart) (c : Class) → GoodClass c → GoodItemPart i → Kept (ItemGoes w i (byte_in c)) (item_step i c)
item_goes w (left z) c q g = left_goes w z c q g
item_goes w (not_yet b s) equals q g = ((g, begun_good), one_more (begun_on (side_on w b s ++ (byte 33 ∷ byte 61 ∷ [])) ∙ sym (append_assoc (side_on w b s) (byte 33 ∷ []) (byte 61 ∷ []))))
item_goes w (not_yet b s) c q g = tt
item_goes w (right b s r z) c q g = right_goes w b s r z c q g.0 g.1
item_goes w (variable_awaited b p l s) (blank x) q g = (g, one_more (blank_end (items_on word_pieces (opened_on (w ++ blank_pieces b) p) l) s x))
item_goes w (variable_awaited b p l s) (capital d) q g = ((g.0, (g.1, (q, (tt, omega arith)))), one_more refl)
item_goes w (variable_awaited b p l s) c q g = tt
item_goes w (variable_standing b p l s v) c q g = variable_goes w b p l s v c q g
item_goes w (atom_read b a) (blank x) q g = (g, one_more (end_more _ _ (w ++ blank_pieces b) (blank_byte x) (atom_blank_written word_pieces a x)))
item_goes w (atom_read b a) c q g = tt

comparison_written : (w : List Piece) (s : Sum) (r : Relation) (k : Blanks) (t : Sum) → (((w ++ sum_pieces s) ++ pieces (relation_bytes r)) ++ blank_pieces k) ++ sum_pieces t ≡ w ++ item_pieces (tree.comparison s r k t)
comparison_written w s r k t =
    append_assoc ((w ++ sum_pieces s) ++ pieces (relation_bytes r)) (blank_pieces k) (sum_pieces t) ∙ (append_assoc (w ++ sum_pieces s) (pieces (relation_bytes r)) (blank_pieces k ++ sum_pieces t) ∙
    append_assoc w (sum_pieces s) (pieces (relation_bytes r) ++ (blank_pieces k ++ sum_pieces t)))

abbrev pub IsItem : List Piece → ItemPart → Next Item → Type 0
IsItem w i n = GoodItem n.item × (item_on w i ≡ (w ++ blank_pieces n.blanks) ++ item_pieces n.item)

pub item_is : (w : List Piece) (i : ItemPart) → GoodItemPart i → Kept (IsItem w i) (item_of i)
item_is w (right b s r z) g =
    kept_map (IsWhole (side_on w b s ++ pieces (relation_bytes r)) z) (IsItem w (right b s r z)) (λ t. next b (tree.comparison s r z.start t))
    (λ t h. ((g.0, h.0), h.1 ∙ comparison_written (w ++ blank_pieces b) s r z.start t)) (whole z) (whole_is (side_on w b s ++ pieces (relation_bytes r)) z g.1)
item_is w (atom_read b a) g = (g, refl)
item_is w i g = tt
