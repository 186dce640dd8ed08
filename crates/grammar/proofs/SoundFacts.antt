-- Each live step of a fact appends its byte to what is held, which stays good.
use Rattle.std.specs.Prelude.{ℕ, true, false, ◌≡◌, refl, List, [], ◌∷◌, ◌++◌}
use mathlib.Core.Path.{sym, ap, ◌∙◌}
use mathlib.Core.Logic.{inl, inr}
use native.Mathlib.Omega.{arith}
use Rattle.std.proofs.Math.Option.{some}
use Rattle.std.proofs.lemmas.List.{append_assoc, append-nil}
use Rattle.grammar.specs.Bytes.{Blank, Blanks, blank_byte, LetterOrDigit}
use Rattle.grammar.specs.Grammar.{Word, Next, next, Atom, Integer, plain, negative, Value, Piece, literal, byte, sign, blank_pieces, bytes, word_pieces, literal_pieces, integer_pieces, value_pieces, atom_pieces, sentence_pieces, IsDigits, IsName, GoodNext, GoodAtom, GoodInteger, GoodValue, GoodSentence}
use Rattle.grammar.specs.Grammar as tree
use Rattle.grammar.specs.Reader.{Class, blank, digit, capital, lower, opening, comma, closing, stop, minus, and_then, longer, name_longer, integer_blank, integer_digit, ValuePart, awaited, signed, number, named, one_dot, two_dots, second_signed, second, value_of, value_step, FactState, predicate, argument, closed, ended, fact_step, fact_argument, atom_with}
use Rattle.grammar.proofs.SoundParts.{byte_in, blank_end, nil_blank, two_nils}
use Rattle.grammar.proofs.Kept.{end_more, Kept, kept_map, GoodClass, Longer, LongerDigits, name_grows, digits_grow}
use Rattle.grammar.proofs.Grows.{Grows, one_more, begins, grows_behind}
use Rattle.grammar.proofs.Behind.{items_on, item_more, opened_on, atom_written, atom_blank_written, next_more, atom_good}

-- ---- what is held

abbrev pub range_on : Integer → Blanks → List Piece
range_on z l = integer_pieces z ++ (byte 46 ∷ byte 46 ∷ []) ++ blank_pieces l

abbrev pub value_part_pieces : ValuePart → List Piece
value_part_pieces awaited = []
value_part_pieces (signed l) = (byte 45 ∷ []) ++ blank_pieces l
value_part_pieces (number z) = integer_pieces z
value_part_pieces (named w) = word_pieces w
value_part_pieces (one_dot z) = integer_pieces z ++ (byte 46 ∷ [])
value_part_pieces (two_dots z l) = range_on z l
value_part_pieces (second_signed z l m) = range_on z l ++ (byte 45 ∷ []) ++ blank_pieces m
value_part_pieces (second z l y) = range_on z l ++ integer_pieces y

abbrev pub GoodValuePart : ValuePart → Type 0
GoodValuePart awaited = Unit {0}
GoodValuePart (signed l) = Unit {0}
GoodValuePart (number z) = GoodInteger z
GoodValuePart (named w) = IsName w.bytes
GoodValuePart (one_dot z) = GoodInteger z
GoodValuePart (two_dots z l) = GoodInteger z
GoodValuePart (second_signed z l m) = GoodInteger z
GoodValuePart (second z l y) = GoodInteger z × GoodInteger y

abbrev pub arguments_on : Word → List (Next Value) → Blanks → List Piece
arguments_on p l s = items_on value_pieces (opened_on [] p) l ++ blank_pieces s

abbrev pub fact_on : FactState → List Piece
fact_on (predicate w) = word_pieces w
fact_on (argument p l s v) = arguments_on p l s ++ value_part_pieces v
fact_on (closed a) = atom_pieces value_pieces a
fact_on (ended s) = sentence_pieces s

abbrev pub GoodFact : FactState → Type 0
GoodFact (predicate w) = IsName w.bytes
GoodFact (argument p l s v) = IsName p.bytes × (GoodNext GoodValue l × GoodValuePart v)
GoodFact (closed a) = GoodAtom GoodValue a
GoodFact (ended s) = GoodSentence s

-- ---- integers

negative_digits : (l : Blanks) (w : Word) (b : ℕ) (v : Word) → LongerDigits w b v → Grows b (integer_pieces (negative l w)) (integer_pieces (negative l v))
negative_digits l w b v h = grows_behind (sign 45 l) b (literal_pieces true w) (literal_pieces true v) (h.1 true)

integer_blank_written : (z : Integer) (x : Blank) → integer_pieces (integer_blank z x) ≡ integer_pieces z ++ (byte (blank_byte x) ∷ [])
integer_blank_written (plain w) x = blank_end (literal false w.bytes ∷ []) w.blanks x
integer_blank_written (negative l w) x = end_more _ _ (sign 45 l) (blank_byte x) (blank_end (literal true w.bytes ∷ []) w.blanks x)

integer_blank_good : (z : Integer) (x : Blank) → GoodInteger z → GoodInteger (integer_blank z x)
integer_blank_good (plain w) x g = g
integer_blank_good (negative l w) x g = g

abbrev IntegerGoes : Integer → ℕ → Integer → Type 0
IntegerGoes z b y = GoodInteger y × Grows b (integer_pieces z) (integer_pieces y)

integer_digit_goes : (z : Integer) (b : ℕ) → GoodClass (digit b) → GoodInteger z → Kept (IntegerGoes z b) (integer_digit z b)
integer_digit_goes (plain w) b p g = kept_map (LongerDigits w b) (IntegerGoes (plain w) b) (λ v. plain v) (λ v h. (h.0, h.1 false)) (longer w b) (digits_grow w b g p)
integer_digit_goes (negative l w) b p g = kept_map (LongerDigits w b) (IntegerGoes (negative l w) b) (λ v. negative l v) (λ v h. (h.0, negative_digits l w b v h)) (longer w b) (digits_grow w b g p)

-- ---- an argument

abbrev ValueGoes : ValuePart → ℕ → ValuePart → Type 0
ValueGoes v b y = GoodValuePart y × Grows b (value_part_pieces v) (value_part_pieces y)

named_goes : (w : Word) (b : ℕ) → LetterOrDigit b → IsName w.bytes → Kept (ValueGoes (named w) b) (and_then (name_longer w b) (λ v. some (named v)))
named_goes w b p g = kept_map (Longer IsName w b) (ValueGoes (named w) b) (λ v. named v) (λ v h. (h.0, one_more h.1)) (name_longer w b) (name_grows w b g p)

value_goes : (v : ValuePart) (c : Class) → GoodClass c → GoodValuePart v → Kept (ValueGoes v (byte_in c)) (value_step v c)
value_goes awaited (digit b) p g = ((p, tt), begins false refl)
value_goes awaited (lower b) p g = ((p, (tt, omega arith)), one_more refl)
value_goes awaited minus p g = (tt, one_more refl)
value_goes (signed l) (blank x) p g = (tt, one_more (blank_end (byte 45 ∷ []) l x))
value_goes (signed l) (digit b) p g = ((p, tt), begins true refl)
value_goes (number z) (blank x) p g = (integer_blank_good z x g, one_more (integer_blank_written z x))
value_goes (number z) (digit b) p g = kept_map (IntegerGoes z b) (ValueGoes (number z) b) (λ y. number y) (λ y h. h) (integer_digit z b) (integer_digit_goes z b p g)
value_goes (number z) stop p g = (g, one_more refl)
value_goes (named w) (blank x) p g = (g, one_more (blank_end (tree.pieces w.bytes) w.blanks x))
value_goes (named w) (digit b) p g = named_goes w b (inr (inr p)) g
value_goes (named w) (lower b) p g = named_goes w b (inl p) g
value_goes (named w) (capital b) p g = named_goes w b (inr (inl p)) g
value_goes (one_dot z) stop p g = (g, one_more (append-nil (integer_pieces z ++ (byte 46 ∷ byte 46 ∷ [])) ∙ sym (append_assoc (integer_pieces z) (byte 46 ∷ []) (byte 46 ∷ []))))
value_goes (two_dots z l) (blank x) p g = (g, one_more (blank_end (integer_pieces z ++ (byte 46 ∷ byte 46 ∷ [])) l x))
value_goes (two_dots z l) (digit b) p g = ((g, (p, tt)), begins false refl)
value_goes (two_dots z l) minus p g = (g, one_more (append-nil (range_on z l ++ (byte 45 ∷ []))))
value_goes (second_signed z l m) (blank x) p g = (g, one_more (blank_end (range_on z l ++ (byte 45 ∷ [])) m x))
value_goes (second_signed z l m) (digit b) p g =
    ((g, (p, tt)), begins true (sym (append_assoc (range_on z l) (byte 45 ∷ blank_pieces m) (literal true (b ∷ []) ∷ [])) ∙ ap (λ k. k ++ (literal true (b ∷ []) ∷ [])) (sym (append_assoc (range_on z l) (byte 45 ∷ []) (blank_pieces m)))))
value_goes (second z l y) (blank x) p g = ((g.0, integer_blank_good y x g.1), one_more (end_more _ _ (range_on z l) (blank_byte x) (integer_blank_written y x)))
value_goes (second z l y) (digit b) p g =
    kept_map (IntegerGoes y b) (ValueGoes (second z l y) b) (λ v. second z l v) (λ v h. ((g.0, h.0), grows_behind (range_on z l) b (integer_pieces y) (integer_pieces v) h.1)) (integer_digit y b) (integer_digit_goes y b p g.1)
value_goes v c p g = tt

pub range_written : (z : Integer) (l : Blanks) (y : Integer) → range_on z l ++ integer_pieces y ≡ value_pieces (tree.range z l y)
range_written z l y = append_assoc (integer_pieces z ++ (byte 46 ∷ byte 46 ∷ [])) (blank_pieces l) (integer_pieces y) ∙ append_assoc (integer_pieces z) (byte 46 ∷ byte 46 ∷ []) (blank_pieces l ++ integer_pieces y)

value_of_is : (v : ValuePart) → GoodValuePart v → Kept (λ a. GoodValue a × (value_part_pieces v ≡ value_pieces a)) (value_of v)
value_of_is (number z) g = (g, refl)
value_of_is (named w) g = (g, refl)
value_of_is (second z l y) g = (g, range_written z l y)
value_of_is v g = tt

-- ---- a fact

abbrev pub FactGoesOn : FactState → ℕ → FactState → Type 0
FactGoesOn z b y = GoodFact y × Grows b (fact_on z) (fact_on y)

comma_goes : (p : Word) (l : List (Next Value)) (s : Blanks) (v : ValuePart) → GoodFact (argument p l s v) → (a : Value) → GoodValue a × (value_part_pieces v ≡ value_pieces a) →
    FactGoesOn (argument p l s v) 44 (argument p (l ++ (next s a ∷ [])) [] awaited)
comma_goes p l s v g a h = (
  (g.0, (next_more GoodValue l (next s a) g.1.0 h.0, tt)),
  one_more (two_nils (items_on value_pieces (opened_on [] p) (l ++ (next s a ∷ []))) ∙ (item_more value_pieces (opened_on [] p) l (next s a) ∙ ap (λ k. arguments_on p l s ++ k ++ (byte 44 ∷ [])) (sym h.1))),
)

closing_goes : (p : Word) (l : List (Next Value)) (s : Blanks) (v : ValuePart) → GoodFact (argument p l s v) → (a : Value) → GoodValue a × (value_part_pieces v ≡ value_pieces a) →
    FactGoesOn (argument p l s v) 41 (closed (atom_with p l (next s a)))
closing_goes p l s v g a h = (atom_good GoodValue p l (next s a) g.0 g.1.0 h.0, one_more (atom_written value_pieces [] p l (next s a) ∙ ap (λ k. arguments_on p l s ++ k ++ (byte 41 ∷ [])) (sym h.1)))

value_in : (p : Word) (l : List (Next Value)) (s : Blanks) (v : ValuePart) (c : Class) → GoodClass c → GoodFact (argument p l s v) →
    Kept (FactGoesOn (argument p l s v) (byte_in c)) (and_then (value_step v c) (λ w. some (argument p l s w)))
value_in p l s v c q g =
    kept_map (ValueGoes v (byte_in c)) (FactGoesOn (argument p l s v) (byte_in c)) (λ w. argument p l s w) (λ w h. ((g.0, (g.1.0, h.0)), grows_behind (arguments_on p l s) (byte_in c) (value_part_pieces v) (value_part_pieces w) h.1)) (value_step v c) (value_goes v c q g.1.1)

argument_goes : (p : Word) (l : List (Next Value)) (s : Blanks) (v : ValuePart) (c : Class) → GoodClass c → GoodFact (argument p l s v) → Kept (FactGoesOn (argument p l s v) (byte_in c)) (fact_argument p l s v c)
argument_goes p l s awaited (blank x) q g = (g, one_more (nil_blank (items_on value_pieces (opened_on [] p) l) s x))
argument_goes p l s v comma q g = kept_map _ (FactGoesOn (argument p l s v) 44) (λ a. argument p (l ++ (next s a ∷ [])) [] awaited) (comma_goes p l s v g) (value_of v) (value_of_is v g.1.1)
argument_goes p l s v closing q g = kept_map _ (FactGoesOn (argument p l s v) 41) (λ a. closed (atom_with p l (next s a))) (closing_goes p l s v g) (value_of v) (value_of_is v g.1.1)
argument_goes p l s v c q g = value_in p l s v c q g

predicate_goes : (w : Word) (b : ℕ) → LetterOrDigit b → IsName w.bytes → Kept (FactGoesOn (predicate w) b) (and_then (name_longer w b) (λ v. some (predicate v)))
predicate_goes w b p g = kept_map (Longer IsName w b) (FactGoesOn (predicate w) b) (λ v. predicate v) (λ v h. (h.0, one_more h.1)) (name_longer w b) (name_grows w b g p)

pub fact_goes_on : (z : FactState) (c : Class) → GoodClass c → GoodFact z → Kept (FactGoesOn z (byte_in c)) (fact_step z c)
unfolding items_on
fact_goes_on (predicate w) (blank x) p g = (g, one_more (blank_end (tree.pieces w.bytes) w.blanks x))
fact_goes_on (predicate w) (digit b) p g = predicate_goes w b (inr (inr p)) g
fact_goes_on (predicate w) (lower b) p g = predicate_goes w b (inl p) g
fact_goes_on (predicate w) (capital b) p g = predicate_goes w b (inr (inl p)) g
fact_goes_on (predicate w) opening p g = ((g, (tt, tt)), one_more (two_nils (word_pieces w ++ (byte 40 ∷ []))))
fact_goes_on (predicate w) c p g = tt
fact_goes_on (argument p l s v) c q g = argument_goes p l s v c q g
fact_goes_on (closed a) (blank x) p g = (g, one_more (atom_blank_written value_pieces a x))
fact_goes_on (closed a) stop p g = (g, one_more refl)
fact_goes_on (closed a) c p g = tt
fact_goes_on (ended s) c p g = tt
