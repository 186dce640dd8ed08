-- As long as a sentence may still become either, what its rule holds is what its fact holds, but for the minuses of literals.
use Rattle.std.specs.Prelude.{ℕ, true, false, ◌≡◌, refl, List, [], ◌∷◌, ◌++◌}
use mathlib.Core.Path.{sym, ap, ◌∙◌}
use Rattle.std.proofs.Math.Option.{Option, some, none}
use Rattle.std.proofs.lemmas.List.{append_assoc, append-nil}
use Rattle.grammar.specs.Bytes.{Blanks, blank_bytes, blank_byte}
use Rattle.grammar.specs.Grammar.{Word, Next, next, Atom, Value, Sum, Piece, byte, literal, blank_pieces, word_pieces, value_pieces, sum_pieces, atom_pieces}
use Rattle.grammar.specs.Grammar as tree
use Rattle.grammar.specs.Reader.{Class, blank, digit, capital, lower, opening, comma, closing, minus, and_then, longer, name_longer, Part, part, level, empty_level, ValuePart, awaited, signed, number, named, one_dot, two_dots, second_signed, second, FactState, RuleState, fact_step, rule_step, fact_argument, rule_argument, atom_with}
use Rattle.grammar.specs.Reader as reader
use Rattle.grammar.proofs.SoundParts.{part_on, minuses_on, opens_on}
use Rattle.grammar.proofs.SoundFacts.{value_part_pieces, fact_on}
use Rattle.grammar.proofs.SoundRules.{rule_on}
use Rattle.grammar.proofs.Behind.{items_on, item_more, opened_on, atom_written, atom_blank_written}
use Rattle.grammar.proofs.Bare.{bare, bare_append, bare_bytes}

-- ---- a fact's argument as a rule's: no range

abbrev pub NoRange : ValuePart → Type 0
NoRange awaited = Unit {0}
NoRange (signed l) = Unit {0}
NoRange (number z) = Unit {0}
NoRange (named w) = Unit {0}
NoRange v = ⊥

abbrev pub as_part : Blanks → ValuePart → Part
as_part s awaited = part s [] empty_level none
as_part s (signed l) = part s [] (level none none (l ∷ [])) none
as_part s (number (tree.plain w)) = part s [] empty_level (some (tree.integer w))
as_part s (number (tree.negative l w)) = part s [] (level none none (l ∷ [])) (some (tree.integer w))
as_part s (named w) = part s [] empty_level (some (tree.name w))
as_part s v = part s [] empty_level none

-- the arguments before are written the same, but for minuses
abbrev pub SameItems : Word → List (Next Value) → List (Next Sum) → Type 0
SameItems p l m = bare (items_on value_pieces (opened_on [] p) l) ≡ items_on sum_pieces (opened_on [] p) m

pub data Alike : FactState → RuleState → Type 0 where
  names : (w : Word) → Alike (reader.predicate w) (reader.predicate w)
  arguments : (p : Word) (l : List (Next Value)) (s : Blanks) (v : ValuePart) (m : List (Next Sum)) → NoRange v → SameItems p l m → Alike (reader.argument p l s v) (reader.argument p m (as_part s v))
  atoms : (a : Atom Value) (c : Atom Sum) → bare (atom_pieces value_pieces a) ≡ atom_pieces sum_pieces c → Alike (reader.closed a) (reader.closed c)

-- if both are alive
abbrev pub AlikeBoth : Option FactState → Option RuleState → Type 0
AlikeBoth none r = Unit {0}
AlikeBoth (some g) none = Unit {0}
AlikeBoth (some g) (some r) = Alike g r

-- ---- what is written

bare_blanks : (b : Blanks) → bare (blank_pieces b) ≡ blank_pieces b
bare_blanks b = bare_bytes (blank_bytes b)

bare_word : (w : Word) → bare (word_pieces w) ≡ word_pieces w
bare_word w = bare_append (tree.pieces w.bytes) (blank_pieces w.blanks) ∙ (ap (λ k. k ++ bare (blank_pieces w.blanks)) (bare_bytes w.bytes) ∙ ap (λ k. tree.pieces w.bytes ++ k) (bare_blanks w.blanks))

part_alike : (w : List Piece) (s : Blanks) (v : ValuePart) → NoRange v → part_on w (as_part s v) ≡ (w ++ blank_pieces s) ++ bare (value_part_pieces v)
unfolding minuses_on opens_on bare sum_pieces
part_alike w s awaited h = refl
part_alike w s (signed l) h =
    let u = w ++ blank_pieces s in
    append-nil (u ++ (byte 45 ∷ []) ++ blank_pieces l) ∙ (append_assoc u (byte 45 ∷ []) (blank_pieces l) ∙ ap (λ k. u ++ (byte 45 ∷ k)) (sym (bare_blanks l)))
part_alike w s (number (tree.plain x)) h = ap (λ k. (w ++ blank_pieces s) ++ (literal false x.bytes ∷ k)) (sym (bare_blanks x.blanks))
part_alike w s (number (tree.negative l x)) h =
    let u = w ++ blank_pieces s in
    let r = literal false x.bytes ∷ blank_pieces x.blanks in
    append_assoc (u ++ (byte 45 ∷ [])) (blank_pieces l) r ∙ (append_assoc u (byte 45 ∷ []) (blank_pieces l ++ r) ∙ ap (λ k. u ++ (byte 45 ∷ k))
    (sym (bare_append (blank_pieces l) (literal true x.bytes ∷ blank_pieces x.blanks) ∙ (ap (λ k. k ++ (literal false x.bytes ∷ bare (blank_pieces x.blanks))) (bare_blanks l) ∙ ap (λ k. blank_pieces l ++ (literal false x.bytes ∷ k)) (bare_blanks x.blanks)))))
part_alike w s (named x) h = ap (λ k. (w ++ blank_pieces s) ++ k) (sym (bare_word x))
part_alike w s (one_dot z) h = absurd h
part_alike w s (two_dots z l) h = absurd h
part_alike w s (second_signed z l m) h = absurd h
part_alike w s (second z l y) h = absurd h

pub alike_pieces : (g : FactState) (r : RuleState) → Alike g r → rule_on r ≡ bare (fact_on g)
alike_pieces g r (names w) = sym (bare_word w)
alike_pieces g r (arguments p l s v m h e) =
    let i = items_on value_pieces (opened_on [] p) l in
    part_alike (items_on sum_pieces (opened_on [] p) m) s v h ∙ sym (bare_append (i ++ blank_pieces s) (value_part_pieces v) ∙
    ap (λ k. k ++ bare (value_part_pieces v)) (bare_append i (blank_pieces s) ∙ (ap (λ k. k ++ bare (blank_pieces s)) e ∙ ap (λ k. items_on sum_pieces (opened_on [] p) m ++ k) (bare_blanks s))))
alike_pieces g r (atoms a c e) = sym e

-- ---- steps

item_alike : (p : Word) (l : List (Next Value)) (s : Blanks) (m : List (Next Sum)) (a : Value) (u : Sum) (b : ℕ) → SameItems p l m → bare (value_pieces a) ≡ sum_pieces u →
    bare (items_on value_pieces (opened_on [] p) l ++ blank_pieces s ++ value_pieces a ++ (byte b ∷ [])) ≡ items_on sum_pieces (opened_on [] p) m ++ blank_pieces s ++ sum_pieces u ++ (byte b ∷ [])
unfolding bare
item_alike p l s m a u b e f =
    let i = items_on value_pieces (opened_on [] p) l in
    let j = items_on sum_pieces (opened_on [] p) m in
    bare_append (i ++ blank_pieces s ++ value_pieces a) (byte b ∷ []) ∙ ap (λ k. k ++ (byte b ∷ []))
    (bare_append (i ++ blank_pieces s) (value_pieces a) ∙ (ap (λ k. k ++ bare (value_pieces a)) (bare_append i (blank_pieces s) ∙ (ap (λ k. k ++ bare (blank_pieces s)) e ∙ ap (λ k. j ++ k) (bare_blanks s))) ∙
    ap (λ k. (j ++ blank_pieces s) ++ k) f))

comma_alike : (p : Word) (l : List (Next Value)) (s : Blanks) (m : List (Next Sum)) (a : Value) (u : Sum) → SameItems p l m → bare (value_pieces a) ≡ sum_pieces u →
    Alike (reader.argument p (l ++ (next s a ∷ [])) [] awaited) (reader.argument p (m ++ (next s u ∷ [])) reader.begun)
comma_alike p l s m a u e f =
    arguments p (l ++ (next s a ∷ [])) [] awaited (m ++ (next s u ∷ [])) tt
    (ap bare (item_more value_pieces (opened_on [] p) l (next s a)) ∙ (item_alike p l s m a u 44 e f ∙ sym (item_more sum_pieces (opened_on [] p) m (next s u))))

closing_alike : (p : Word) (l : List (Next Value)) (s : Blanks) (m : List (Next Sum)) (a : Value) (u : Sum) → SameItems p l m → bare (value_pieces a) ≡ sum_pieces u →
    Alike (reader.closed (atom_with p l (next s a))) (reader.closed (atom_with p m (next s u)))
closing_alike p l s m a u e f =
    atoms (atom_with p l (next s a)) (atom_with p m (next s u)) (ap bare (atom_written value_pieces [] p l (next s a)) ∙ (item_alike p l s m a u 41 e f ∙ sym (atom_written sum_pieces [] p m (next s u))))

bare_plain : (w : Word) → bare (value_pieces (tree.integer (tree.plain w))) ≡ sum_pieces (tree.product (tree.unary (tree.leaf (tree.integer w))))
unfolding bare sum_pieces
bare_plain w = ap (λ k. literal false w.bytes ∷ k) (bare_blanks w.blanks)

bare_negative : (l : Blanks) (w : Word) → bare (value_pieces (tree.integer (tree.negative l w))) ≡ sum_pieces (tree.product (tree.unary (tree.minus l (tree.leaf (tree.integer w)))))
unfolding bare sum_pieces
bare_negative l w = ap (λ k. byte 45 ∷ k)
    (bare_append (blank_pieces l) (literal true w.bytes ∷ blank_pieces w.blanks) ∙ (ap (λ k. k ++ (literal false w.bytes ∷ bare (blank_pieces w.blanks))) (bare_blanks l) ∙ ap (λ k. blank_pieces l ++ (literal false w.bytes ∷ k)) (bare_blanks w.blanks)))

bare_name : (w : Word) → bare (value_pieces (tree.name w)) ≡ sum_pieces (tree.product (tree.unary (tree.leaf (tree.name w))))
unfolding sum_pieces
bare_name w = bare_word w

-- a word goes on in both, or in neither
plain_longer : (p : Word) (l : List (Next Value)) (s : Blanks) (m : List (Next Sum)) → SameItems p l m → (w : Word) (b : ℕ) →
    AlikeBoth (fact_argument p l s (number (tree.plain w)) (digit b)) (rule_argument p m (as_part s (number (tree.plain w))) (digit b))
plain_longer p l s m e w b = on (longer w b)
  where
    on : (o : Option Word) → AlikeBoth (and_then (and_then (and_then o (λ v. some (tree.plain v))) (λ y. some (number y))) (λ v. some (reader.argument p l s v)))
        (and_then (reader.with_leaf (part s [] empty_level (some (tree.integer w))) (and_then o (λ v. some (tree.integer v)))) (λ y. some (reader.argument p m y)))
    on none = tt
    on (some v) = arguments p l s (number (tree.plain v)) m tt e

negative_longer : (p : Word) (l : List (Next Value)) (s : Blanks) (m : List (Next Sum)) → SameItems p l m → (c : Blanks) (w : Word) (b : ℕ) →
    AlikeBoth (fact_argument p l s (number (tree.negative c w)) (digit b)) (rule_argument p m (as_part s (number (tree.negative c w))) (digit b))
negative_longer p l s m e c w b = on (longer w b)
  where
    on : (o : Option Word) → AlikeBoth (and_then (and_then (and_then o (λ v. some (tree.negative c v))) (λ y. some (number y))) (λ v. some (reader.argument p l s v)))
        (and_then (reader.with_leaf (part s [] (level none none (c ∷ [])) (some (tree.integer w))) (and_then o (λ v. some (tree.integer v)))) (λ y. some (reader.argument p m y)))
    on none = tt
    on (some v) = arguments p l s (number (tree.negative c v)) m tt e

name_alike : (p : Word) (l : List (Next Value)) (s : Blanks) (m : List (Next Sum)) → SameItems p l m → (w : Word) (o : Option Word) →
    AlikeBoth (and_then (and_then o (λ v. some (named v))) (λ v. some (reader.argument p l s v)))
    (and_then (reader.with_leaf (part s [] empty_level (some (tree.name w))) (and_then o (λ v. some (tree.name v)))) (λ y. some (reader.argument p m y)))
name_alike p l s m e w none = tt
name_alike p l s m e w (some v) = arguments p l s (named v) m tt e

argument_alike : (p : Word) (l : List (Next Value)) (s : Blanks) (v : ValuePart) (m : List (Next Sum)) → NoRange v → SameItems p l m → (c : Class) → AlikeBoth (fact_argument p l s v c) (rule_argument p m (as_part s v) c)
argument_alike p l s awaited m h e (blank x) = arguments p l (s ++ (x ∷ [])) awaited m tt e
argument_alike p l s awaited m h e (digit b) = arguments p l s (number (tree.plain (reader.one_byte b))) m tt e
argument_alike p l s awaited m h e (lower b) = arguments p l s (named (reader.one_byte b)) m tt e
argument_alike p l s awaited m h e minus = arguments p l s (signed []) m tt e
argument_alike p l s awaited m h e c = tt
argument_alike p l s (signed k) m h e (blank x) = arguments p l s (signed (k ++ (x ∷ []))) m tt e
argument_alike p l s (signed k) m h e (digit b) = arguments p l s (number (tree.negative k (reader.one_byte b))) m tt e
argument_alike p l s (signed k) m h e c = tt
argument_alike p l s (number (tree.plain w)) m h e (blank x) = arguments p l s (number (tree.plain (reader.blank_behind w x))) m tt e
argument_alike p l s (number (tree.plain w)) m h e (digit b) = plain_longer p l s m e w b
argument_alike p l s (number (tree.plain w)) m h e comma = comma_alike p l s m (tree.integer (tree.plain w)) _ e (bare_plain w)
argument_alike p l s (number (tree.plain w)) m h e closing = closing_alike p l s m (tree.integer (tree.plain w)) _ e (bare_plain w)
argument_alike p l s (number (tree.plain w)) m h e c = tt
argument_alike p l s (number (tree.negative k w)) m h e (blank x) = arguments p l s (number (tree.negative k (reader.blank_behind w x))) m tt e
argument_alike p l s (number (tree.negative k w)) m h e (digit b) = negative_longer p l s m e k w b
argument_alike p l s (number (tree.negative k w)) m h e comma = comma_alike p l s m (tree.integer (tree.negative k w)) _ e (bare_negative k w)
argument_alike p l s (number (tree.negative k w)) m h e closing = closing_alike p l s m (tree.integer (tree.negative k w)) _ e (bare_negative k w)
argument_alike p l s (number (tree.negative k w)) m h e c = tt
argument_alike p l s (named w) m h e (blank x) = arguments p l s (named (reader.blank_behind w x)) m tt e
argument_alike p l s (named w) m h e (digit b) = name_alike p l s m e w (name_longer w b)
argument_alike p l s (named w) m h e (lower b) = name_alike p l s m e w (name_longer w b)
argument_alike p l s (named w) m h e (capital b) = name_alike p l s m e w (name_longer w b)
argument_alike p l s (named w) m h e comma = comma_alike p l s m (tree.name w) _ e (bare_name w)
argument_alike p l s (named w) m h e closing = closing_alike p l s m (tree.name w) _ e (bare_name w)
argument_alike p l s (named w) m h e c = tt
argument_alike p l s (one_dot z) m h e c = absurd h
argument_alike p l s (two_dots z k) m h e c = absurd h
argument_alike p l s (second_signed z k n) m h e c = absurd h
argument_alike p l s (second z k y) m h e c = absurd h

predicate_alike : (o : Option Word) → AlikeBoth (and_then o (λ v. some (reader.predicate v))) (and_then o (λ v. some (reader.predicate v)))
predicate_alike none = tt
predicate_alike (some v) = names v

names_alike : (w : Word) (c : Class) → AlikeBoth (reader.fact_predicate w c) (reader.rule_predicate w c)
unfolding items_on
names_alike w (blank x) = names (reader.blank_behind w x)
names_alike w (digit b) = predicate_alike (name_longer w b)
names_alike w (lower b) = predicate_alike (name_longer w b)
names_alike w (capital b) = predicate_alike (name_longer w b)
names_alike w opening = arguments w [] [] awaited [] tt (bare_append (word_pieces w) (byte 40 ∷ []) ∙ ap (λ k. k ++ bare (byte 40 ∷ [])) (bare_word w) ∙ ap (λ k. word_pieces w ++ k) (bare_bytes (40 ∷ [])))
names_alike w c = tt

atoms_alike : (a : Atom Value) (d : Atom Sum) → bare (atom_pieces value_pieces a) ≡ atom_pieces sum_pieces d → (c : Class) → AlikeBoth (reader.fact_closed a c) (reader.rule_closed d c)
atoms_alike a d e (blank x) =
    atoms (reader.atom_blank a x) (reader.atom_blank d x) (ap bare (atom_blank_written value_pieces a x) ∙ (bare_append (atom_pieces value_pieces a) (byte (blank_byte x) ∷ []) ∙
    (ap (λ k. k ++ bare (byte (blank_byte x) ∷ [])) e ∙ (ap (λ k. atom_pieces sum_pieces d ++ k) (bare_bytes (blank_byte x ∷ [])) ∙ sym (atom_blank_written sum_pieces d x)))))
atoms_alike a d e c = tt

pub alike_step : (g : FactState) (r : RuleState) (c : Class) → Alike g r → AlikeBoth (fact_step g c) (rule_step r c)
alike_step g r c (names w) = names_alike w c
alike_step g r c (arguments p l s v m h e) = argument_alike p l s v m h e c
alike_step g r c (atoms a d e) = atoms_alike a d e c
