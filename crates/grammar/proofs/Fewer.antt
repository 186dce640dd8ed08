-- From where a fact is alive some bytes end it in which no further literal is outside: they have no literals but `0`.
use Rattle.std.specs.Prelude.{ℕ, suc, ◌+◌, ◌≡◌, refl, Bool, true, false, cond, List, [], ◌∷◌, ◌++◌, length}
use mathlib.Core.Path.{sym, ap, subst, ◌∙◌}
use mathlib.Core.Logic.{inl, inr}
use Rattle.std.proofs.Math.Option.{some}
use Rattle.std.proofs.lemmas.List.{append_assoc, append-nil}
use Rattle.integers.specs.Order.{number?}
use Rattle.grammar.specs.Bytes.{Blanks}
use Rattle.grammar.specs.Grammar.{Word, Next, next, Atom, Value, Piece, byte, literal, blank_pieces, integer_pieces, value_pieces}
use Rattle.grammar.specs.Grammar as tree
use Rattle.grammar.specs.Errors.{number_on, worth}
use Rattle.grammar.specs.Reader.{class_of, and_then, one_byte, atom_with, ValuePart, FactState, fact_step}
use Rattle.grammar.specs.Reader as reader
use Rattle.grammar.proofs.Following.{follow}
use Rattle.grammar.proofs.Complete.{FactGoes}
use Rattle.grammar.proofs.Behind.{items_on, atom_written}
use Rattle.grammar.proofs.SoundParts.{two_nils}
use Rattle.grammar.proofs.SoundFacts.{fact_on, arguments_on, range_on, range_written, value_part_pieces}
use Rattle.grammar.proofs.Literals.{In, outside_from}

-- what is outside in the second is so in the first
abbrev pub Fewer : List Piece → List Piece → Type 0
Fewer p q = (a : List Piece) (d : ℕ) → In d (outside_from 0 (a ++ q)) → In d (outside_from 0 (a ++ p))

dropped : (d n : ℕ) (l : List Piece) (x : Piece) → ((m : ℕ) → In d (outside_from m (x ∷ [])) → ⊥) → In d (outside_from n (l ++ (x ∷ []))) → In d (outside_from n l)
unfolding outside_from
dropped d n [] x k h = absurd (k n h)
dropped d n (byte b ∷ l) x k h = dropped d (suc n) l x k h
dropped d n (literal w u ∷ l) x k h = on _ _ (number? (worth w u)) (dropped d (n + length u) l x k) h
  where
    on : (l r : List ℕ) (t : Bool) → (In d l → In d r) → In d (cond t l (n ∷ l)) → In d (cond t r (n ∷ r))
    on l r true k h = k h
    on l r false k (inl e) = inl e
    on l r false k (inr h) = inr (k h)

fewer_with : (p q : List Piece) (x : Piece) → ((d m : ℕ) → In d (outside_from m (x ∷ [])) → ⊥) → q ≡ p ++ (x ∷ []) → Fewer p q
fewer_with p q x k e a d h = dropped d 0 (a ++ p) x (k d) (subst (λ l. In d (outside_from 0 l)) (ap (λ l. a ++ l) e ∙ sym (append_assoc a p (x ∷ []))) h)

pub fewer_byte : (p q : List Piece) (b : ℕ) → q ≡ p ++ (byte b ∷ []) → Fewer p q
unfolding outside_from
fewer_byte p q b e = fewer_with p q (byte b) (λ d m h. h) e

no_zero : (own : Bool) (d m : ℕ) → In d (outside_from m (literal own (48 ∷ []) ∷ [])) → ⊥
unfolding outside_from number? number_on
no_zero false d m h = h
no_zero true d m h = h

pub fewer_zero : (p q : List Piece) (own : Bool) → q ≡ p ++ (literal own (48 ∷ []) ∷ []) → Fewer p q
fewer_zero p q own e = fewer_with p q (literal own (48 ∷ [])) (no_zero own) e

-- ---- a fact's end

pub record FactEnd (g : FactState) : Type 0 where
  pub written : List ℕ
  pub atom : Atom Value
  pub reads : follow fact_step g written ≡ some (reader.closed atom)
  pub fewer : Fewer (fact_on g) (fact_on (reader.closed atom))

closed_end : (a : Atom Value) → FactEnd (reader.closed a)
unfolding follow
closed_end a = record { written = []; atom = a; reads = refl; fewer = λ l d h. h }

after : (g : FactState) (b : ℕ) (y : FactState) → fact_step g (class_of b) ≡ some y → Fewer (fact_on g) (fact_on y) → FactEnd y → FactEnd g
unfolding follow
after g b y h f e = record { written = b ∷ e.written; atom = e.atom; reads = ap (λ q. and_then q (λ x. follow fact_step x e.written)) h ∙ e.reads; fewer = λ l d i. f l d (e.fewer l d i) }

closing_end : (p : Word) (l : List (Next Value)) (s : Blanks) (v : ValuePart) (a : Value) → fact_step (reader.argument p l s v) (class_of 41) ≡ some (reader.closed (atom_with p l (next s a))) → value_part_pieces v ≡ value_pieces a → FactEnd (reader.argument p l s v)
closing_end p l s v a h e =
    after (reader.argument p l s v) 41 (reader.closed (atom_with p l (next s a))) h
    (fewer_byte _ _ 41 (atom_written value_pieces [] p l (next s a) ∙ ap (λ k. arguments_on p l s ++ k ++ (byte 41 ∷ [])) (sym e))) (closed_end (atom_with p l (next s a)))

number_end : (p : Word) (l : List (Next Value)) (s : Blanks) (z : tree.Integer) → FactEnd (reader.argument p l s (reader.number z))
unfolding class_of
number_end p l s z = closing_end p l s (reader.number z) (tree.integer z) refl refl

second_end : (p : Word) (l : List (Next Value)) (s : Blanks) (z : tree.Integer) (k : Blanks) (y : tree.Integer) → FactEnd (reader.argument p l s (reader.second z k y))
unfolding class_of
second_end p l s z k y = closing_end p l s (reader.second z k y) (tree.range z k y) refl (range_written z k y)

two_dots_end : (p : Word) (l : List (Next Value)) (s : Blanks) (z : tree.Integer) (k : Blanks) → FactEnd (reader.argument p l s (reader.two_dots z k))
unfolding class_of
two_dots_end p l s z k =
    after (reader.argument p l s (reader.two_dots z k)) 48 (reader.argument p l s (reader.second z k (tree.plain (one_byte 48)))) refl
    (fewer_zero _ _ false (sym (append_assoc (arguments_on p l s) (range_on z k) (literal false (48 ∷ []) ∷ [])))) (second_end p l s z k (tree.plain (one_byte 48)))

value_end : (p : Word) (l : List (Next Value)) (s : Blanks) (v : ValuePart) → FactEnd (reader.argument p l s v)
unfolding class_of
value_end p l s reader.awaited =
    after (reader.argument p l s reader.awaited) 48 (reader.argument p l s (reader.number (tree.plain (one_byte 48)))) refl
    (fewer_zero _ _ false (ap (λ k. k ++ (literal false (48 ∷ []) ∷ [])) (sym (append-nil (arguments_on p l s))))) (number_end p l s (tree.plain (one_byte 48)))
value_end p l s (reader.signed k) =
    after (reader.argument p l s (reader.signed k)) 48 (reader.argument p l s (reader.number (tree.negative k (one_byte 48)))) refl
    (fewer_zero _ _ true (sym (append_assoc (arguments_on p l s) (byte 45 ∷ blank_pieces k) (literal true (48 ∷ []) ∷ [])))) (number_end p l s (tree.negative k (one_byte 48)))
value_end p l s (reader.number z) = number_end p l s z
value_end p l s (reader.named w) = closing_end p l s (reader.named w) (tree.name w) refl refl
value_end p l s (reader.one_dot z) =
    after (reader.argument p l s (reader.one_dot z)) 46 (reader.argument p l s (reader.two_dots z [])) refl
    (fewer_byte _ _ 46 (ap (λ k. arguments_on p l s ++ k) (append-nil (integer_pieces z ++ (byte 46 ∷ byte 46 ∷ [])) ∙ sym (append_assoc (integer_pieces z) (byte 46 ∷ []) (byte 46 ∷ []))) ∙
    sym (append_assoc (arguments_on p l s) (integer_pieces z ++ (byte 46 ∷ [])) (byte 46 ∷ [])))) (two_dots_end p l s z [])
value_end p l s (reader.two_dots z k) = two_dots_end p l s z k
value_end p l s (reader.second_signed z k n) =
    let r = range_on z k in
    let t = literal true (48 ∷ []) ∷ [] in
    after (reader.argument p l s (reader.second_signed z k n)) 48 (reader.argument p l s (reader.second z k (tree.negative n (one_byte 48)))) refl
    (fewer_zero _ _ true (ap (λ u. arguments_on p l s ++ u) (sym (append_assoc r (byte 45 ∷ blank_pieces n) t) ∙ ap (λ u. u ++ t) (sym (append_assoc r (byte 45 ∷ []) (blank_pieces n)))) ∙
    sym (append_assoc (arguments_on p l s) (r ++ (byte 45 ∷ []) ++ blank_pieces n) t))) (second_end p l s z k (tree.negative n (one_byte 48)))
value_end p l s (reader.second z k y) = second_end p l s z k y

pub fact_end : (g : FactState) → FactGoes (some g) → FactEnd g
unfolding class_of items_on
fact_end (reader.predicate w) h =
    after (reader.predicate w) 40 (reader.argument w [] [] reader.awaited) refl (fewer_byte _ _ 40 (two_nils (tree.word_pieces w ++ (byte 40 ∷ [])))) (value_end w [] [] reader.awaited)
fact_end (reader.argument p l s v) h = value_end p l s v
fact_end (reader.closed a) h = closed_end a
fact_end (reader.ended s) h = absurd h
