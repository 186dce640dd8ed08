-- A literal outside 32 bits in what is held is outside whatever follows: of a sentence that may still become either, in what is held of the fact.
use Rattle.std.specs.Prelude.{ℕ, ◌≡◌, refl, List, [], ◌∷◌, ◌++◌}
use mathlib.Core.Path.{sym, ap, subst, ◌∙◌}
use Rattle.std.proofs.Math.Option.{Option, some, none}
use Rattle.std.proofs.lemmas.List.{append_assoc, append-nil}
use Rattle.grammar.specs.Bytes.{Blank, Blanks, blank_byte}
use Rattle.grammar.specs.Grammar.{Piece, byte, blank_pieces, Sentence, sentence_pieces, sentences_pieces, text_pieces}
use Rattle.grammar.specs.Errors.{Outside}
use Rattle.grammar.specs.Reader.{Class, blank, lower, class_of, and_then, fact_step, rule_step, Now, start, behind, inside, FactState, RuleState, State, state, either, class_step, sentence_blank, run, beginning, text_at, text_of, read}
use Rattle.grammar.specs.Reader as reader
use Rattle.grammar.proofs.Following.{follow, follow_append}
use Rattle.grammar.proofs.Atoms.{and_taken}
use Rattle.grammar.proofs.Complete.{top, run_follow}
use Rattle.grammar.proofs.OneReading.{complete}
use Rattle.grammar.proofs.SoundParts.{byte_in, blank_end}
use Rattle.grammar.proofs.Grows.{Grows, one_more, grows_behind}
use Rattle.grammar.proofs.Kept.{Kept, kept_map, kept_at, GoodClass, class_good}
use Rattle.grammar.proofs.SoundFacts.{fact_on, FactGoesOn, fact_goes_on}
use Rattle.grammar.proofs.SoundRules.{rule_on, RuleGoesOn, rule_goes_on}
use Rattle.grammar.proofs.SoundTexts.{HoldsAt, Holds, run_holds, top_holds, sentence_blank_pieces}
use Rattle.grammar.proofs.Literals.{In, outside_from, outside_more, outside_places, outside_exactly}
use Rattle.grammar.proofs.Held.{grows_keeps}
use Rattle.grammar.proofs.Bare.{bare_keeps}
use Rattle.grammar.proofs.Alike.{Alike, names, AlikeBoth, alike_pieces, alike_step}

abbrev pub sentences_so : Blanks → List Sentence → List Piece
sentences_so t l = blank_pieces t ++ sentences_pieces l

-- the pieces whose literals outside are so in each text that begins with what was read: a fact's as long as it may be one, since its minus counts
abbrev pub certain_at : Blanks → List Sentence → Now → List Piece
certain_at t l start = sentences_so t l
certain_at t l (behind s) = sentences_so t l ++ sentence_pieces s
certain_at t l (inside (some g) r) = sentences_so t l ++ fact_on g
certain_at t l (inside none (some r)) = sentences_so t l ++ rule_on r
certain_at t l (inside none none) = sentences_so t l

abbrev pub certain_pieces : State → List Piece
certain_pieces z = certain_at z.blanks z.sentences z.now

-- ---- what a step keeps

abbrev Keeps : List Piece → List Piece → Type 0
Keeps p q = (d : ℕ) → In d (outside_from 0 p) → In d (outside_from 0 q)

keeps_same : (p q : List Piece) → q ≡ p → Keeps p q
keeps_same p q e d h = subst (λ l. In d (outside_from 0 l)) (sym e) h

keeps_front : (p r : List Piece) → Keeps p (p ++ r)
keeps_front p r d h = outside_more 0 p r d h

keeps_grown : (a : List Piece) (b : ℕ) (p q : List Piece) → Grows b p q → Keeps (a ++ p) (a ++ q)
keeps_grown a b p q g d h = grows_keeps d 0 b (a ++ p) (a ++ q) (grows_behind a b p q g) h

Next : Blanks → List Sentence → List Piece → Option Now → Type 0
Next t l p o = Kept (λ n. Keeps p (certain_at t l n)) o

fact_alone : (t : Blanks) (l : List Sentence) (g : FactState) (b : ℕ) (o : Option FactState) → Kept (FactGoesOn g b) o → Next t l (sentences_so t l ++ fact_on g) (either o none)
unfolding Next
fact_alone t l g b none k = tt
fact_alone t l g b (some (reader.ended s)) k = keeps_grown (sentences_so t l) b (fact_on g) (sentence_pieces s) k.1
fact_alone t l g b (some y) k = keeps_grown (sentences_so t l) b (fact_on g) (fact_on y) k.1

rule_alone : (t : Blanks) (l : List Sentence) (r : RuleState) (b : ℕ) (o : Option RuleState) → Kept (RuleGoesOn r b) o → Next t l (sentences_so t l ++ rule_on r) (either none o)
unfolding Next
rule_alone t l r b none k = tt
rule_alone t l r b (some (reader.ended s)) k = keeps_grown (sentences_so t l) b (rule_on r) (sentence_pieces s) k.1
rule_alone t l r b (some y) k = keeps_grown (sentences_so t l) b (rule_on r) (rule_on y) k.1

-- where the fact is dead, the rule has them without their minuses
keeps_rule : (a : List Piece) (g : FactState) (r : RuleState) (b : ℕ) (q : List Piece) → Alike g r → Grows b (rule_on r) q → Keeps (a ++ fact_on g) (a ++ q)
keeps_rule a g r b q h k d i = keeps_grown a b (rule_on r) q k d (subst (λ u. In d (outside_from 0 (a ++ u))) (sym (alike_pieces g r h)) (bare_keeps d 0 a (fact_on g) i))

both : (t : Blanks) (l : List Sentence) (g : FactState) (r : RuleState) (b : ℕ) → Alike g r → (f : Option FactState) (q : Option RuleState) → Kept (FactGoesOn g b) f → Kept (RuleGoesOn r b) q → Next t l (sentences_so t l ++ fact_on g) (either f q)
unfolding Next
both t l g r b a (some (reader.ended s)) q h k = keeps_grown (sentences_so t l) b (fact_on g) (sentence_pieces s) h.1
both t l g r b a f (some (reader.ended s)) h k = keeps_rule (sentences_so t l) g r b (sentence_pieces s) a k.1
both t l g r b a none none h k = tt
both t l g r b a none (some y) h k = keeps_rule (sentences_so t l) g r b (rule_on y) a k.1
both t l g r b a (some y) none h k = keeps_grown (sentences_so t l) b (fact_on g) (fact_on y) h.1
both t l g r b a (some y) (some q) h k = keeps_grown (sentences_so t l) b (fact_on g) (fact_on y) h.1

-- ---- a fact and its rule

abbrev pub AlikeNow : Now → Type 0
AlikeNow (inside f r) = AlikeBoth f r
AlikeNow n = Unit {0}

either_alike : (f : Option FactState) (r : Option RuleState) → AlikeBoth f r → Kept AlikeNow (either f r)
either_alike (some (reader.ended s)) r k = tt
either_alike f (some (reader.ended s)) k = tt
either_alike none none k = tt
either_alike none (some r) k = tt
either_alike (some g) none k = tt
either_alike (some g) (some r) k = k

fact_dead : (r : Option RuleState) → AlikeBoth none r
fact_dead r = tt

rule_dead : (f : Option FactState) → AlikeBoth f none
rule_dead none = tt
rule_dead (some g) = tt

class_alike : (t : Blanks) (l : List Sentence) (n : Now) (c : Class) → AlikeNow n → Kept (λ y. AlikeNow y.now) (class_step t l n c)
class_alike t l start (blank x) k = tt
class_alike t l start (lower b) k = names (reader.one_byte b)
class_alike t l start c k = tt
class_alike t l (behind s) (blank x) k = tt
class_alike t l (behind s) (lower b) k = names (reader.one_byte b)
class_alike t l (behind s) c k = tt
class_alike t l (inside none r) c k =
    let q = and_then r (λ q. rule_step q c) in kept_map AlikeNow (λ y. AlikeNow y.now) (λ n. state t l n) (λ n i. i) (either none q) (either_alike none q (fact_dead q))
class_alike t l (inside (some g) none) c k = kept_map AlikeNow (λ y. AlikeNow y.now) (λ n. state t l n) (λ n i. i) (either (fact_step g c) none) (either_alike (fact_step g c) none (rule_dead (fact_step g c)))
class_alike t l (inside (some g) (some r)) c k =
    kept_map AlikeNow (λ y. AlikeNow y.now) (λ n. state t l n) (λ n i. i) (either (fact_step g c) (rule_step r c)) (either_alike (fact_step g c) (rule_step r c) (alike_step g r c k))

stated : (t : Blanks) (l : List Sentence) (p : List Piece) (o : Option Now) → Next t l p o → Kept (λ y. Keeps p (certain_pieces y)) (and_then o (λ n. some (state t l n)))
unfolding Next
stated t l p o k = kept_map (λ n. Keeps p (certain_at t l n)) (λ y. Keeps p (certain_pieces y)) (λ n. state t l n) (λ n i. i) o k

sentence_behind : (l : List Sentence) (s : Sentence) → sentences_pieces (l ++ (s ∷ [])) ≡ sentences_pieces l ++ sentence_pieces s
unfolding sentences_pieces
sentence_behind [] s = append-nil (sentence_pieces s)
sentence_behind (m ∷ l) s = ap (λ k. sentence_pieces m ++ k) (sentence_behind l s) ∙ sym (append_assoc (sentence_pieces m) (sentences_pieces l) (sentence_pieces s))

pub sentence_so : (t : Blanks) (l : List Sentence) (s : Sentence) → sentences_so t (l ++ (s ∷ [])) ≡ sentences_so t l ++ sentence_pieces s
sentence_so t l s = ap (λ k. blank_pieces t ++ k) (sentence_behind l s) ∙ sym (append_assoc (blank_pieces t) (sentences_pieces l) (sentence_pieces s))

blank_first : (t : Blanks) (x : Blank) (l : List Sentence) → l ≡ [] → Keeps (sentences_so t l) (sentences_so (t ++ (x ∷ [])) l)
unfolding sentences_pieces
blank_first t x l e = subst (λ m. Keeps (sentences_so t m) (sentences_so (t ++ (x ∷ [])) m)) (sym e) (λ d h.
    subst (λ k. In d (outside_from 0 k)) (sym (append-nil (blank_pieces (t ++ (x ∷ []))) ∙ blank_end [] t x)) (outside_more 0 (blank_pieces t) (byte (blank_byte x) ∷ []) d
    (subst (λ k. In d (outside_from 0 k)) (append-nil (blank_pieces t)) h)))

class_keeps : (w : List ℕ) (t : Blanks) (l : List Sentence) (n : Now) (c : Class) → GoodClass c → HoldsAt w t l n → AlikeNow n → Kept (λ y. Keeps (certain_at t l n) (certain_pieces y)) (class_step t l n c)
class_keeps w t l start (blank x) q h a = blank_first t x l h.0
class_keeps w t l start (lower b) q h a = keeps_front (sentences_so t l) (fact_on (reader.predicate (reader.one_byte b)))
class_keeps w t l start c q h a = tt
class_keeps w t l (behind s) (blank x) q h a = keeps_grown (sentences_so t l) (blank_byte x) (sentence_pieces s) (sentence_pieces (sentence_blank s x)) (one_more (sentence_blank_pieces s x))
class_keeps w t l (behind s) (lower b) q h a = λ d i.
    keeps_front (sentences_so t (l ++ (s ∷ []))) (fact_on (reader.predicate (reader.one_byte b))) d (keeps_same (sentences_so t l ++ sentence_pieces s) (sentences_so t (l ++ (s ∷ []))) (sentence_so t l s) d i)
class_keeps w t l (behind s) c q h a = tt
class_keeps w t l (inside none none) c q h a = tt
class_keeps w t l (inside (some g) none) c q h a = stated t l (sentences_so t l ++ fact_on g) (either (fact_step g c) none) (fact_alone t l g (byte_in c) (fact_step g c) (fact_goes_on g c q h.1.1.1.0.0))
class_keeps w t l (inside none (some r)) c q h a = stated t l (sentences_so t l ++ rule_on r) (either none (rule_step r c)) (rule_alone t l r (byte_in c) (rule_step r c) (rule_goes_on r c q h.1.1.1.1.0.0))
class_keeps w t l (inside (some g) (some r)) c q h a =
    stated t l (sentences_so t l ++ fact_on g) (either (fact_step g c) (rule_step r c))
    (both t l g r (byte_in c) a (fact_step g c) (rule_step r c) (fact_goes_on g c q h.1.1.1.0.0) (rule_goes_on r c q h.1.1.1.1.0.0))

follow_keeps : (w : List ℕ) (z : State) (s : List ℕ) (y : State) → Holds w z → AlikeNow z.now → follow top z s ≡ some y → Keeps (certain_pieces z) (certain_pieces y)
unfolding follow top
follow_keeps w z [] y h a e d i = kept_at (λ x. Keeps (certain_pieces z) (certain_pieces x)) (some z) e (keeps_same (certain_pieces z) (certain_pieces z) refl) d i
follow_keeps w z (b ∷ s) y h a e d i =
    let k = and_taken (top z (class_of b)) (λ x. follow top x s) e in
    let one = kept_at (λ x. Keeps (certain_pieces z) (certain_pieces x)) (class_step z.blanks z.sentences z.now (class_of b)) k.1.0 (class_keeps w z.blanks z.sentences z.now (class_of b) (class_good b) h a) in
    let alike = kept_at (λ x. AlikeNow x.now) (class_step z.blanks z.sentences z.now (class_of b)) k.1.0 (class_alike z.blanks z.sentences z.now (class_of b) a) in
    follow_keeps (w ++ (b ∷ [])) k.0 s y (top_holds w z b k.0 h k.1.0) alike k.1.1 d (one d i)

pub follow_alike : (z : State) (s : List ℕ) (y : State) → AlikeNow z.now → follow top z s ≡ some y → AlikeNow y.now
unfolding follow top
follow_alike z [] y a e = kept_at (λ x. AlikeNow x.now) (some z) e a
follow_alike z (b ∷ s) y a e =
    let k = and_taken (top z (class_of b)) (λ x. follow top x s) e in
    follow_alike k.0 s y (kept_at (λ x. AlikeNow x.now) (class_step z.blanks z.sentences z.now (class_of b)) k.1.0 (class_alike z.blanks z.sentences z.now (class_of b) a)) k.1.1

-- ---- so it is outside by the bytes that were read

pub text_certain : (t : Blanks) (l : List Sentence) (n : Now) → Kept (λ u. text_pieces u ≡ certain_at t l n) (text_at t l n)
text_certain t l start = refl
text_certain t l (behind s) = sentence_so t l s
text_certain t l (inside f r) = tt

-- b was read, and z is held
pub certain_outside : (b : List ℕ) (z : State) (d : ℕ) → run beginning b ≡ some z → In d (outside_from 0 (certain_pieces z)) → Outside b d
unfolding read outside_places
certain_outside b z d e h t g c p =
    let k = and_taken (run beginning (b ++ c)) text_of (ap read (sym p) ∙ complete t g) in
    let f : follow top z c ≡ some k.0 = sym (ap (λ o. and_then o (λ y. follow top y c)) (sym (run_follow beginning b) ∙ e)) ∙ (sym (follow_append top beginning b c) ∙ (sym (run_follow beginning (b ++ c)) ∙ k.1.0)) in
    let u = kept_at (λ u. text_pieces u ≡ certain_pieces k.0) (text_of k.0) k.1.1 (text_certain k.0.blanks k.0.sentences k.0.now) in
    (outside_exactly t d).1 (subst (λ l. In d (outside_from 0 l)) (sym u) (follow_keeps b z c k.0 (run_holds b z e) (follow_alike beginning b z tt (sym (run_follow beginning b) ∙ e)) f d h))
