-- What the reader accepts is a text, and the tree that it answers is that text's; with proofs/OneReading it accepts exactly the texts.
use Rattle.std.specs.Prelude.{ℕ, ◌≡◌, refl, List, [], ◌∷◌, ◌++◌}
use mathlib.Core.Path.{sym, ap, subst, ◌∙◌}
use native.Mathlib.Omega.{arith}
use Rattle.std.proofs.Math.Option.{Option, some, none}
use Rattle.std.proofs.lemmas.List.{append_assoc, append-nil}
use Rattle.integers.specs.Lists.{All}
use Rattle.grammar.specs.Bytes.{Blank, Blanks, blank_byte, blank_bytes, Lower}
use Rattle.grammar.specs.Grammar.{Word, Next, Value, Sum, Item, Atom, Sentence, fact, rule, Text, text, byte, sign, blank_pieces, bytes, value_pieces, sum_pieces, item_pieces, items_pieces, atom_pieces, sentence_pieces, sentences_pieces, print, Good, GoodSentence, IsText}
use Rattle.grammar.specs.Reader.{Class, blank, lower, class_of, and_then, one_byte, part_step, Part, part, Open, Level, ItemPart, item_step, left, not_yet, right, variable_awaited, variable_standing, atom_read, FactState, fact_step, RuleState, rule_step, Now, start, behind, inside, State, state, either, class_step, sentence_blank, sentence_begun, run, beginning, text_at, text_of, read}
use Rattle.grammar.specs.Reader as reader
use Rattle.grammar.specs.Grammar as tree
use Rattle.grammar.proofs.Following.{bytes_append, bytes_of_pieces, follow}
use Rattle.grammar.proofs.Atoms.{dead_alive, and_taken}
use Rattle.grammar.proofs.Complete.{top, run_follow}
use Rattle.grammar.proofs.OneReading.{text_is_read}
use Rattle.grammar.proofs.SoundParts.{byte_in, blank_end}
use Rattle.grammar.proofs.Kept.{class_tells, Kept, kept_map, kept_more, kept_at, GoodClass, class_good, all_more}
use Rattle.grammar.proofs.Grows.{grows_bytes}
use Rattle.grammar.proofs.SoundFacts.{fact_on, GoodFact, fact_goes_on}
use Rattle.grammar.proofs.SoundRules.{rule_on, GoodRule, rule_goes_on}

-- ---- what is held

abbrev pub FactHas : List ℕ → FactState → Type 0
FactHas v z = GoodFact z × (bytes (fact_on z) ≡ v)

abbrev pub RuleHas : List ℕ → RuleState → Type 0
RuleHas v z = GoodRule z × (bytes (rule_on z) ≡ v)

abbrev pub sentences_on : Blanks → List Sentence → List ℕ
sentences_on t l = blank_bytes t ++ bytes (sentences_pieces l)

-- w was read
abbrev pub HoldsAt : List ℕ → Blanks → List Sentence → Now → Type 0
HoldsAt w t l start = (l ≡ []) × (w ≡ blank_bytes t)
HoldsAt w t l (behind s) = All GoodSentence l × (GoodSentence s × (w ≡ sentences_on t l ++ bytes (sentence_pieces s)))
HoldsAt w t l (inside f r) = All GoodSentence l × ((v : List ℕ) × ((w ≡ sentences_on t l ++ v) × (Kept (FactHas v) f × (Kept (RuleHas v) r × (either f r ≡ some (inside f r))))))

abbrev pub Holds : List ℕ → State → Type 0
Holds w z = HoldsAt w z.blanks z.sentences z.now

-- ---- a blank behind a sentence

fact_grouped : (a : Atom Value) (b : Blanks) → sentence_pieces (fact a b) ≡ (atom_pieces value_pieces a ++ (byte 46 ∷ [])) ++ blank_pieces b
fact_grouped a b = sym (append_assoc (atom_pieces value_pieces a) (byte 46 ∷ []) (blank_pieces b))

rule_grouped : (a : Atom Sum) (b : Blanks) (l : tree.Items Item) (c : Blanks) → sentence_pieces (rule a b l c) ≡ (atom_pieces sum_pieces a ++ ((byte 58 ∷ sign 45 b) ++ (items_pieces item_pieces l ++ (byte 46 ∷ [])))) ++ blank_pieces c
rule_grouped a b l c =
    sym (append_assoc (atom_pieces sum_pieces a) ((byte 58 ∷ sign 45 b) ++ (items_pieces item_pieces l ++ (byte 46 ∷ []))) (blank_pieces c) ∙ ap (λ k. atom_pieces sum_pieces a ++ k) (
    append_assoc (byte 58 ∷ sign 45 b) (items_pieces item_pieces l ++ (byte 46 ∷ [])) (blank_pieces c) ∙ ap (λ k. (byte 58 ∷ sign 45 b) ++ k) (append_assoc (items_pieces item_pieces l) (byte 46 ∷ []) (blank_pieces c))))

pub sentence_blank_pieces : (s : Sentence) (x : Blank) → sentence_pieces (sentence_blank s x) ≡ sentence_pieces s ++ (byte (blank_byte x) ∷ [])
sentence_blank_pieces (fact a b) x =
    fact_grouped a (b ++ (x ∷ [])) ∙ (blank_end (atom_pieces value_pieces a ++ (byte 46 ∷ [])) b x ∙ ap (λ k. k ++ (byte (blank_byte x) ∷ [])) (sym (fact_grouped a b)))
sentence_blank_pieces (rule a b l c) x =
    rule_grouped a b l (c ++ (x ∷ [])) ∙ (blank_end (atom_pieces sum_pieces a ++ ((byte 58 ∷ sign 45 b) ++ (items_pieces item_pieces l ++ (byte 46 ∷ [])))) c x ∙ ap (λ k. k ++ (byte (blank_byte x) ∷ [])) (sym (rule_grouped a b l c)))

blank_behind_sentence : (w : List ℕ) (s : Sentence) (x : Blank) → w ++ bytes (sentence_pieces (sentence_blank s x)) ≡ (w ++ bytes (sentence_pieces s)) ++ (blank_byte x ∷ [])
unfolding bytes
blank_behind_sentence w s x =
    ap (λ k. w ++ k) (ap bytes (sentence_blank_pieces s x) ∙ bytes_append (sentence_pieces s) (byte (blank_byte x) ∷ [])) ∙ sym (append_assoc w (bytes (sentence_pieces s)) (blank_byte x ∷ []))

blanks_more : (t : Blanks) (x : Blank) → blank_bytes (t ++ (x ∷ [])) ≡ blank_bytes t ++ (blank_byte x ∷ [])
blanks_more [] x = refl
blanks_more (y ∷ t) x = ap (λ k. blank_byte y ∷ k) (blanks_more t x)

sentence_blank_good : (s : Sentence) (x : Blank) → GoodSentence s → GoodSentence (sentence_blank s x)
sentence_blank_good (fact a b) x g = g
sentence_blank_good (rule a b l c) x g = g

-- ---- one sentence more

sentences_more : (l : List Sentence) (s : Sentence) → bytes (sentences_pieces (l ++ (s ∷ []))) ≡ bytes (sentences_pieces l) ++ bytes (sentence_pieces s)
unfolding sentences_pieces bytes
sentences_more [] s = ap bytes (append-nil (sentence_pieces s))
sentences_more (m ∷ l) s =
    bytes_append (sentence_pieces m) (sentences_pieces (l ++ (s ∷ []))) ∙ (ap (λ k. bytes (sentence_pieces m) ++ k) (sentences_more l s) ∙
    (sym (append_assoc (bytes (sentence_pieces m)) (bytes (sentences_pieces l)) (bytes (sentence_pieces s))) ∙ ap (λ k. k ++ bytes (sentence_pieces s)) (sym (bytes_append (sentence_pieces m) (sentences_pieces l)))))

sentence_more : (t : Blanks) (l : List Sentence) (s : Sentence) → sentences_on t (l ++ (s ∷ [])) ≡ sentences_on t l ++ bytes (sentence_pieces s)
sentence_more t l s = ap (λ k. blank_bytes t ++ k) (sentences_more l s) ∙ sym (append_assoc (blank_bytes t) (bytes (sentences_pieces l)) (bytes (sentence_pieces s)))

none_yet : (t : Blanks) → blank_bytes t ≡ sentences_on t []
unfolding sentences_pieces bytes
none_yet t = sym (append-nil (blank_bytes t))

-- ---- steps

fact_has : (v : List ℕ) (c : Class) → GoodClass c → (f : Option FactState) → Kept (FactHas v) f → Kept (FactHas (v ++ (byte_in c ∷ []))) (and_then f (λ g. fact_step g c))
fact_has v c q none h = tt
fact_has v c q (some g) h = kept_more (λ y k. (k.0, grows_bytes (byte_in c) (fact_on g) (fact_on y) k.1 ∙ ap (λ u. u ++ (byte_in c ∷ [])) h.1)) (fact_step g c) (fact_goes_on g c q h.0)

rule_has : (v : List ℕ) (c : Class) → GoodClass c → (r : Option RuleState) → Kept (RuleHas v) r → Kept (RuleHas (v ++ (byte_in c ∷ []))) (and_then r (λ g. rule_step g c))
rule_has v c q none h = tt
rule_has v c q (some g) h = kept_more (λ y k. (k.0, grows_bytes (byte_in c) (rule_on g) (rule_on y) k.1 ∙ ap (λ u. u ++ (byte_in c ∷ [])) h.1)) (rule_step g c) (rule_goes_on g c q h.0)

either_holds : (t : Blanks) (l : List Sentence) (v : List ℕ) → All GoodSentence l → (f : Option FactState) (r : Option RuleState) → Kept (FactHas v) f → Kept (RuleHas v) r → Kept (HoldsAt (sentences_on t l ++ v) t l) (either f r)
either_holds t l v a (some (reader.ended s)) r h k = (a, (h.0, ap (λ u. sentences_on t l ++ u) (sym h.1)))
either_holds t l v a f (some (reader.ended s)) h k = (a, (k.0, ap (λ u. sentences_on t l ++ u) (sym k.1)))
either_holds t l v a none none h k = tt
either_holds t l v a f r h k = (a, (v, (refl, (h, (k, refl)))))

begun_holds : (t : Blanks) (l : List Sentence) (b : ℕ) → Lower b → All GoodSentence l → HoldsAt (sentences_on t l ++ (b ∷ [])) t l (sentence_begun b)
unfolding bytes
begun_holds t l b q a = (a, (b ∷ [], (refl, (((q, (tt, omega arith)), refl), (((q, (tt, omega arith)), refl), refl)))))

class_holds : (w : List ℕ) (t : Blanks) (l : List Sentence) (n : Now) (c : Class) → GoodClass c → HoldsAt w t l n → Kept (Holds (w ++ (byte_in c ∷ []))) (class_step t l n c)
class_holds w t l start (blank x) q h = (h.0, ap (λ u. u ++ (blank_byte x ∷ [])) h.1 ∙ sym (blanks_more t x))
class_holds w t l start (lower b) q h =
    subst (λ m. HoldsAt (w ++ (b ∷ [])) t m (sentence_begun b)) (sym h.0) (subst (λ u. HoldsAt (u ++ (b ∷ [])) t [] (sentence_begun b)) (sym (h.1 ∙ none_yet t)) (begun_holds t [] b q tt))
class_holds w t l start c q h = tt
class_holds w t l (behind s) (blank x) q h =
    (h.0, (sentence_blank_good s x h.1.0, ap (λ u. u ++ (blank_byte x ∷ [])) h.1.1 ∙ sym (blank_behind_sentence (sentences_on t l) s x)))
class_holds w t l (behind s) (lower b) q h =
    subst (λ u. HoldsAt (u ++ (b ∷ [])) t (l ++ (s ∷ [])) (sentence_begun b)) (sentence_more t l s ∙ sym h.1.1) (begun_holds t (l ++ (s ∷ [])) b q (all_more GoodSentence l s h.0 h.1.0))
class_holds w t l (behind s) c q h = tt
class_holds w t l (inside f r) c q h =
    let v = h.1.0 in
    let f' = and_then f (λ g. fact_step g c) in
    let r' = and_then r (λ g. rule_step g c) in
    let k = either_holds t l (v ++ (byte_in c ∷ [])) h.0 f' r' (fact_has v c q f h.1.1.1.0) (rule_has v c q r h.1.1.1.1.0) in
    kept_map (HoldsAt (sentences_on t l ++ (v ++ (byte_in c ∷ []))) t l) (Holds (w ++ (byte_in c ∷ []))) (λ n. state t l n)
    (λ n i. subst (λ u. HoldsAt u t l n) (sym (append_assoc (sentences_on t l) v (byte_in c ∷ [])) ∙ ap (λ u. u ++ (byte_in c ∷ [])) (sym h.1.1.0)) i) (either f' r') k

-- ---- a byte that no token has is dead everywhere

fact_other : (g : FactState) → fact_step g reader.other ≡ none
fact_other (reader.predicate w) = refl
fact_other (reader.argument p l s reader.awaited) = refl
fact_other (reader.argument p l s (reader.signed b)) = refl
fact_other (reader.argument p l s (reader.number z)) = refl
fact_other (reader.argument p l s (reader.named w)) = refl
fact_other (reader.argument p l s (reader.one_dot z)) = refl
fact_other (reader.argument p l s (reader.two_dots z b)) = refl
fact_other (reader.argument p l s (reader.second_signed z b c)) = refl
fact_other (reader.argument p l s (reader.second z b y)) = refl
fact_other (reader.closed a) = refl
fact_other (reader.ended s) = refl

part_other : (st : Blanks) (o : List Open) (v : Level) (x : Option tree.Leaf) → part_step (part st o v x) reader.other ≡ none
part_other st o v none = refl
part_other st o v (some x) = refl

item_other : (i : ItemPart) → item_step i reader.other ≡ none
item_other (left z) = ap (λ o. and_then o (λ y. some (left y))) (part_other z.start z.brackets z.level z.operand)
item_other (not_yet b s) = refl
item_other (right b s r z) = ap (λ o. and_then o (λ y. some (right b s r y))) (part_other z.start z.brackets z.level z.operand)
item_other (variable_awaited b p l s) = refl
item_other (variable_standing b p l s v) = refl
item_other (atom_read b a) = refl

rule_other : (r : RuleState) → rule_step r reader.other ≡ none
rule_other (reader.predicate w) = refl
rule_other (reader.argument p l z) = ap (λ o. and_then o (λ y. some (reader.argument p l y))) (part_other z.start z.brackets z.level z.operand)
rule_other (reader.closed a) = refl
rule_other (reader.half a) = refl
rule_other (reader.body h l i) = ap (λ o. and_then o (λ j. some (reader.body h l j))) (item_other i)
rule_other (reader.ended s) = refl

and_none : {A B : Type 0} (k : A → Option B) → ((a : A) → k a ≡ none) → (o : Option A) → and_then o k ≡ none
and_none k h none = refl
and_none k h (some a) = h a

other_dead : (t : Blanks) (l : List Sentence) (n : Now) → class_step t l n reader.other ≡ none
other_dead t l start = refl
other_dead t l (behind s) = refl
other_dead t l (inside f r) =
    ap (λ o. and_then (either o (and_then r (λ q. rule_step q reader.other))) (λ n. some (state t l n))) (and_none (λ g. fact_step g reader.other) fact_other f) ∙
    ap (λ o. and_then (either none o) (λ n. some (state t l n))) (and_none (λ q. rule_step q reader.other) rule_other r)

-- ---- all bytes

pub top_holds : (w : List ℕ) (z : State) (b : ℕ) (y : State) → Holds w z → top z (class_of b) ≡ some y → Holds (w ++ (b ∷ [])) y
unfolding top
top_holds w z b y h e =
    let alive : class_of b ≡ reader.other → ⊥ = λ o. dead_alive (sym (other_dead z.blanks z.sentences z.now) ∙ (ap (class_step z.blanks z.sentences z.now) (sym o) ∙ e)) in
    subst (λ c. Holds (w ++ (c ∷ [])) y) (class_tells b alive)
    (kept_at (Holds (w ++ (byte_in (class_of b) ∷ []))) (class_step z.blanks z.sentences z.now (class_of b)) e (class_holds w z.blanks z.sentences z.now (class_of b) (class_good b) h))

follow_holds : (w : List ℕ) (z : State) (s : List ℕ) (y : State) → Holds w z → follow top z s ≡ some y → Holds (w ++ s) y
unfolding follow
follow_holds w z [] y h e = subst (λ u. Holds u y) (sym (append-nil w)) (kept_at (Holds w) (some z) e h)
follow_holds w z (b ∷ s) y h e =
    let k = and_taken (top z (class_of b)) (λ x. follow top x s) e in
    subst (λ u. Holds u y) (append_assoc w (b ∷ []) s) (follow_holds (w ++ (b ∷ [])) k.0 s y (top_holds w z b k.0 h k.1.0) k.1.1)

-- what the reader holds is what it read
pub run_holds : (s : List ℕ) (z : State) → run beginning s ≡ some z → Holds s z
run_holds s z e = follow_holds [] beginning s z (refl, refl) (sym (run_follow beginning s) ∙ e)

-- ---- a whole text

text_bytes : (t : Blanks) (l : List Sentence) → print (text t l) ≡ sentences_on t l
unfolding print
text_bytes t l = bytes_append (blank_pieces t) (sentences_pieces l) ∙ ap (λ k. k ++ bytes (sentences_pieces l)) (bytes_of_pieces (blank_bytes t))

text_is : (w : List ℕ) (t : Blanks) (l : List Sentence) (n : Now) → HoldsAt w t l n → Kept (λ u. Good u × (print u ≡ w)) (text_at t l n)
text_is w t l start h = (subst (All GoodSentence) (sym h.0) tt, text_bytes t l ∙ (ap (sentences_on t) h.0 ∙ (sym (none_yet t) ∙ sym h.1)))
text_is w t l (behind s) h = (all_more GoodSentence l s h.0 h.1.0, text_bytes t (l ++ (s ∷ [])) ∙ (sentence_more t l s ∙ sym h.1.1))
text_is w t l (inside f r) h = tt

-- the tree that is answered is good and of these bytes
pub sound : (s : List ℕ) (t : Text) → read s ≡ some t → Good t × (print t ≡ s)
unfolding read
sound s t e =
    let k = and_taken (run beginning s) text_of e in
    kept_at (λ u. Good u × (print u ≡ s)) (text_of k.0) k.1.1 (text_is s k.0.blanks k.0.sentences k.0.now (run_holds s k.0 k.1.0))

-- the reader accepts the texts and nothing else
pub text_exactly_if_read : (s : List ℕ) → (IsText s → (t : Text) × (read s ≡ some t)) × ((t : Text) × (read s ≡ some t) → IsText s)
text_exactly_if_read s = (text_is_read s, λ h. (h.0, sound s h.0 h.1))
