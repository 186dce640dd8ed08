-- A good text is read as its tree, so a text has one reading, and no text begins with bytes at which the reader is dead.
use Rattle.std.specs.Prelude.{ℕ, ◌≡◌, refl, List, [], ◌∷◌, ◌++◌}
use mathlib.Core.Path.{sym, ap, subst, ◌∙◌}
use Rattle.std.proofs.Math.Option.{Option, some, none}
use Rattle.std.proofs.lemmas.List.{append_assoc}
use Rattle.integers.specs.Lists.{All}
use Rattle.grammar.specs.Bytes.{Blanks}
use Rattle.grammar.specs.Grammar.{Word, Sentence, fact, rule, Text, text, text_pieces, sentence_pieces, sentences_pieces, value_pieces, sum_pieces, item_pieces, word_pieces, items_pieces, blank_pieces, sign, byte, bytes, print, Good, GoodSentence, IsText}
use Rattle.grammar.specs.Errors.{Begins}
use Rattle.grammar.specs.Reader.{Class, blank, digit, capital, lower, opening, colon, minus, stop, class_of, and_then, one_byte, name_longer, begun, left, awaited, FactState, fact_step, RuleState, half, body, rule_step, start, behind, inside, State, state, either, sentence_begun, run, beginning, text_of, read, Now}
use Rattle.grammar.specs.Reader as reader
use Rattle.grammar.proofs.Following.{follow, follow_append, Reads, reading, nothing, then, one_then, regrouped, blanks_read, Names, name_read}
use Rattle.grammar.proofs.Atoms.{dead_alive, lifted}
use Rattle.grammar.proofs.Facts.{fact_read}
use Rattle.grammar.proofs.Rules.{head_read, body_read}
use Rattle.grammar.proofs.Complete.{top, at, run_follow, rule_top, fact_top, fact_colon}

-- ---- the name of a sentence's first predicate is read as both

named : Blanks → List Sentence → Word → State
named t l w = at t l (some (reader.predicate w)) (some (reader.predicate w))

both_named : (t : Blanks) (l : List Sentence) (o : Option Word) →
    and_then (either (and_then o (λ v. some (reader.predicate v))) (and_then o (λ v. some (reader.predicate v)))) (λ n. some (state t l n)) ≡ and_then o (λ v. some (named t l v))
unfolding named
both_named t l none = refl
both_named t l (some v) = refl

first_name : (t : Blanks) (l : List Sentence) → Names top (named t l)
unfolding named top
first_name t l = record {
  on_blank = λ w x. refl;
  on_digit = λ w b. both_named t l (name_longer w b);
  on_capital = λ w b. both_named t l (name_longer w b);
  on_lower = λ w b. both_named t l (name_longer w b);
}

-- ---- once a sentence is a rule for certain

now_of : RuleState → Now
now_of (reader.ended s) = behind s
now_of r = inside none (some r)

either_alone : (r : RuleState) → either none (some r) ≡ some (now_of r)
unfolding now_of
either_alone (reader.ended s) = refl
either_alone r = refl

rule_alone : (t : Blanks) (l : List Sentence) (z : RuleState) (c : Class) (y : RuleState) → rule_step z c ≡ some y → top (state t l (now_of z)) c ≡ some (state t l (now_of y))
unfolding now_of top
rule_alone t l (reader.ended s) c y e = absurd (dead_alive e)
rule_alone t l z c y e = ap (λ o. and_then (either none o) (λ n. some (state t l n))) e ∙ ap (λ o. and_then o (λ n. some (state t l n))) (either_alone y)

colon_and : (f : Option FactState) → and_then f (λ x. fact_step x colon) ≡ none
colon_and none = refl
colon_and (some g) = fact_colon g

-- ---- a sentence

-- where one may begin
abbrev Begun : State → Blanks → List Sentence → Type 0
Begun z t l = (b : ℕ) → top z (lower b) ≡ some (named t l (one_byte b))

sentence_read : (t : Blanks) (l : List Sentence) (z : State) → Begun z t l → (s : Sentence) → GoodSentence s → Reads top z (sentence_pieces s) (state t l (behind s))
unfolding named top class_of now_of
sentence_read t l z h (fact a b) g =
    let r = fact_read a.predicate a.before a.arguments a.behind g.1 in
    let q = fact_top t l (reader.argument a.predicate [] [] awaited) (some (reader.argument a.predicate [] begun)) _ (reader.closed a) r.reads tt tt in
    regrouped (word_pieces a.predicate) (sign 40 a.before ++ (items_pieces value_pieces a.arguments ++ sign 41 a.behind)) (sign 46 b)
    (then (name_read (named t l) (first_name t l) z h a.predicate.bytes a.predicate.blanks g.0)
    (one_then 40 refl (then (reading q.1) (one_then 46 refl (blanks_read (λ d. state t l (behind (fact a d))) (λ d x. refl) [] b)))))
sentence_read t l z h (rule a b i c) g =
    let r = head_read a.predicate a.before a.arguments a.behind g.0.1 in
    let q = rule_top t l (some (reader.argument a.predicate [] [] awaited)) (reader.argument a.predicate [] begun) _ (reader.closed a) r.reads tt in
    let k = lifted rule_step top (λ x. state t l (now_of x)) (rule_alone t l) (body_read a b i g.1) in
    regrouped (word_pieces a.predicate) (sign 40 a.before ++ (items_pieces sum_pieces a.arguments ++ sign 41 a.behind)) (byte 58 ∷ sign 45 b ++ (items_pieces item_pieces i ++ sign 46 c))
    (then (name_read (named t l) (first_name t l) z h a.predicate.bytes a.predicate.blanks g.0.0)
    (one_then 40 refl (then (reading q.1)
    (one_then 58 (ap (λ o. and_then (either o (some (half a))) (λ n. some (state t l n))) (colon_and q.0))
    (one_then 45 refl
    (subst (λ p. Reads top (at t l none (some (body a [] (left begun)))) p (state t l (behind (rule a b i c)))) (append_assoc (blank_pieces b) (items_pieces item_pieces i ++ (byte 46 ∷ [])) (blank_pieces c) ∙ ap (λ p. blank_pieces b ++ p) (append_assoc (items_pieces item_pieces i) (byte 46 ∷ []) (blank_pieces c)))
    (then k (blanks_read (λ d. state t l (behind (rule a b i d))) (λ d x. refl) [] c))))))))

-- ---- a text

last_state : Blanks → List Sentence → Sentence → List Sentence → State
last_state t l s [] = state t l (behind s)
last_state t l s (m ∷ r) = last_state t (l ++ (s ∷ [])) m r

last_text : (t : Blanks) (l : List Sentence) (s : Sentence) (r : List Sentence) → text_of (last_state t l s r) ≡ some (text t (l ++ (s ∷ r)))
unfolding last_state
last_text t l s [] = refl
last_text t l s (m ∷ r) = last_text t (l ++ (s ∷ [])) m r ∙ ap (λ k. some (text t k)) (append_assoc l (s ∷ []) (m ∷ r))

more_read : (t : Blanks) (l : List Sentence) (s : Sentence) (r : List Sentence) → All GoodSentence r → Reads top (state t l (behind s)) (sentences_pieces r) (last_state t l s r)
unfolding last_state sentences_pieces named top
more_read t l s [] g = nothing
more_read t l s (m ∷ r) g = then (sentence_read t (l ++ (s ∷ [])) (state t l (behind s)) (λ b. refl) m g.0) (more_read t (l ++ (s ∷ [])) m r g.1)

end_state : Text → State
end_state t = elim t.sentences [ [] ↦ state t.blanks [] start | (s ∷ r) ↦ last_state t.blanks [] s r ]

sentences_read : (b : Blanks) (l : List Sentence) → All GoodSentence l → Reads top (state b [] start) (sentences_pieces l) (end_state (text b l))
unfolding end_state sentences_pieces named top
sentences_read b [] g = nothing
sentences_read b (s ∷ r) g = then (sentence_read b [] (state b [] start) (λ c. refl) s g.0) (more_read b [] s r g.1)

end_text : (b : Blanks) (l : List Sentence) → text_of (end_state (text b l)) ≡ some (text b l)
unfolding end_state
end_text b [] = refl
end_text b (s ∷ r) = last_text b [] s r

text_read : (t : Text) → Good t → Reads top beginning (text_pieces t) (end_state t)
unfolding top
text_read t g = then (blanks_read (λ b. state b [] start) (λ b x. refl) [] t.blanks) (sentences_read t.blanks t.sentences g)

-- ---- what follows

pub complete : (t : Text) → Good t → read (print t) ≡ some t
unfolding read print
complete t g = ap (λ o. and_then o text_of) (run_follow beginning (bytes (text_pieces t)) ∙ (text_read t g).reads) ∙ end_text t.blanks t.sentences

abbrev or_this : Text → Option Text → Text
or_this t none = t
or_this t (some u) = u

-- "an accepted text has one reading"
pub one_reading : (t u : Text) → Good t → Good u → print t ≡ print u → t ≡ u
one_reading t u g h e = ap (or_this t) (sym (complete t g) ∙ (ap read e ∙ complete u h))

-- a text is read
pub text_is_read : (s : List ℕ) → IsText s → (t : Text) × (read s ≡ some t)
text_is_read s (t, (g, e)) = (t, ap read (sym e) ∙ complete t g)

-- no text begins with bytes at which the reader is dead
pub dead_begins_none : (b : List ℕ) → run beginning b ≡ none → Begins b → ⊥
unfolding read
dead_begins_none b e (c, h) =
    let r = text_is_read (b ++ c) h in
    let d : run beginning (b ++ c) ≡ none = run_follow beginning (b ++ c) ∙ (follow_append top beginning b c ∙ ap (λ o. and_then o (λ y. follow top y c)) (sym (run_follow beginning b) ∙ e)) in
    dead_alive (sym (ap (λ o. and_then o text_of) d) ∙ r.1)
