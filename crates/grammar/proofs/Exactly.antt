-- Where a sentence may still be a fact, the literals outside by the bytes read are those of the fact, and no others.
use Rattle.std.specs.Prelude.{ℕ, ◌≡◌, refl, List, [], ◌∷◌, ◌++◌, take}
use mathlib.Core.Path.{sym, ap, subst, ◌∙◌}
use Rattle.std.proofs.Math.Option.{Option, some, none}
use Rattle.grammar.specs.Bytes.{Blanks}
use Rattle.grammar.specs.Grammar.{Text, text, Sentence, text_pieces, sentence_pieces}
use Rattle.grammar.specs.Grammar as tree
use Rattle.grammar.specs.Errors.{NotText, Outside, Judgement, Judged}
use Rattle.grammar.specs.Reader.{and_then, class_of, FactState, RuleState, behind, inside, State, state, either, run, beginning, text_of, read}
use Rattle.grammar.specs.Reader as reader
use Rattle.grammar.proofs.Following.{follow, follow_append}
use Rattle.grammar.proofs.Complete.{top, run_follow, fact_top, FactGoes, InHead}
use Rattle.grammar.proofs.SoundTexts.{sound, run_holds}
use Rattle.grammar.proofs.SoundFacts.{fact_on}
use Rattle.grammar.proofs.Literals.{In, outside_from, outside_places, outside_exactly}
use Rattle.grammar.proofs.Alike.{Alike, names, arguments, atoms, AlikeBoth}
use Rattle.grammar.proofs.Certain.{sentences_so, sentence_so, certain_pieces, certain_outside, follow_alike}
use Rattle.grammar.proofs.Told.{no_text_judged}
use Rattle.grammar.proofs.Fewer.{fewer_byte, fact_end}

-- what is outside by the bytes is so in each text that they lead to
pub outside_in_text : (b : List ℕ) (z : State) (c : List ℕ) (y : State) (t : Text) (d : ℕ) → run beginning b ≡ some z → follow top z c ≡ some y → text_of y ≡ some t → Outside b d → In d (outside_from 0 (text_pieces t))
unfolding read outside_places
outside_in_text b z c y t d e f h o =
    let r : run beginning (b ++ c) ≡ some y = run_follow beginning (b ++ c) ∙ (follow_append top beginning b c ∙ (ap (λ q. and_then q (λ x. follow top x c)) (sym (run_follow beginning b) ∙ e) ∙ f)) in
    let k = sound (b ++ c) t (ap (λ q. and_then q text_of) r ∙ h) in
    (outside_exactly t d).0 (o t k.0 c k.1)

going : (g : FactState) (r : Option RuleState) → either (some g) r ≡ some (inside (some g) r) → FactGoes (some g)
going (reader.ended s) r e = subst Inside (sym e) tt
  where
    Inside : Option reader.Now → Type 0
    Inside (some (inside f r)) = Unit {0}
    Inside o = ⊥
going (reader.predicate w) r e = tt
going (reader.argument p l s v) r e = tt
going (reader.closed a) r e = tt

alike_head : (g : FactState) (r : RuleState) → Alike g r → InHead (some r)
alike_head g r (names w) = tt
alike_head g r (arguments p l s v m h e) = tt
alike_head g r (atoms a c e) = tt

in_head : (g : FactState) (r : Option RuleState) → AlikeBoth (some g) r → InHead r
in_head g none k = tt
in_head g (some r) k = alike_head g r k

fact_exactly : (b : List ℕ) (t : Blanks) (l : List Sentence) (g : FactState) (r : Option RuleState) (d : ℕ) → run beginning b ≡ some (state t l (inside (some g) r)) → Outside b d → In d (outside_from 0 (sentences_so t l ++ fact_on g))
unfolding top class_of follow
fact_exactly b t l g r d e o =
    let z = state t l (inside (some g) r) in
    let h = run_holds b z e in
    let k = fact_end g (going g r h.1.1.1.1.1) in
    let f = fact_top t l g r k.written (reader.closed k.atom) k.reads tt (in_head g r (follow_alike beginning b z tt (sym (run_follow beginning b) ∙ e))) in
    let s = tree.fact k.atom [] in
    let i = outside_in_text b z (k.written ++ (46 ∷ [])) (state t l (behind s)) (text t (l ++ (s ∷ []))) d e (follow_append top z k.written (46 ∷ []) ∙ ap (λ q. and_then q (λ x. follow top x (46 ∷ []))) f.1) refl o in
    k.fewer (sentences_so t l) d (fewer_byte (fact_on (reader.closed k.atom)) (sentence_pieces s) 46 refl (sentences_so t l) d (subst (λ u. In d (outside_from 0 u)) (sentence_so t l s) i))

-- both ways
pub outside_in_fact : (b : List ℕ) (t : Blanks) (l : List Sentence) (g : FactState) (r : Option RuleState) (d : ℕ) → run beginning b ≡ some (state t l (inside (some g) r)) →
    (Outside b d → In d (outside_from 0 (certain_pieces (state t l (inside (some g) r))))) × (In d (outside_from 0 (certain_pieces (state t l (inside (some g) r)))) → Outside b d)
outside_in_fact b t l g r d e = (fact_exactly b t l g r d e, certain_outside b (state t l (inside (some g) r)) d e)

-- so a file is judged whose 11 lies where a fact is alive
pub judged_in_fact : (s : List ℕ) (n : ℕ) (t : Blanks) (l : List Sentence) (g : FactState) (r : Option RuleState) → NotText s n → run beginning (take n s) ≡ some (state t l (inside (some g) r)) → (x : Judgement) × Judged s x
judged_in_fact s n t l g r h e = no_text_judged s n (outside_from 0 (certain_pieces (state t l (inside (some g) r)))) h (λ d. outside_in_fact (take n s) t l g r d e)
