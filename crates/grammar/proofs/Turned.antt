-- Some text begins with the bytes at which the reader is alive, so it turns a file down at the place that specs/Errors tells, and turns nothing else down.
use Rattle.std.specs.Prelude.{ℕ, ◌≡◌, refl, List, [], ◌∷◌, ◌++◌}
use mathlib.Core.Path.{sym, ap, subst, ◌∙◌}
use Rattle.std.proofs.Math.Option.{Option, some, none}
use Rattle.grammar.specs.Bytes.{Blanks}
use Rattle.grammar.specs.Grammar.{Next, Item, Sentence, text}
use Rattle.grammar.specs.Errors.{Begins}
use Rattle.grammar.specs.Reader.{Class, stop, class_of, and_then, FactState, fact_step, RuleState, rule_step, item_of, rule_with, Now, start, behind, inside, State, state, either, step, run, beginning, text_of, read, lives, place_where, turned_down}
use Rattle.grammar.specs.Reader as reader
use Rattle.grammar.proofs.Following.{follow, follow_append}
use Rattle.grammar.proofs.Atoms.{dead_alive}
use Rattle.grammar.proofs.Complete.{top, at, run_follow, rule_top, fact_top, FactGoes, RuleGoes}
use Rattle.grammar.proofs.OneReading.{dead_begins_none}
use Rattle.grammar.proofs.SoundTexts.{HoldsAt, run_holds, text_exactly_if_read}
use Rattle.grammar.proofs.Finish.{Ending, here, behind_byte, behind_bytes, rule_stops, rule_ends, fact_stops, fact_ends}

-- ---- a sentence's full stop

rule_stopped : (r : RuleState) (s : Sentence) → rule_stops r ≡ some s → (rule_step r stop ≡ some (reader.ended s)) × RuleGoes (some r)
unfolding rule_stops
rule_stopped (reader.body h l i) s e = (stopped (item_of i) e, tt)
  where
    stopped : (o : Option (Next Item)) → and_then o (λ n. some (rule_with h l n)) ≡ some s → and_then {B = RuleState} o (λ n. some (reader.ended (rule_with h l n))) ≡ some (reader.ended s)
    stopped none e = absurd (dead_alive e)
    stopped (some n) e = ap (λ o. and_then {B = RuleState} o (λ t. some (reader.ended t))) e
rule_stopped r s e = absurd (dead_alive e)

fact_stopped : (g : FactState) (s : Sentence) → fact_stops g ≡ some s → (fact_step g stop ≡ some (reader.ended s)) × FactGoes (some g)
unfolding fact_stops
fact_stopped (reader.closed a) s e = (ap (λ o. and_then {B = FactState} o (λ t. some (reader.ended t))) e, tt)
fact_stopped g s e = absurd (dead_alive e)

-- a rule that has ended ends the sentence, if not its fact does
either_behind : (f : Option FactState) (s : Sentence) → (u : Sentence) × (either f (some (reader.ended s)) ≡ some (behind u))
either_behind none s = (s, refl)
either_behind (some (reader.ended u)) s = (u, refl)
either_behind (some g) s = (s, refl)

-- ---- from each live state to a text

behind_ends : (t : Blanks) (l : List Sentence) (s : Sentence) → Ending top text_of (state t l (behind s))
behind_ends t l s = here (state t l (behind s)) (text t (l ++ (s ∷ []))) refl

abbrev Inside : Option Now → Type 0
Inside (some (inside f r)) = Unit {0}
Inside o = ⊥

rule_going : (f : Option FactState) (r : RuleState) → either f (some r) ≡ some (inside f (some r)) → RuleGoes (some r)
rule_going f (reader.ended s) e = let k = either_behind f s in subst Inside (sym e ∙ k.1) tt
rule_going f r e = tt

fact_going : (g : FactState) → either (some g) none ≡ some (inside (some g) none) → FactGoes (some g)
fact_going (reader.ended s) e = subst Inside (sym e) tt
fact_going g e = tt

as_rule : (t : Blanks) (l : List Sentence) (f : Option FactState) (r : RuleState) → RuleGoes (some r) → Ending top text_of (at t l f (some r))
unfolding top class_of
as_rule t l f r h =
    let e = rule_ends r h in
    let k = rule_stopped e.last e.answer e.ends in
    let q = rule_top t l f r e.written e.last e.reads k.1 in
    let b = either_behind (and_then q.0 (λ x. fact_step x stop)) e.answer in
    behind_bytes (at t l f (some r)) e.written (at t l q.0 (some e.last)) q.1
    (behind_byte (at t l q.0 (some e.last)) 46 (state t l (behind b.0))
    (ap (λ o. and_then (either (and_then q.0 (λ x. fact_step x stop)) o) (λ n. some (state t l n))) k.0 ∙ ap (λ o. and_then o (λ n. some (state t l n))) b.1) (behind_ends t l b.0))

as_fact : (t : Blanks) (l : List Sentence) (g : FactState) → FactGoes (some g) → Ending top text_of (at t l (some g) none)
unfolding top class_of
as_fact t l g h =
    let e = fact_ends g h in
    let k = fact_stopped e.last e.answer e.ends in
    let q = fact_top t l g none e.written e.last e.reads k.1 tt in
    behind_bytes (at t l (some g) none) e.written (at t l (some e.last) q.0) q.1
    (behind_byte (at t l (some e.last) q.0) 46 (state t l (behind e.answer))
    (ap (λ o. and_then (either o (and_then q.0 (λ x. rule_step x stop))) (λ n. some (state t l n))) k.0) (behind_ends t l e.answer))

state_ends : (w : List ℕ) (t : Blanks) (l : List Sentence) (n : Now) → HoldsAt w t l n → Ending top text_of (state t l n)
state_ends w t l start h = here (state t l start) (text t l) refl
state_ends w t l (behind s) h = behind_ends t l s
state_ends w t l (inside f (some r)) h = as_rule t l f r (rule_going f r h.1.1.1.1.1)
state_ends w t l (inside (some g) none) h = as_fact t l g (fact_going g h.1.1.1.1.1)
state_ends w t l (inside none none) h = absurd (dead_alive h.1.1.1.1.1)

-- ---- a text begins so exactly if the reader is alive

pub alive_begins : (b : List ℕ) (z : State) → run beginning b ≡ some z → Begins b
unfolding read
alive_begins b z e =
    let k = state_ends b z.blanks z.sentences z.now (run_holds b z e) in
    let r : run beginning (b ++ k.written) ≡ some k.last = run_follow beginning (b ++ k.written) ∙ (follow_append top beginning b k.written ∙ (ap (λ o. and_then o (λ y. follow top y k.written)) (sym (run_follow beginning b) ∙ e) ∙ k.reads)) in
    (k.written, (text_exactly_if_read (b ++ k.written)).1 (k.answer, ap (λ o. and_then o text_of) r ∙ k.ends))

alive_at : (b : List ℕ) (o : Option State) → run beginning b ≡ o → Begins b → (z : State) × (run beginning b ≡ some z)
alive_at b none e h = absurd (dead_begins_none b e h)
alive_at b (some z) e h = (z, e)

pub begins_exactly_if_alive : (b : List ℕ) → (Begins b → (z : State) × (run beginning b ≡ some z)) × ((z : State) × (run beginning b ≡ some z) → Begins b)
begins_exactly_if_alive b = (alive_at b (run beginning b) refl, λ h. alive_begins b h.0 h.1)
