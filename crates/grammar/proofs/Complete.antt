-- Each good text is read as its tree.
use Rattle.std.specs.Prelude.{ℕ, ◌≡◌, refl, List, [], ◌∷◌, ◌++◌}
use mathlib.Core.Path.{sym, ap, subst, ◌∙◌}
use Rattle.std.proofs.Math.Option.{Option, some, none}
use Rattle.grammar.specs.Bytes.{Blanks}
use Rattle.grammar.specs.Grammar.{Word, Next, next, Value, Sum, Sentence}
use Rattle.grammar.specs.Reader.{Class, blank, digit, capital, lower, opening, comma, closing, stop, colon, minus, class_of, and_then, atom_with, one_byte, blank_behind, name_longer, longer, part_step, part, begun, empty_level, left, ValuePart, awaited, value_of, value_step, FactState, fact_step, RuleState, half, body, rule_step, item_of, rule_with, whole, head_closed, Part, Now, start, behind, inside, State, state, either, class_step, sentence_begun, step, run, beginning, text_at, text_of, read}
use Rattle.grammar.specs.Reader as reader
use Rattle.grammar.proofs.Following.{follow}
use Rattle.grammar.proofs.Atoms.{dead_alive, and_taken}
use Rattle.grammar.proofs.Rules.{stop_dead}

unfoldable pub top : State → Class → Option State
top z c = class_step z.blanks z.sentences z.now c

pub run_follow : (z : State) (s : List ℕ) → run z s ≡ follow top z s
unfolding run step follow top
run_follow z [] = refl
run_follow z (b ∷ s) = run_next (class_step z.blanks z.sentences z.now (class_of b)) (λ y. run_follow y s)
  where
    run_next : (o : Option State) → ((y : State) → run y s ≡ follow top y s) → and_then o (λ y. run y s) ≡ and_then o (λ y. follow top y s)
    run_next none h = refl
    run_next (some y) h = h y

-- ---- a sentence that is being read as both

-- neither has come to its end
abbrev pub FactGoes : Option FactState → Type 0
FactGoes (some (reader.ended s)) = ⊥
FactGoes f = Unit {0}

abbrev pub RuleGoes : Option RuleState → Type 0
RuleGoes (some (reader.ended s)) = ⊥
RuleGoes r = Unit {0}

both_go : (f : Option FactState) (r : Option RuleState) {g : FactState} → f ≡ some g → FactGoes f → RuleGoes r → either f r ≡ some (inside f r)
both_go none r e h k = absurd (dead_alive e)
both_go (some (reader.ended s)) r e h k = absurd h
both_go (some f) (some (reader.ended s)) e h k = absurd k
both_go (some f) (some r) e h k = refl
both_go (some f) none e h k = refl

rule_goes_on : (f : Option FactState) (r : RuleState) → FactGoes f → RuleGoes (some r) → either f (some r) ≡ some (inside f (some r))
rule_goes_on (some (reader.ended s)) r h k = absurd h
rule_goes_on f (reader.ended s) h k = absurd k
rule_goes_on f r h k = refl

-- ---- a fact is dead at a colon, and does not end but at a full stop

abbrev NoStop : Class → Type 0
NoStop stop = ⊥
NoStop c = Unit {0}

abbrev NoColon : Class → Type 0
NoColon colon = ⊥
NoColon c = Unit {0}

goes_predicate : (o : Option Word) → FactGoes (and_then o (λ v. some (reader.predicate v)))
goes_predicate none = tt
goes_predicate (some v) = tt

goes_argument : (p : Word) (l : List (Next Value)) (s : Blanks) (o : Option ValuePart) → FactGoes (and_then o (λ w. some (reader.argument p l s w)))
goes_argument p l s none = tt
goes_argument p l s (some w) = tt

goes_next : (f : Value → FactState) → ((a : Value) → FactGoes (some (f a))) → (o : Option Value) → FactGoes (and_then o (λ a. some (f a)))
goes_next f h none = tt
goes_next f h (some a) = h a

fact_goes : (g : FactState) (c : Class) → NoStop c → FactGoes (fact_step g c)
fact_goes (reader.predicate w) (digit b) n = goes_predicate (name_longer w b)
fact_goes (reader.predicate w) (capital b) n = goes_predicate (name_longer w b)
fact_goes (reader.predicate w) (lower b) n = goes_predicate (name_longer w b)
fact_goes (reader.predicate w) c n = tt
fact_goes (reader.argument p l s awaited) (blank x) n = tt
fact_goes (reader.argument p l s v) comma n = goes_next (λ a. reader.argument p (l ++ (next s a ∷ [])) [] awaited) (λ a. tt) (value_of v)
fact_goes (reader.argument p l s v) closing n = goes_next (λ a. reader.closed (atom_with p l (next s a))) (λ a. tt) (value_of v)
fact_goes (reader.argument p l s v) c n = goes_argument p l s (value_step v c)
fact_goes (reader.closed a) stop n = absurd n
fact_goes (reader.closed a) c n = tt
fact_goes (reader.ended s) c n = tt

pub fact_colon : (g : FactState) → fact_step g colon ≡ none
fact_colon (reader.predicate w) = refl
fact_colon (reader.argument p l s awaited) = refl
fact_colon (reader.argument p l s (reader.signed b)) = refl
fact_colon (reader.argument p l s (reader.number z)) = refl
fact_colon (reader.argument p l s (reader.named w)) = refl
fact_colon (reader.argument p l s (reader.one_dot z)) = refl
fact_colon (reader.argument p l s (reader.two_dots z b)) = refl
fact_colon (reader.argument p l s (reader.second_signed z b c)) = refl
fact_colon (reader.argument p l s (reader.second z b y)) = refl
fact_colon (reader.closed a) = refl
fact_colon (reader.ended s) = refl

-- ---- a rule does not go on behind a full stop, and is in its head before a colon

rule_stopped : (r : RuleState) (y : RuleState) → rule_step r stop ≡ some y → RuleGoes (some y) → ⊥
rule_stopped (reader.predicate w) y e h = dead_alive e
rule_stopped (reader.argument p l z) y e h = let t = and_taken (part_step z stop) (λ u. some (reader.argument p l u)) e in dead_alive (sym (stop_dead z.start z.brackets z.level z.operand) ∙ t.1.0)
rule_stopped (reader.closed a) y e h = dead_alive e
rule_stopped (half a) y e h = dead_alive e
rule_stopped (body a l i) y e h = let t = and_taken (item_of i) (λ n. some (reader.ended (rule_with a l n))) e in subst RuleGoes (sym t.1.1) h
rule_stopped (reader.ended s) y e h = dead_alive e

no_stop : (r : RuleState) (c : Class) (y : RuleState) → rule_step r c ≡ some y → RuleGoes (some y) → NoStop c
no_stop r stop y e h = rule_stopped r y e h
no_stop r c y e h = tt

no_colon : (g : FactState) (c : Class) (y : FactState) → fact_step g c ≡ some y → NoColon c
no_colon g colon y e = dead_alive (sym (fact_colon g) ∙ e)
no_colon g c y e = tt

abbrev pub InHead : Option RuleState → Type 0
InHead none = Unit {0}
InHead (some (reader.predicate w)) = Unit {0}
InHead (some (reader.argument p l z)) = Unit {0}
InHead (some (reader.closed a)) = Unit {0}
InHead (some (half a)) = ⊥
InHead (some (body a l i)) = ⊥
InHead (some (reader.ended s)) = ⊥

head_goes : (r : Option RuleState) → InHead r → RuleGoes r
head_goes none h = tt
head_goes (some (reader.predicate w)) h = tt
head_goes (some (reader.argument p l z)) h = tt
head_goes (some (reader.closed a)) h = tt
head_goes (some (half a)) h = tt
head_goes (some (body a l i)) h = tt
head_goes (some (reader.ended s)) h = h

head_some : {A : Type 0} (f : A → RuleState) → ((a : A) → InHead (some (f a))) → (o : Option A) → InHead (and_then o (λ a. some (f a)))
head_some f h none = tt
head_some f h (some a) = h a

head_bracket : (p : Word) (l : List (Next Sum)) (z : Part) (o : Option Sum) → InHead (head_closed p l z o)
head_bracket p l z (some s) = tt
head_bracket p l z none = head_some (λ y. reader.argument p l y) (λ y. tt) (part_step z closing)

head_stays : (r : RuleState) (c : Class) → NoColon c → InHead (some r) → InHead (rule_step r c)
head_stays (reader.predicate w) (digit b) n h = head_some (λ v. reader.predicate v) (λ v. tt) (name_longer w b)
head_stays (reader.predicate w) (capital b) n h = head_some (λ v. reader.predicate v) (λ v. tt) (name_longer w b)
head_stays (reader.predicate w) (lower b) n h = head_some (λ v. reader.predicate v) (λ v. tt) (name_longer w b)
head_stays (reader.predicate w) c n h = tt
head_stays (reader.argument p l z) comma n h = head_some (λ s. reader.argument p (l ++ (next z.start s ∷ [])) begun) (λ s. tt) (whole z)
head_stays (reader.argument p l z) closing n h = head_bracket p l z (whole z)
head_stays (reader.argument p l z) c n h = head_some (λ y. reader.argument p l y) (λ y. tt) (part_step z c)
head_stays (reader.closed a) colon n h = absurd n
head_stays (reader.closed a) c n h = tt
head_stays (half a) c n h = absurd h
head_stays (body a l i) c n h = absurd h
head_stays (reader.ended s) c n h = absurd h

head_stays_and : (r : Option RuleState) (c : Class) → NoColon c → InHead r → InHead (and_then r (λ q. rule_step q c))
head_stays_and none c n h = tt
head_stays_and (some r) c n h = head_stays r c n h

fact_goes_and : (f : Option FactState) (c : Class) → NoStop c → FactGoes (and_then f (λ g. fact_step g c))
fact_goes_and none c n = tt
fact_goes_and (some g) c n = fact_goes g c n

-- what has come to its end reads no more, so all before it went on
rule_went : (r : RuleState) (s : List ℕ) (y : RuleState) → follow rule_step r s ≡ some y → RuleGoes (some y) → RuleGoes (some r)
unfolding follow
rule_went (reader.ended t) [] y e h = subst RuleGoes (sym e) h
rule_went (reader.ended t) (b ∷ s) y e h = dead_alive e
rule_went r s y e h = tt

fact_went : (g : FactState) (s : List ℕ) (y : FactState) → follow fact_step g s ≡ some y → FactGoes (some y) → FactGoes (some g)
unfolding follow
fact_went (reader.ended t) [] y e h = subst FactGoes (sym e) h
fact_went (reader.ended t) (b ∷ s) y e h = dead_alive e
fact_went g s y e h = tt

-- ---- both at once

abbrev pub at : Blanks → List Sentence → Option FactState → Option RuleState → State
at t l f r = state t l (inside f r)

pub rule_top : (t : Blanks) (l : List Sentence) (f : Option FactState) (r : RuleState) (s : List ℕ) (y : RuleState) → follow rule_step r s ≡ some y → RuleGoes (some y) →
    (g : Option FactState) × (follow top (at t l f (some r)) s ≡ some (at t l g (some y)))
unfolding follow top
rule_top t l f r [] y e h = (f, ap (λ o. and_then o (λ q. some (at t l f (some q)))) e)
rule_top t l f r (b ∷ s) y e h =
    let c = class_of b in
    let k = and_taken (rule_step r c) (λ x. follow rule_step x s) e in
    let on : RuleGoes (some k.0) = rule_went k.0 s y k.1.1 h in
    let g = and_then f (λ x. fact_step x c) in
    let rest = rule_top t l g k.0 s y k.1.1 h in
    let one : and_then (either g (rule_step r c)) (λ n. some (state t l n)) ≡ some (at t l g (some k.0)) = ap (λ o. and_then (either g o) (λ n. some (state t l n))) k.1.0 ∙ ap (λ o. and_then o (λ n. some (state t l n))) (rule_goes_on g k.0 (fact_goes_and f c (no_stop r c k.0 k.1.0 on)) on) in
    (rest.0, ap (λ o. and_then o (λ x. follow top x s)) one ∙ rest.1)

pub fact_top : (t : Blanks) (l : List Sentence) (g : FactState) (r : Option RuleState) (s : List ℕ) (y : FactState) → follow fact_step g s ≡ some y → FactGoes (some y) → InHead r →
    (q : Option RuleState) × (follow top (at t l (some g) r) s ≡ some (at t l (some y) q))
unfolding follow top
fact_top t l g r [] y e h i = (r, ap (λ o. and_then o (λ x. some (at t l (some x) r))) e)
fact_top t l g r (b ∷ s) y e h i =
    let c = class_of b in
    let k = and_taken (fact_step g c) (λ x. follow fact_step x s) e in
    let on : FactGoes (some k.0) = fact_went k.0 s y k.1.1 h in
    let q = and_then r (λ x. rule_step x c) in
    let stays : InHead q = head_stays_and r c (no_colon g c k.0 k.1.0) i in
    let rest = fact_top t l k.0 q s y k.1.1 h stays in
    let one : and_then (either (fact_step g c) q) (λ n. some (state t l n)) ≡ some (at t l (some k.0) q) = ap (λ o. and_then (either o q) (λ n. some (state t l n))) k.1.0 ∙ ap (λ o. and_then o (λ n. some (state t l n))) (both_go (some k.0) q refl on (head_goes q stays)) in
    (rest.0, ap (λ o. and_then o (λ x. follow top x s)) one ∙ rest.1)
