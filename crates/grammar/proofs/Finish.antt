-- From wherever the reader is alive in a sentence, some bytes lead to where a full stop ends it: an operand, a bracket for each that is open, and what the
-- place still wants.
use Rattle.std.specs.Prelude.{ℕ, ◌≡◌, refl, List, [], ◌∷◌, ◌++◌}
use mathlib.Core.Path.{ap, ◌∙◌}
use Rattle.std.proofs.Math.Option.{Option, some, none}
use Rattle.rules.specs.declared.Relation.{Relation}
use Rattle.rules.specs.declared.Relation.TheVariants.{Lt, Neq}
use Rattle.grammar.specs.Bytes.{Blanks}
use Rattle.grammar.specs.Grammar.{Word, word, Next, next, Atom, Value, Sum, Item, Leaf, Sentence}
use Rattle.grammar.specs.Grammar as tree
use Rattle.grammar.specs.Reader.{Class, class_of, and_then, one_byte, Level, Open, Part, part, begun, sum_of, part_step, whole, ValuePart, value_of, value_step, FactState, fact_step, ItemPart, left, not_yet, right, variable_awaited, variable_standing, atom_read, item_step, item_of, RuleState, rule_step, rule_with, head_closed, atom_with}
use Rattle.grammar.specs.Reader as reader
use Rattle.grammar.proofs.Following.{follow, follow_append}
use Rattle.grammar.proofs.Atoms.{dead_alive, follow_lifted}
use Rattle.grammar.proofs.Facts.{in_fact}
use Rattle.grammar.proofs.Rules.{in_head, in_left, in_right, in_body}
use Rattle.grammar.proofs.Complete.{FactGoes, RuleGoes}

-- ---- bytes that lead to where a state has an answer

pub record Ending {Z A : Type 0} (f : Z → Class → Option Z) (o : Z → Option A) (z : Z) : Type 0 where
  pub written : List ℕ
  pub last : Z
  pub answer : A
  pub reads : follow f z written ≡ some last
  pub ends : o last ≡ some answer

pub here : {Z A : Type 0} {f : Z → Class → Option Z} {o : Z → Option A} (z : Z) (a : A) → o z ≡ some a → Ending f o z
unfolding follow
here z a e = record { written = []; last = z; answer = a; reads = refl; ends = e }

pub behind_byte : {Z A : Type 0} {f : Z → Class → Option Z} {o : Z → Option A} (z : Z) (b : ℕ) (y : Z) → f z (class_of b) ≡ some y → Ending f o y → Ending f o z
unfolding follow
behind_byte {f = f} z b y h e = record { written = b ∷ e.written; last = e.last; answer = e.answer; reads = ap (λ q. and_then q (λ x. follow f x e.written)) h ∙ e.reads; ends = e.ends }

pub behind_bytes : {Z A : Type 0} {f : Z → Class → Option Z} {o : Z → Option A} (z : Z) (s : List ℕ) (y : Z) → follow f z s ≡ some y → Ending f o y → Ending f o z
behind_bytes {f = f} z s y h e =
    record { written = s ++ e.written; last = e.last; answer = e.answer; reads = follow_append f z s e.written ∙ (ap (λ q. and_then q (λ x. follow f x e.written)) h ∙ e.reads); ends = e.ends }

-- ---- an expression

part_closes : (st : Blanks) (o : List Open) (v : Level) (x : Leaf) → Ending part_step whole (part st o v (some x))
unfolding class_of
part_closes st [] v x = here (part st [] v (some x)) (sum_of v x) refl
part_closes st (b ∷ o) v x = behind_byte (part st (b ∷ o) v (some x)) 41 (part st o b.before (some (tree.brackets b.blanks (sum_of v x) []))) refl (part_closes st o b.before (tree.brackets b.blanks (sum_of v x) []))

part_ends_at : (st : Blanks) (o : List Open) (v : Level) (x : Option Leaf) → Ending part_step whole (part st o v x)
unfolding class_of
part_ends_at st o v none = behind_byte (part st o v none) 48 (part st o v (some (tree.integer (one_byte 48)))) refl (part_closes st o v (tree.integer (one_byte 48)))
part_ends_at st o v (some x) = part_closes st o v x

part_ends : (z : Part) → Ending part_step whole z
part_ends z = part_ends_at z.start z.brackets z.level z.operand

-- ---- an item of a body

right_ends : (b : Blanks) (s : Sum) (r : Relation) (z : Part) → Ending item_step item_of (right b s r z)
right_ends b s r z =
    let e = part_ends z in
    behind_bytes (right b s r z) e.written (right b s r e.last)
    (follow_lifted part_step item_step (λ y. right b s r y) (λ z c y h. in_right b s r z.start z.brackets z.level z.operand c y h) z e.written e.last e.reads)
    (here (right b s r e.last) (next b (tree.comparison s r e.last.start e.answer)) (ap (λ o. and_then o (λ t. some (next b (tree.comparison s r e.last.start t)))) e.ends))

left_ends : (z : Part) → Ending item_step item_of (left z)
unfolding class_of
left_ends z =
    let e = part_ends z in
    behind_bytes (left z) e.written (left e.last)
    (follow_lifted part_step item_step (λ y. left y) (λ z c y h. in_left z.start z.brackets z.level z.operand c y h) z e.written e.last e.reads)
    (behind_byte (left e.last) 60 (right e.last.start e.answer Lt begun) (ap (λ o. and_then o (λ s. some (right e.last.start s Lt begun))) e.ends) (right_ends e.last.start e.answer Lt begun))

standing_ends : (b : Blanks) (p : Word) (l : List (Next Word)) (s : Blanks) (w : Word) → Ending item_step item_of (variable_standing b p l s w)
unfolding class_of
standing_ends b p l s w =
    behind_byte (variable_standing b p l s w) 41 (atom_read b (atom_with p l (next s w))) refl (here (atom_read b (atom_with p l (next s w))) (next b (tree.atom (atom_with p l (next s w)))) refl)

item_ends : (i : ItemPart) → Ending item_step item_of i
unfolding class_of
item_ends (left z) = left_ends z
item_ends (not_yet b s) = behind_byte (not_yet b s) 61 (right b s Neq begun) refl (right_ends b s Neq begun)
item_ends (right b s r z) = right_ends b s r z
item_ends (variable_awaited b p l s) = behind_byte (variable_awaited b p l s) 88 (variable_standing b p l s (one_byte 88)) refl (standing_ends b p l s (one_byte 88))
item_ends (variable_standing b p l s w) = standing_ends b p l s w
item_ends (atom_read b a) = here (atom_read b a) (next b (tree.atom a)) refl

-- ---- a rule: the sentence that it is behind a full stop

unfoldable pub rule_stops : RuleState → Option Sentence
rule_stops (reader.body h l i) = and_then (item_of i) (λ n. some (rule_with h l n))
rule_stops r = none

body_ends : (h : Atom Sum) (l : List (Next Item)) (i : ItemPart) → Ending rule_step rule_stops (reader.body h l i)
unfolding rule_stops
body_ends h l i =
    let e = item_ends i in
    behind_bytes (reader.body h l i) e.written (reader.body h l e.last) (follow_lifted item_step rule_step (λ j. reader.body h l j) (in_body h l) i e.written e.last e.reads)
    (here (reader.body h l e.last) (rule_with h l e.answer) (ap (λ o. and_then o (λ n. some (rule_with h l n))) e.ends))

half_ends : (a : Atom Sum) → Ending rule_step rule_stops (reader.half a)
unfolding class_of
half_ends a = behind_byte (reader.half a) 45 (reader.body a [] (left begun)) refl (body_ends a [] (left begun))

closed_ends : (a : Atom Sum) → Ending rule_step rule_stops (reader.closed a)
unfolding class_of
closed_ends a = behind_byte (reader.closed a) 58 (reader.half a) refl (half_ends a)

argument_ends : (p : Word) (l : List (Next Sum)) (z : Part) → Ending rule_step rule_stops (reader.argument p l z)
unfolding class_of
argument_ends p l z =
    let e = part_ends z in
    behind_bytes (reader.argument p l z) e.written (reader.argument p l e.last)
    (follow_lifted part_step rule_step (λ y. reader.argument p l y) (λ z c y h. in_head p l z.start z.brackets z.level z.operand c y h) z e.written e.last e.reads)
    (behind_byte (reader.argument p l e.last) 41 (reader.closed (atom_with p l (next e.last.start e.answer))) (ap (head_closed p l e.last) e.ends) (closed_ends (atom_with p l (next e.last.start e.answer))))

pub rule_ends : (r : RuleState) → RuleGoes (some r) → Ending rule_step rule_stops r
unfolding class_of
rule_ends (reader.predicate w) h = behind_byte (reader.predicate w) 40 (reader.argument w [] begun) refl (argument_ends w [] begun)
rule_ends (reader.argument p l z) h = argument_ends p l z
rule_ends (reader.closed a) h = closed_ends a
rule_ends (reader.half a) h = half_ends a
rule_ends (reader.body a l i) h = body_ends a l i
rule_ends (reader.ended s) h = absurd h

-- ---- a fact

unfoldable pub fact_stops : FactState → Option Sentence
fact_stops (reader.closed a) = some (tree.fact a [])
fact_stops f = none

value_ends : (v : ValuePart) → Ending value_step value_of v
unfolding class_of
value_ends reader.awaited = behind_byte reader.awaited 48 (reader.number (tree.plain (one_byte 48))) refl (here (reader.number (tree.plain (one_byte 48))) (tree.integer (tree.plain (one_byte 48))) refl)
value_ends (reader.signed l) = behind_byte (reader.signed l) 48 (reader.number (tree.negative l (one_byte 48))) refl (here (reader.number (tree.negative l (one_byte 48))) (tree.integer (tree.negative l (one_byte 48))) refl)
value_ends (reader.number z) = here (reader.number z) (tree.integer z) refl
value_ends (reader.named w) = here (reader.named w) (tree.name w) refl
value_ends (reader.one_dot z) = behind_byte (reader.one_dot z) 46 (reader.two_dots z []) refl (behind_byte (reader.two_dots z []) 48 (reader.second z [] (tree.plain (one_byte 48))) refl (here (reader.second z [] (tree.plain (one_byte 48))) (tree.range z [] (tree.plain (one_byte 48))) refl))
value_ends (reader.two_dots z l) = behind_byte (reader.two_dots z l) 48 (reader.second z l (tree.plain (one_byte 48))) refl (here (reader.second z l (tree.plain (one_byte 48))) (tree.range z l (tree.plain (one_byte 48))) refl)
value_ends (reader.second_signed z l m) = behind_byte (reader.second_signed z l m) 48 (reader.second z l (tree.negative m (one_byte 48))) refl (here (reader.second z l (tree.negative m (one_byte 48))) (tree.range z l (tree.negative m (one_byte 48))) refl)
value_ends (reader.second z l y) = here (reader.second z l y) (tree.range z l y) refl

value_closes : (p : Word) (l : List (Next Value)) (s : Blanks) (v : ValuePart) (a : Value) → value_of v ≡ some a → fact_step (reader.argument p l s v) reader.closing ≡ some (reader.closed (atom_with p l (next s a)))
value_closes p l s reader.awaited a h = absurd (dead_alive h)
value_closes p l s v a h = ap (λ o. and_then o (λ u. some (reader.closed (atom_with p l (next s u))))) h

value_in_ends : (p : Word) (l : List (Next Value)) (s : Blanks) (v : ValuePart) → Ending fact_step fact_stops (reader.argument p l s v)
unfolding class_of fact_stops
value_in_ends p l s v =
    let e = value_ends v in
    let a = atom_with p l (next s e.answer) in
    behind_bytes (reader.argument p l s v) e.written (reader.argument p l s e.last) (follow_lifted value_step fact_step (λ y. reader.argument p l s y) (in_fact p l s) v e.written e.last e.reads)
    (behind_byte (reader.argument p l s e.last) 41 (reader.closed a) (value_closes p l s e.last e.answer e.ends) (here (reader.closed a) (tree.fact a []) refl))

pub fact_ends : (g : FactState) → FactGoes (some g) → Ending fact_step fact_stops g
unfolding class_of fact_stops
fact_ends (reader.predicate w) h = behind_byte (reader.predicate w) 40 (reader.argument w [] [] reader.awaited) refl (value_in_ends w [] [] reader.awaited)
fact_ends (reader.argument p l s v) h = value_in_ends p l s v
fact_ends (reader.closed a) h = here (reader.closed a) (tree.fact a []) refl
fact_ends (reader.ended s) h = absurd h
