-- The requests that texts stand for, in 02's order.
use Rattle.std.specs.Prelude.{ℕ, ◌≡◌, refl, List, [], ◌∷◌, codes, pos, negsuc, map, replicate}
use Rattle.std.proofs.Math.Option.{Option, some}
use Rattle.keys.specs.Key.{number, name}
use Rattle.nodes.specs.declared.BinaryOp.TheVariants.{Add, Sub, Mul}
use Rattle.rules.specs.declared.Relation.TheVariants.{Lt, Neq}
use Rattle.grammar.specs.Errors.{number_on}
use Rattle.grammar.specs.Reader.{class_of, step, run, read, and_then}
use Rattle.nodes.specs.declared.Expression.TheVariants.{Constant, Slot, Binary}
use Rattle.rules.specs.declared.Binding.TheVariants.{Positive}
use Rattle.rules.specs.declared.Guard.TheVariants.{Compare}
use Rattle.input.specs.Input.{Call}
use Rattle.input.specs.Input as input
use Rattle.requests.specs.Carried.{call_of, rule_of}
use Rattle.requests.specs.Requests.{Request, predicate, argument, constant, literal, slot, negation, binary, seed_value, seed_interval, rule, place_in, known, predicate_place, ask_sum, ask_each, ask_items, ask_sentences, requests_of}

asked : List ℕ → Option (List Request)
unfolding class_of step run read number_on place_in known predicate_place ask_sum ask_each ask_items ask_sentences requests_of
asked s = and_then (read s) (λ t. some (requests_of t))

-- 02: "`p(X+1) :- p(X), X < 10.`"
example_asked :
    asked (codes "p(X+1) :- p(X), X < 10.") ≡
    some
    (predicate 1 ∷
    argument 0 0 ∷
    slot 0 ∷
    constant (number (pos 1)) ∷
    literal 3 ∷
    binary Add 2 4 ∷
    argument 0 0 ∷
    slot 0 ∷
    constant (number (pos 10)) ∷
    literal 8 ∷
    rule 1 (record { slot = 0; argument = 6 } ∷ []) (record { left = 7; relation = Lt; right = 9 } ∷ []) (record { argument = 1; value = 5 } ∷ []) ∷
    [])
unfolding asked
example_asked = refl

-- a predicate of another arity is another one; one that is known is not asked for again; a range asks for no constant
facts_asked :
    asked (codes "p(-1,a).p(2). p(3..-4,a).") ≡
    some
    (predicate 2 ∷
    argument 0 0 ∷
    constant (number (negsuc 0)) ∷
    seed_value 1 2 ∷
    argument 0 1 ∷
    constant (name (codes "a")) ∷
    seed_value 4 5 ∷
    predicate 1 ∷
    argument 7 0 ∷
    constant (number (pos 2)) ∷
    seed_value 8 9 ∷
    argument 0 0 ∷
    seed_interval 11 (pos 3) (negsuc 3) ∷
    argument 0 1 ∷
    constant (name (codes "a")) ∷
    seed_value 13 14 ∷
    [])
unfolding asked
facts_asked = refl

-- minus before `*` before `-`, from the left; slots by first mention, head first; a body's predicates after its head's
rule_asked :
    asked (codes "h(Y-X*2-(1-Y)):-X!= -Y,q(X,Z).") ≡
    some
    (predicate 1 ∷
    argument 0 0 ∷
    slot 0 ∷
    slot 1 ∷
    constant (number (pos 2)) ∷
    literal 4 ∷
    binary Mul 3 5 ∷
    binary Sub 2 6 ∷
    constant (number (pos 1)) ∷
    literal 8 ∷
    slot 0 ∷
    binary Sub 9 10 ∷
    binary Sub 7 11 ∷
    slot 1 ∷
    slot 0 ∷
    negation 14 ∷
    predicate 2 ∷
    argument 16 0 ∷
    argument 16 1 ∷
    rule
    3
    (record { slot = 1; argument = 17 } ∷ record { slot = 2; argument = 18 } ∷ [])
    (record { left = 13; relation = Neq; right = 15 } ∷ [])
    (record { argument = 1; value = 12 } ∷ []) ∷
    [])
unfolding asked
rule_asked = refl

-- ---- with the answers 10, 11, .. before them: the calls, and the rule's arrays filled up

answers : List ℕ
answers = 10 ∷ 11 ∷ 12 ∷ 13 ∷ 14 ∷ 15 ∷ 16 ∷ 17 ∷ 18 ∷ 19 ∷ []

called : List ℕ → Option (List Call)
unfolding asked answers call_of rule_of
called s = and_then (asked s) (λ l. some (map (call_of answers) l))

example_called :
    called (codes "p(X+1) :- p(X), X < 10.") ≡
    some
    (input.predicate 1 ∷
    input.argument 10 0 ∷
    input.expression (Slot 0) ∷
    input.constant (number (pos 1)) ∷
    input.expression (Constant 13) ∷
    input.expression (Binary Add 12 14) ∷
    input.argument 10 0 ∷
    input.expression (Slot 0) ∷
    input.constant (number (pos 10)) ∷
    input.expression (Constant 18) ∷
    input.rule
    (record {
      slots = 1;
      bindings = Positive 0 16 ∷ replicate 31 (Positive 0 0);
      guards = Compare 17 Lt 19 ∷ replicate 31 (Compare 0 Lt 0);
      heads = record { argument = 11; value = 15 } ∷ replicate 15 (record { argument = 0; value = 0 });
      lengths = record { bindings = 1; guards = 1; heads = 1; queries = 0 };
    }) ∷
    [])
unfolding called
example_called = refl
