-- The calls that a text stands for. 02, CR 2, whose sentences are quoted. A call may want the id that an earlier one answered, so what a text stands
-- for are requests: where a call has an id, a request has the place of the earlier request whose answer is meant.
use Rattle.std.specs.Prelude.{ℕ, suc, ◌+◌, ◌-◌, Bool, false, cond, ◌&&◌, ◌||◌, eqb, List, [], ◌∷◌, ◌++◌, length, ℤ, bytes_eq}
use Rattle.keys.specs.Key.{Key}
use Rattle.keys.specs.Key as keys
use Rattle.nodes.specs.declared.BinaryOp.{BinaryOp}
use Rattle.nodes.specs.declared.BinaryOp.TheVariants.{Add, Sub, Mul}
use Rattle.rules.specs.declared.Relation.{Relation}
use Rattle.grammar.specs.Grammar.{Word, Next, Items, Atom, Integer, Value, integer, name, range, Additive, plus, less, Multiplicative, times, Sum, product, added, Product, unary, multiplied, Unary, leaf, minus, Leaf, variable, brackets, Item, atom, comparison, Sentence, fact, Text}
use Rattle.grammar.specs.Grammar as grammar
use Rattle.grammar.specs.Errors.{worth, integer_of}

-- ---- requests

-- a slot and an argument
pub record Positive : Type 0 where
  pub slot : ℕ
  pub argument : ℕ

-- two expressions
pub record Comparison : Type 0 where
  pub left : ℕ
  pub relation : Relation
  pub right : ℕ

-- an argument and an expression
pub record Gain : Type 0 where
  pub argument : ℕ
  pub value : ℕ

pub data Request : Type 0 where
  -- an arity
  predicate : ℕ → Request
  -- a predicate and one of its places
  argument : ℕ → ℕ → Request
  constant : Key → Request
  -- the four expressions of a text: a constant, a slot, one minus, two operands
  literal : ℕ → Request
  slot : ℕ → Request
  negation : ℕ → Request
  binary : BinaryOp → ℕ → ℕ → Request
  -- an argument and a constant
  seed_value : ℕ → ℕ → Request
  -- an argument and the ends of an interval
  seed_interval : ℕ → ℤ → ℤ → Request
  -- how many slots; bindings, guards and heads
  rule : ℕ → List Positive → List Comparison → List Gain → Request

-- ---- "Predicates, by name and arity, and a sentence's slots are numbered at first mention."

-- where a variable stands among those that were mentioned before
unfoldable pub place_in : List (List ℕ) → List ℕ → ℕ
place_in [] v = 0
place_in (x ∷ l) v = cond (bytes_eq x v) 0 (suc (place_in l v))

-- one that is new stands at the end
abbrev pub mention : List (List ℕ) → List ℕ → List (List ℕ)
mention l v = cond (eqb (place_in l v) (length l)) (l ++ (v ∷ [])) l

pub record Predicate : Type 0 where
  pub name : List ℕ
  pub arity : ℕ
  -- its request
  pub place : ℕ

-- ---- what has been asked for so far

pub record Asked : Type 0 where
  pub requests : List Request
  pub predicates : List Predicate
  -- of the sentence at hand
  pub slots : List (List ℕ)
  pub positives : List Positive
  pub comparisons : List Comparison
  pub gains : List Gain

abbrev pub nothing_asked : Asked
nothing_asked = record { requests = []; predicates = []; slots = []; positives = []; comparisons = []; gains = [] }

abbrev pub ask : Request → Asked → Asked
ask r a = record a { requests = a.requests ++ (r ∷ []) }

-- the place of the last request
abbrev pub last : Asked → ℕ
last a = length a.requests - 1

-- ---- expressions: "children first, left before right". What is asked for last is the expression itself.

abbrev pub ask_key : Key → Asked → Asked
ask_key k a = let c = ask (constant k) a in ask (literal (last c)) c

abbrev pub ask_slot : List ℕ → Asked → Asked
ask_slot v a = let b = record a { slots = mention a.slots v } in ask (slot (place_in b.slots v)) b

abbrev pub additive_operator : Additive → BinaryOp
additive_operator plus = Add
additive_operator less = Sub

abbrev pub multiplicative_operator : Multiplicative → BinaryOp
multiplicative_operator times = Mul

unfoldable mutual
  pub ask_sum : Sum → Asked → Asked
  ask_sum (product p) a = ask_product p a
  ask_sum (added s op b p) a = let l = ask_sum s a in let r = ask_product p l in ask (binary (additive_operator op) (last l) (last r)) r

  pub ask_product : Product → Asked → Asked
  ask_product (unary u) a = ask_unary u a
  ask_product (multiplied p op b u) a = let l = ask_product p a in let r = ask_unary u l in ask (binary (multiplicative_operator op) (last l) (last r)) r

  pub ask_unary : Unary → Asked → Asked
  ask_unary (leaf l) a = ask_leaf l a
  ask_unary (minus b u) a = let c = ask_unary u a in ask (negation (last c)) c

  pub ask_leaf : Leaf → Asked → Asked
  ask_leaf (integer w) a = ask_key (keys.number (worth false w.bytes)) a
  ask_leaf (name w) a = ask_key (keys.name w.bytes) a
  ask_leaf (variable w) a = ask_slot w.bytes a
  ask_leaf (brackets b s c) a = ask_sum s a

-- ---- "of an atom the `predicate` call if new, then for each argument `argument` and, in a fact, its constant and seed, in a head its expression"

abbrev pub is_predicate : List ℕ → ℕ → Predicate → Bool
is_predicate s n p = bytes_eq p.name s && eqb p.arity n

unfoldable pub known : List ℕ → ℕ → List Predicate → Bool
known s n [] = false
known s n (p ∷ l) = is_predicate s n p || known s n l

-- the request of a predicate that is known
unfoldable pub predicate_place : List ℕ → ℕ → List Predicate → ℕ
predicate_place s n [] = 0
predicate_place s n (p ∷ l) = cond (is_predicate s n p) p.place (predicate_place s n l)

abbrev pub meet_predicate : List ℕ → ℕ → Asked → Asked
meet_predicate s n a = cond (known s n a.predicates) a (let b = ask (predicate n) a in record b { predicates = b.predicates ++ (record { name = s; arity = n; place = last b } ∷ []) })

-- each argument behind the first: what f does with it
unfoldable pub ask_each : {A : Type 0} → (A → Asked → Asked) → ℕ → ℕ → List (Next A) → Asked → Asked
ask_each f p i [] a = a
ask_each f p i (n ∷ l) a = ask_each f p (i + 1) l (f n.item (ask (argument p i) a))

abbrev pub ask_arguments : {A : Type 0} → (A → Asked → Asked) → ℕ → Items A → Asked → Asked
ask_arguments f p l a = ask_each f p 1 l.more (f l.first (ask (argument p 0) a))

abbrev pub ask_atom : {A : Type 0} → (A → Asked → Asked) → Atom A → Asked → Asked
ask_atom f t a =
    let arity = 1 + length t.arguments.more in
    let b = meet_predicate t.predicate.bytes arity a in
    ask_arguments f (predicate_place t.predicate.bytes arity b.predicates) t.arguments b

-- ---- what is done with an argument once it has been asked for

-- in a fact; "a range is seeded as an interval"
abbrev pub seed_key : Key → Asked → Asked
seed_key k a = let c = ask (constant k) a in ask (seed_value (last a) (last c)) c

abbrev pub seed : Value → Asked → Asked
seed (integer z) a = seed_key (keys.number (integer_of z)) a
seed (name w) a = seed_key (keys.name w.bytes) a
seed (range low b high) a = ask (seed_interval (last a) (integer_of low) (integer_of high)) a

-- in a head
abbrev pub gain : Sum → Asked → Asked
gain s a = let b = ask_sum s a in record b { gains = b.gains ++ (record { argument = last a; value = last b } ∷ []) }

-- in a body: "a rule's atoms are its positive bindings"
abbrev pub bind : Word → Asked → Asked
bind w a =
    let b = record a { slots = mention a.slots w.bytes } in
    record b { positives = b.positives ++ (record { slot = place_in b.slots w.bytes; argument = last a } ∷ []) }

-- ---- "its comparisons its guards"

abbrev pub ask_item : Item → Asked → Asked
ask_item (atom t) a = ask_atom bind t a
ask_item (comparison l r b s) a =
    let c = ask_sum l a in
    let d = ask_sum s c in
    record d { comparisons = d.comparisons ++ (record { left = last c; relation = r; right = last d } ∷ []) }

unfoldable pub ask_items : List (Next Item) → Asked → Asked
ask_items [] a = a
ask_items (n ∷ l) a = ask_items l (ask_item n.item a)

-- ---- "Sentences become calls in text order"

abbrev pub new_sentence : Asked → Asked
new_sentence a = record nothing_asked { requests = a.requests; predicates = a.predicates }

-- `rule` comes last, since it wants the ids of all that it is made of
abbrev pub ask_sentence : Sentence → Asked → Asked
ask_sentence (fact t b) a = ask_atom seed t a
ask_sentence (grammar.rule t b l c) a =
    let d = ask_items l.more (ask_item l.first (ask_atom gain t (new_sentence a))) in
    ask (rule (length d.slots) d.positives d.comparisons d.gains) d

unfoldable pub ask_sentences : List Sentence → Asked → Asked
ask_sentences [] a = a
ask_sentences (s ∷ l) a = ask_sentences l (ask_sentence s a)

unfoldable pub requests_of : Text → List Request
requests_of t = (ask_sentences t.sentences nothing_asked).requests
