-- A reader of texts: a fold over the bytes with a state that is dead once no text begins so. The state holds what was read as parts of a tree, so that
-- it tells its bytes. What a file is (specs/Errors) is said without it; proofs/ say that it accepts the texts and nothing else, each as its tree, and
-- turns a file down where specs/Errors tells.
use Rattle.std.specs.Prelude.{ℕ, suc, cond, ◌&&◌, eqb, ltb, leb, Bool, true, false, List, [], ◌∷◌, ◌++◌, take, length}
use Rattle.std.proofs.Math.Option.{Option, some, none}
use Rattle.rules.specs.declared.Relation.{Relation}
use Rattle.rules.specs.declared.Relation.TheVariants.{Lt, Le, Gt, Ge, Eq, Neq}
use Rattle.grammar.specs.Bytes.{Blank, space, line_feed, Blanks}
use Rattle.grammar.specs.Grammar.{Word, word, Next, next, items, Atom, atom_of, Integer, Value, Additive, Multiplicative, Sum, Product, Unary, Leaf, Item, Items, Sentence, Text, text}
use Rattle.grammar.specs.Grammar as tree
use Rattle.grammar.specs.Errors.{most}

-- ---- classes of bytes

pub data Class : Type 0 where
  blank : Blank → Class
  digit : ℕ → Class
  capital : ℕ → Class
  lower : ℕ → Class
  opening : Class
  closing : Class
  times : Class
  plus : Class
  comma : Class
  minus : Class
  stop : Class
  colon : Class
  less : Class
  equals : Class
  greater : Class
  bang : Class
  other : Class

abbrev pub within : ℕ → ℕ → ℕ → Bool
within low high b = leb low b && leb b high

unfoldable pub class_of : ℕ → Class
class_of b =
    cond (eqb b 32) (blank space) (cond (eqb b 10) (blank line_feed) (
    cond (within 48 57 b) (digit b) (cond (within 65 90 b) (capital b) (cond (within 97 122 b) (lower b) (
    cond (eqb b 40) opening (cond (eqb b 41) closing (cond (eqb b 42) times (cond (eqb b 43) plus (cond (eqb b 44) comma (
    cond (eqb b 45) minus (cond (eqb b 46) stop (cond (eqb b 58) colon (cond (eqb b 60) less (cond (eqb b 61) equals (
    cond (eqb b 62) greater (cond (eqb b 33) bang other))))))))))))))))

abbrev pub and_then : {A B : Type 0} → Option A → (A → Option B) → Option B
and_then none f = none
and_then (some a) f = f a

-- ---- words

abbrev pub blank_behind : Word → Blank → Word
blank_behind w x = word w.bytes (w.blanks ++ (x ∷ []))

-- one byte more, if no blank stands behind the word
abbrev pub longer : Word → ℕ → Option Word
longer w b = elim w.blanks [ [] ↦ some (word (w.bytes ++ (b ∷ [])) []) | (x ∷ l) ↦ none ]

-- "to 64 in all"
abbrev pub name_longer : Word → ℕ → Option Word
name_longer w b = cond (ltb (length w.bytes) 64) (longer w b) none

abbrev pub one_byte : ℕ → Word
one_byte b = word (b ∷ []) []

-- ---- expressions: what stands before an operand, and the operand once it has begun

pub record SumLeft : Type 0 where
  pub left : Sum
  pub operator : Additive
  pub blanks : Blanks

pub record ProductLeft : Type 0 where
  pub left : Product
  pub operator : Multiplicative
  pub blanks : Blanks

pub record Level : Type 0 where
  pub sum : Option SumLeft
  pub product : Option ProductLeft
  -- the blanks behind each, the innermost first
  pub minuses : List Blanks

abbrev pub level : Option SumLeft → Option ProductLeft → List Blanks → Level
level s p m = record { sum = s; product = p; minuses = m }

abbrev pub empty_level : Level
empty_level = level none none []

-- an open bracket: what stands before it, and the blanks behind it
pub record Open : Type 0 where
  pub before : Level
  pub blanks : Blanks

abbrev pub open_of : Level → Blanks → Open
open_of l b = record { before = l; blanks = b }

pub record Part : Type 0 where
  -- before the whole expression
  pub start : Blanks
  -- the innermost first
  pub brackets : List Open
  pub level : Level
  pub operand : Option Leaf

abbrev pub part : Blanks → List Open → Level → Option Leaf → Part
part s o l x = record { start = s; brackets = o; level = l; operand = x }

abbrev pub begun : Part
begun = part [] [] empty_level none

abbrev pub negated : List Blanks → Unary → Unary
negated [] u = u
negated (b ∷ m) u = negated m (tree.minus b u)

abbrev pub unary_of : Level → Leaf → Unary
unary_of l x = negated l.minuses (tree.leaf x)

abbrev pub product_with : Option ProductLeft → Unary → Product
product_with none u = tree.unary u
product_with (some p) u = tree.multiplied p.left p.operator p.blanks u

abbrev pub product_of : Level → Leaf → Product
product_of l x = product_with l.product (unary_of l x)

abbrev pub sum_with : Option SumLeft → Product → Sum
sum_with none p = tree.product p
sum_with (some s) p = tree.added s.left s.operator s.blanks p

abbrev pub sum_of : Level → Leaf → Sum
sum_of l x = sum_with l.sum (product_of l x)

-- one blank more behind the token that was read last, where an operand is awaited
abbrev pub blank_at : Blank → Blanks → List Open → Option SumLeft → Option ProductLeft → List Blanks → Part
blank_at x st o s p (b ∷ m) = part st o (level s p ((b ++ (x ∷ [])) ∷ m)) none
blank_at x st o s (some p) [] = part st o (level s (some (record p { blanks = p.blanks ++ (x ∷ []) })) []) none
blank_at x st o (some s) none [] = part st o (level (some (record s { blanks = s.blanks ++ (x ∷ []) })) none []) none
blank_at x st (b ∷ o) none none [] = part st (open_of b.before (b.blanks ++ (x ∷ [])) ∷ o) empty_level none
blank_at x st [] none none [] = part (st ++ (x ∷ [])) [] empty_level none

abbrev pub leaf_blank : Leaf → Blank → Leaf
leaf_blank (tree.integer w) x = tree.integer (blank_behind w x)
leaf_blank (tree.name w) x = tree.name (blank_behind w x)
leaf_blank (tree.variable w) x = tree.variable (blank_behind w x)
leaf_blank (tree.brackets b s c) x = tree.brackets b s (c ++ (x ∷ []))

abbrev pub leaf_digit : Leaf → ℕ → Option Leaf
leaf_digit (tree.integer w) b = and_then (longer w b) (λ v. some (tree.integer v))
leaf_digit (tree.name w) b = and_then (name_longer w b) (λ v. some (tree.name v))
leaf_digit (tree.variable w) b = and_then (name_longer w b) (λ v. some (tree.variable v))
leaf_digit (tree.brackets c s d) b = none

abbrev pub leaf_letter : Leaf → ℕ → Option Leaf
leaf_letter (tree.integer w) b = none
leaf_letter (tree.name w) b = and_then (name_longer w b) (λ v. some (tree.name v))
leaf_letter (tree.variable w) b = and_then (name_longer w b) (λ v. some (tree.variable v))
leaf_letter (tree.brackets c s d) b = none

abbrev pub with_leaf : Part → Option Leaf → Option Part
with_leaf z l = and_then l (λ x. some (part z.start z.brackets z.level (some x)))

abbrev pub after_additive : Part → Leaf → Additive → Option Part
after_additive z x op = some (part z.start z.brackets (level (some (record { left = sum_of z.level x; operator = op; blanks = [] })) none []) none)

abbrev pub after_multiplicative : Part → Leaf → Multiplicative → Option Part
after_multiplicative z x op = some (part z.start z.brackets (level z.level.sum (some (record { left = product_of z.level x; operator = op; blanks = [] })) []) none)

abbrev pub after_bracket : Part → Leaf → List Open → Option Part
after_bracket z x [] = none
after_bracket z x (o ∷ l) = some (part z.start l o.before (some (tree.brackets o.blanks (sum_of z.level x) [])))

-- an operand is awaited
abbrev pub awaited_step : Part → Class → Option Part
awaited_step z (blank x) = some (blank_at x z.start z.brackets z.level.sum z.level.product z.level.minuses)
awaited_step z (digit b) = with_leaf z (some (tree.integer (one_byte b)))
awaited_step z (lower b) = with_leaf z (some (tree.name (one_byte b)))
awaited_step z (capital b) = with_leaf z (some (tree.variable (one_byte b)))
awaited_step z minus = some (part z.start z.brackets (level z.level.sum z.level.product ([] ∷ z.level.minuses)) none)
awaited_step z opening = some (part z.start (open_of z.level [] ∷ z.brackets) empty_level none)
awaited_step z c = none

-- an operand stands
abbrev pub standing_step : Part → Leaf → Class → Option Part
standing_step z x (blank b) = with_leaf z (some (leaf_blank x b))
standing_step z x (digit b) = with_leaf z (leaf_digit x b)
standing_step z x (lower b) = with_leaf z (leaf_letter x b)
standing_step z x (capital b) = with_leaf z (leaf_letter x b)
standing_step z x plus = after_additive z x tree.plus
standing_step z x minus = after_additive z x tree.less
standing_step z x times = after_multiplicative z x tree.times
standing_step z x closing = after_bracket z x z.brackets
standing_step z x c = none

abbrev pub part_step : Part → Class → Option Part
part_step z c = elim z.operand [ none ↦ awaited_step z c | some x ↦ standing_step z x c ]

-- the expression, if it may end here
abbrev pub whole_at : Level → List Open → Option Leaf → Option Sum
whole_at l [] (some x) = some (sum_of l x)
whole_at l [] none = none
whole_at l (o ∷ os) x = none

abbrev pub whole : Part → Option Sum
whole z = whole_at z.level z.brackets z.operand

-- ---- the arguments of an atom: those before, each with the blanks before it, and the last

abbrev pub atom_with : {A : Type 0} → Word → List (Next A) → Next A → Atom A
atom_with p [] n = atom_of p n.blanks (items n.item []) []
atom_with p (m ∷ l) n = atom_of p m.blanks (items m.item (l ++ (n ∷ []))) []

abbrev pub atom_blank : {A : Type 0} → Atom A → Blank → Atom A
atom_blank a x = atom_of a.predicate a.before a.arguments (a.behind ++ (x ∷ []))

-- ---- a fact

pub data ValuePart : Type 0 where
  -- before the argument, and between its tokens: which token was read last
  awaited : ValuePart
  signed : Blanks → ValuePart
  number : Integer → ValuePart
  named : Word → ValuePart
  one_dot : Integer → ValuePart
  two_dots : Integer → Blanks → ValuePart
  second_signed : Integer → Blanks → Blanks → ValuePart
  second : Integer → Blanks → Integer → ValuePart

abbrev pub integer_blank : Integer → Blank → Integer
integer_blank (tree.plain w) x = tree.plain (blank_behind w x)
integer_blank (tree.negative b w) x = tree.negative b (blank_behind w x)

abbrev pub integer_digit : Integer → ℕ → Option Integer
integer_digit (tree.plain w) b = and_then (longer w b) (λ v. some (tree.plain v))
integer_digit (tree.negative c w) b = and_then (longer w b) (λ v. some (tree.negative c v))

abbrev pub value_of : ValuePart → Option Value
value_of (number z) = some (tree.integer z)
value_of (named w) = some (tree.name w)
value_of (second z b y) = some (tree.range z b y)
value_of v = none

pub data FactState : Type 0 where
  predicate : Word → FactState
  -- the predicate, the arguments before, the blanks before this one, and what there is of it
  argument : Word → List (Next Value) → Blanks → ValuePart → FactState
  closed : Atom Value → FactState
  ended : Sentence → FactState

abbrev pub value_step : ValuePart → Class → Option ValuePart
value_step awaited (digit b) = some (number (tree.plain (one_byte b)))
value_step awaited (lower b) = some (named (one_byte b))
value_step awaited minus = some (signed [])
value_step (signed l) (blank x) = some (signed (l ++ (x ∷ [])))
value_step (signed l) (digit b) = some (number (tree.negative l (one_byte b)))
value_step (number z) (blank x) = some (number (integer_blank z x))
value_step (number z) (digit b) = and_then (integer_digit z b) (λ y. some (number y))
value_step (number z) stop = some (one_dot z)
value_step (named w) (blank x) = some (named (blank_behind w x))
value_step (named w) (digit b) = and_then (name_longer w b) (λ v. some (named v))
value_step (named w) (lower b) = and_then (name_longer w b) (λ v. some (named v))
value_step (named w) (capital b) = and_then (name_longer w b) (λ v. some (named v))
value_step (one_dot z) stop = some (two_dots z [])
value_step (two_dots z l) (blank x) = some (two_dots z (l ++ (x ∷ [])))
value_step (two_dots z l) (digit b) = some (second z l (tree.plain (one_byte b)))
value_step (two_dots z l) minus = some (second_signed z l [])
value_step (second_signed z l m) (blank x) = some (second_signed z l (m ++ (x ∷ [])))
value_step (second_signed z l m) (digit b) = some (second z l (tree.negative m (one_byte b)))
value_step (second z l y) (blank x) = some (second z l (integer_blank y x))
value_step (second z l y) (digit b) = and_then (integer_digit y b) (λ v. some (second z l v))
value_step v c = none

abbrev pub fact_argument : Word → List (Next Value) → Blanks → ValuePart → Class → Option FactState
fact_argument p l s awaited (blank x) = some (argument p l (s ++ (x ∷ [])) awaited)
fact_argument p l s v comma = and_then (value_of v) (λ a. some (argument p (l ++ (next s a ∷ [])) [] awaited))
fact_argument p l s v closing = and_then (value_of v) (λ a. some (closed (atom_with p l (next s a))))
fact_argument p l s v c = and_then (value_step v c) (λ w. some (argument p l s w))

abbrev pub fact_predicate : Word → Class → Option FactState
fact_predicate w (blank x) = some (predicate (blank_behind w x))
fact_predicate w (digit b) = and_then (name_longer w b) (λ v. some (predicate v))
fact_predicate w (lower b) = and_then (name_longer w b) (λ v. some (predicate v))
fact_predicate w (capital b) = and_then (name_longer w b) (λ v. some (predicate v))
fact_predicate w opening = some (argument w [] [] awaited)
fact_predicate w c = none

abbrev pub fact_closed : Atom Value → Class → Option FactState
fact_closed a (blank x) = some (closed (atom_blank a x))
fact_closed a stop = some (ended (tree.fact a []))
fact_closed a c = none

abbrev pub fact_step : FactState → Class → Option FactState
fact_step (predicate w) c = fact_predicate w c
fact_step (argument p l s v) c = fact_argument p l s v c
fact_step (closed a) c = fact_closed a c
fact_step (ended s) c = none

-- ---- an item of a body

pub data ItemPart : Type 0 where
  left : Part → ItemPart
  -- `!` of `!=`
  not_yet : Blanks → Sum → ItemPart
  -- the blanks before the item, its left side, the relation, and what there is of the right side, with the blanks behind the relation
  right : Blanks → Sum → Relation → Part → ItemPart
  -- the blanks before the item, its predicate, the variables before, the blanks before this one
  variable_awaited : Blanks → Word → List (Next Word) → Blanks → ItemPart
  variable_standing : Blanks → Word → List (Next Word) → Blanks → Word → ItemPart
  atom_read : Blanks → Atom Word → ItemPart

abbrev pub against : Part → Relation → Option ItemPart
against z r = and_then (whole z) (λ s. some (right z.start s r begun))

-- an item that begins with a name and `(` is an atom
abbrev pub atom_at : Part → List Open → Option SumLeft → Option ProductLeft → List Blanks → Option Leaf → Option ItemPart
atom_at z [] none none [] (some (tree.name w)) = some (variable_awaited z.start w [] [])
atom_at z o s p m x = and_then (part_step z opening) (λ y. some (left y))

abbrev pub left_step : Part → Class → Option ItemPart
left_step z less = against z Lt
left_step z greater = against z Gt
left_step z equals = against z Eq
left_step z bang = and_then (whole z) (λ s. some (not_yet z.start s))
left_step z opening = atom_at z z.brackets z.level.sum z.level.product z.level.minuses z.operand
left_step z c = and_then (part_step z c) (λ y. some (left y))

-- `<` and `>` go on with `=` if it is the next byte
abbrev pub or_equal : Relation → Option Relation
or_equal Lt = some Le
or_equal Gt = some Ge
or_equal r = none

abbrev pub nothing_read : Blanks → List Open → Option SumLeft → Option ProductLeft → List Blanks → Option Leaf → Bool
nothing_read [] [] none none [] none = true
nothing_read b o s p m x = false

abbrev pub right_step : Blanks → Sum → Relation → Part → Class → Option ItemPart
right_step b s r z equals = cond (nothing_read z.start z.brackets z.level.sum z.level.product z.level.minuses z.operand) (and_then (or_equal r) (λ q. some (right b s q begun))) none
right_step b s r z c = and_then (part_step z c) (λ y. some (right b s r y))

abbrev pub variable_step : Blanks → Word → List (Next Word) → Blanks → Word → Class → Option ItemPart
variable_step b p l s w (blank x) = some (variable_standing b p l s (blank_behind w x))
variable_step b p l s w (digit d) = and_then (name_longer w d) (λ v. some (variable_standing b p l s v))
variable_step b p l s w (lower d) = and_then (name_longer w d) (λ v. some (variable_standing b p l s v))
variable_step b p l s w (capital d) = and_then (name_longer w d) (λ v. some (variable_standing b p l s v))
variable_step b p l s w comma = some (variable_awaited b p (l ++ (next s w ∷ [])) [])
variable_step b p l s w closing = some (atom_read b (atom_with p l (next s w)))
variable_step b p l s w c = none

abbrev pub item_step : ItemPart → Class → Option ItemPart
item_step (left z) c = left_step z c
item_step (not_yet b s) equals = some (right b s Neq begun)
item_step (not_yet b s) c = none
item_step (right b s r z) c = right_step b s r z c
item_step (variable_awaited b p l s) (blank x) = some (variable_awaited b p l (s ++ (x ∷ [])))
item_step (variable_awaited b p l s) (capital d) = some (variable_standing b p l s (one_byte d))
item_step (variable_awaited b p l s) c = none
item_step (variable_standing b p l s w) c = variable_step b p l s w c
item_step (atom_read b a) (blank x) = some (atom_read b (atom_blank a x))
item_step (atom_read b a) c = none

-- the item, if it may end here, with the blanks before it
abbrev pub item_of : ItemPart → Option (Next Item)
item_of (right b s r z) = and_then (whole z) (λ t. some (next b (tree.comparison s r z.start t)))
item_of (atom_read b a) = some (next b (tree.atom a))
item_of i = none

-- ---- a rule

pub data RuleState : Type 0 where
  predicate : Word → RuleState
  argument : Word → List (Next Sum) → Part → RuleState
  closed : Atom Sum → RuleState
  -- the first byte of `:-`
  half : Atom Sum → RuleState
  body : Atom Sum → List (Next Item) → ItemPart → RuleState
  ended : Sentence → RuleState

abbrev pub rule_with : Atom Sum → List (Next Item) → Next Item → Sentence
rule_with h [] n = tree.rule h n.blanks (items n.item []) []
rule_with h (m ∷ l) n = tree.rule h m.blanks (items m.item (l ++ (n ∷ []))) []

abbrev pub rule_predicate : Word → Class → Option RuleState
rule_predicate w (blank x) = some (predicate (blank_behind w x))
rule_predicate w (digit b) = and_then (name_longer w b) (λ v. some (predicate v))
rule_predicate w (lower b) = and_then (name_longer w b) (λ v. some (predicate v))
rule_predicate w (capital b) = and_then (name_longer w b) (λ v. some (predicate v))
rule_predicate w opening = some (argument w [] begun)
rule_predicate w c = none

-- `)` closes the expression's innermost bracket, or where it has none the atom's
abbrev pub head_closed : Word → List (Next Sum) → Part → Option Sum → Option RuleState
head_closed p l z (some s) = some (closed (atom_with p l (next z.start s)))
head_closed p l z none = and_then (part_step z closing) (λ y. some (argument p l y))

abbrev pub rule_argument : Word → List (Next Sum) → Part → Class → Option RuleState
rule_argument p l z comma = and_then (whole z) (λ s. some (argument p (l ++ (next z.start s ∷ [])) begun))
rule_argument p l z closing = head_closed p l z (whole z)
rule_argument p l z c = and_then (part_step z c) (λ y. some (argument p l y))

abbrev pub rule_closed : Atom Sum → Class → Option RuleState
rule_closed a (blank x) = some (closed (atom_blank a x))
rule_closed a colon = some (half a)
rule_closed a c = none

abbrev pub rule_half : Atom Sum → Class → Option RuleState
rule_half a minus = some (body a [] (left begun))
rule_half a c = none

-- a comma in an atom parts its variables
abbrev pub body_comma : Atom Sum → List (Next Item) → ItemPart → Option (Next Item) → Option RuleState
body_comma h l i (some n) = some (body h (l ++ (n ∷ [])) (left begun))
body_comma h l i none = and_then (item_step i comma) (λ j. some (body h l j))

abbrev pub rule_body : Atom Sum → List (Next Item) → ItemPart → Class → Option RuleState
rule_body h l i comma = body_comma h l i (item_of i)
rule_body h l i stop = and_then (item_of i) (λ n. some (ended (rule_with h l n)))
rule_body h l i c = and_then (item_step i c) (λ j. some (body h l j))

abbrev pub rule_step : RuleState → Class → Option RuleState
rule_step (predicate w) c = rule_predicate w c
rule_step (argument p l z) c = rule_argument p l z c
rule_step (closed a) c = rule_closed a c
rule_step (half a) c = rule_half a c
rule_step (body h l i) c = rule_body h l i c
rule_step (ended s) c = none

-- ---- a text: a sentence is read as a fact and as a rule, until one of the two is dead

pub data Now : Type 0 where
  start : Now
  -- with the blanks behind its full stop
  behind : Sentence → Now
  inside : Option FactState → Option RuleState → Now

pub record State : Type 0 where
  pub blanks : Blanks
  pub sentences : List Sentence
  pub now : Now

abbrev pub state : Blanks → List Sentence → Now → State
state b l n = record { blanks = b; sentences = l; now = n }

abbrev pub sentence_blank : Sentence → Blank → Sentence
sentence_blank (tree.fact a b) x = tree.fact a (b ++ (x ∷ []))
sentence_blank (tree.rule a b l c) x = tree.rule a b l (c ++ (x ∷ []))

abbrev pub either : Option FactState → Option RuleState → Option Now
either (some (ended s)) r = some (behind s)
either f (some (ended s)) = some (behind s)
either none none = none
either f r = some (inside f r)

abbrev pub sentence_begun : ℕ → Now
sentence_begun b = inside (some (predicate (one_byte b))) (some (predicate (one_byte b)))

abbrev pub class_step : Blanks → List Sentence → Now → Class → Option State
class_step t l start (blank x) = some (state (t ++ (x ∷ [])) l start)
class_step t l start (lower b) = some (state t l (sentence_begun b))
class_step t l start c = none
class_step t l (behind s) (blank x) = some (state t l (behind (sentence_blank s x)))
class_step t l (behind s) (lower b) = some (state t (l ++ (s ∷ [])) (sentence_begun b))
class_step t l (behind s) c = none
class_step t l (inside f r) c = and_then (either (and_then f (λ g. fact_step g c)) (and_then r (λ q. rule_step q c))) (λ n. some (state t l n))

unfoldable pub step : State → ℕ → Option State
step z b = class_step z.blanks z.sentences z.now (class_of b)

unfoldable pub run : State → List ℕ → Option State
run z [] = some z
run z (b ∷ s) = and_then (step z b) (λ y. run y s)

abbrev pub beginning : State
beginning = state [] [] start

-- the text, if it may end here
abbrev pub text_at : Blanks → List Sentence → Now → Option Text
text_at t l start = some (text t l)
text_at t l (behind s) = some (text t (l ++ (s ∷ [])))
text_at t l (inside f r) = none

abbrev pub text_of : State → Option Text
text_of z = text_at z.blanks z.sentences z.now

unfoldable pub read : List ℕ → Option Text
read s = and_then (run beginning s) text_of

-- how many bytes are read before it is dead
unfoldable pub lives : State → List ℕ → ℕ
lives z [] = 0
lives z (b ∷ s) = elim (step z b) [ none ↦ 0 | some y ↦ suc (lives y s) ]

-- where a file is turned down: where it is dead, or 8,192 if a longer file has no such place before, or where it breaks off
abbrev pub place_where : ℕ → List ℕ → Option ℕ
place_where i s = cond (ltb i (length s) && ltb i most) (some i) (cond (ltb most (length s)) (some most) (elim (read s) [ none ↦ some (length s) | some t ↦ none ]))

abbrev pub turned_down : List ℕ → Option ℕ
turned_down s = place_where (lives beginning s) s

-- the bytes before the place where it is turned down, or all
abbrev pub before_place : List ℕ → Option ℕ → List ℕ
before_place s none = s
before_place s (some i) = take i s

abbrev pub read_before : List ℕ → List ℕ
read_before s = before_place s (turned_down s)
