-- One firing of the plain run: 01, "The plain run over a store", whose sentences are quoted. Rules are fired on single values; nothing here knows of
-- a store or of its tables.
use Rattle.std.specs.Prelude.{ℕ, ◌≡◌, Bool, true, false, cond, ◌⊎◌, List, [], ◌∷◌, ℤ, pos, negsuc, neg_ℤ, ◌+ℤ◌, ◌-ℤ◌, ◌*ℤ◌}
use Rattle.std.proofs.Math.Option.{Option, some, none}
use Rattle.integers.specs.Order.{Number, Between, number?}
use Rattle.std.specs.declared.cmp.Ordering.TheVariants.{Less, Equal, Greater}
use Rattle.keys.specs.Key.{Key, number, name, compare_keys}
use Rattle.nodes.specs.declared.UnaryOp.{UnaryOp}
use Rattle.nodes.specs.declared.UnaryOp.TheVariants.{Negate, BitwiseNot}
use Rattle.nodes.specs.declared.BinaryOp.{BinaryOp}
use Rattle.nodes.specs.declared.BinaryOp.TheVariants.{Add, Sub, Mul, Div, Mod, Pow, BitAnd, BitOr, BitXor}
use Rattle.rules.specs.declared.AggregateFunction.{AggregateFunction}
use Rattle.rules.specs.declared.AggregateFunction.TheVariants.{Count, Sum, SumPlus, Min, Max}
use Rattle.rules.specs.declared.Relation.{Relation}
use Rattle.rules.specs.declared.Relation.TheVariants.{Lt, Le, Gt, Ge, Eq, Neq}

-- ---- "A value is a key of the reader; a constant is its key." "A number here has 32 signed bits."

abbrev pub ProperKey : Key → Type 0
ProperKey (number z) = Number z
ProperKey (name s) = Unit {0}

-- ---- what an expression's id stands for

pub data Tree : Type 0 where
  -- an id that no accepted call answered
  nothing : Tree
  constant : Key → Tree
  slot : ℕ → Tree
  unary : UnaryOp → Tree → Tree
  absolute : Tree → Tree
  binary : BinaryOp → Tree → Tree → Tree
  -- any number, or any value
  unknown : Bool → Tree

-- "Power, the bit operations and other unary operators are one fixed partial function each from numbers to a number, and demand 3 holds
-- whichever functions these are." Division and remainder are among them as long as no call accepts them.
pub record Opaque : Type 0 where
  pub one : UnaryOp → ℤ → Option ℤ
  pub two : BinaryOp → ℤ → ℤ → Option ℤ

-- "Unknown any number (or any value if not integer) at each occurrence": an occurrence is named by the way to it
abbrev pub Choice : Type 0
Choice = List ℕ → Key

abbrev pub into : ℕ → Choice → Choice
into k ch path = ch (k ∷ path)

-- a name is no choice of a number
abbrev pub chosen : Bool → Key → Option Key
chosen true (number z) = some (number z)
chosen true (name s) = none
chosen false k = some k

-- ---- the value of a tree, if it has one

-- "no value outside 32 bits"
abbrev pub fitting : Option ℤ → Option Key
fitting none = none
fitting (some z) = cond (number? z) (some (number z)) none

-- "Every other operation needs numbers."
abbrev pub on_number : (ℤ → Option ℤ) → Option Key → Option Key
on_number f none = none
on_number f (some (name s)) = none
on_number f (some (number a)) = fitting (f a)

abbrev pub on_numbers : (ℤ → ℤ → Option ℤ) → Option Key → Option Key → Option Key
on_numbers f none y = none
on_numbers f (some (name s)) y = none
on_numbers f (some (number a)) y = on_number (f a) y

abbrev pub magnitude : ℤ → ℤ
magnitude (pos n) = pos n
magnitude (negsuc n) = neg_ℤ (negsuc n)

-- "Sum, difference, product, negation and absolute value are exact"
abbrev pub apply_one : Opaque → UnaryOp → ℤ → Option ℤ
apply_one o Negate a = some (neg_ℤ a)
apply_one o BitwiseNot a = o.one BitwiseNot a

abbrev pub apply_two : Opaque → BinaryOp → ℤ → ℤ → Option ℤ
apply_two o Add a b = some (a +ℤ b)
apply_two o Sub a b = some (a -ℤ b)
apply_two o Mul a b = some (a *ℤ b)
apply_two o Div a b = o.two Div a b
apply_two o Mod a b = o.two Mod a b
apply_two o Pow a b = o.two Pow a b
apply_two o BitAnd a b = o.two BitAnd a b
apply_two o BitOr a b = o.two BitOr a b
apply_two o BitXor a b = o.two BitXor a b

-- the value that a tree has in a firing, with x the value of each slot and ch that of each other choice
unfoldable pub worth : Opaque → (ℕ → Key) → Choice → Tree → Option Key
worth o x ch nothing = none
worth o x ch (constant k) = some k
worth o x ch (slot s) = some (x s)
worth o x ch (unary op e) = on_number (apply_one o op) (worth o x (into 0 ch) e)
worth o x ch (absolute e) = on_number (λ a. some (magnitude a)) (worth o x (into 0 ch) e)
worth o x ch (binary op l r) = on_numbers (apply_two o op) (worth o x (into 0 ch) l) (worth o x (into 1 ch) r)
worth o x ch (unknown integer) = chosen integer (ch [])

-- ---- rules, with trees for the ids that they name

pub data PlainBinding : Type 0 where
  positive : ℕ → ℕ → PlainBinding
  assign : ℕ → Tree → PlainBinding
  range : ℕ → Tree → Tree → PlainBinding
  aggregate : ℕ → AggregateFunction → PlainBinding

pub data PlainGuard : Type 0 where
  compare : Tree → Relation → Tree → PlainGuard
  member : ℕ → Tree → Tree → PlainGuard

pub record PlainHead : Type 0 where
  pub argument : ℕ
  pub value : Tree

-- ---- what holds

-- "The state is a set of values for each argument"
abbrev pub PlainState : Type 1
PlainState = ℕ → Key → Type 0

-- "Comparisons go by the reader's order."
abbrev pub Related : Relation → Key → Key → Type 0
Related Lt a b = compare_keys a b ≡ Less
Related Le a b = compare_keys a b ≡ Greater → ⊥
Related Gt a b = compare_keys a b ≡ Greater
Related Ge a b = compare_keys a b ≡ Less → ⊥
Related Eq a b = compare_keys a b ≡ Equal
Related Neq a b = compare_keys a b ≡ Equal → ⊥

-- "both its ends are numbers and its slot has a number from the low one to the high one"
pub record Within (a b : Option Key) (k : Key) : Type 0 where
  pub from : ℤ
  pub to : ℤ
  pub at : ℤ
  pub low : a ≡ some (number from)
  pub high : b ≡ some (number to)
  pub is : k ≡ number at
  pub between : Between from to at

-- "counts and sums any number, minimum and maximum aggregates any value"
abbrev pub Aggregated : AggregateFunction → Key → Type 0
Aggregated Count k = (z : ℤ) × (k ≡ number z)
Aggregated Sum k = (z : ℤ) × (k ≡ number z)
Aggregated SumPlus k = (z : ℤ) × (k ≡ number z)
Aggregated Min k = Unit {0}
Aggregated Max k = Unit {0}

-- "An assignment or guard with a valueless operand fails"
abbrev pub BindingHolds : Opaque → PlainState → (ℕ → Key) → Choice → PlainBinding → Type 0
BindingHolds o s x ch (positive i argument) = s argument (x i)
BindingHolds o s x ch (assign i e) = worth o x (into 0 ch) e ≡ some (x i)
BindingHolds o s x ch (range i low high) = Within (worth o x (into 0 ch) low) (worth o x (into 1 ch) high) (x i)
BindingHolds o s x ch (aggregate i f) = Aggregated f (x i)

pub record Compared (a b : Option Key) (relation : Relation) : Type 0 where
  pub left : Key
  pub right : Key
  pub is_left : a ≡ some left
  pub is_right : b ≡ some right
  pub related : Related relation left right

abbrev pub GuardHolds : Opaque → (ℕ → Key) → Choice → PlainGuard → Type 0
GuardHolds o x ch (compare left relation right) = Compared (worth o x (into 0 ch) left) (worth o x (into 1 ch) right) relation
GuardHolds o x ch (member i low high) = Within (worth o x (into 0 ch) low) (worth o x (into 1 ch) high) (x i)

-- each of a list with choices of its own
abbrev pub AllHold : {A : Type 0} → (Choice → A → Type 0) → Choice → List A → Type 0
AllHold H ch [] = Unit {0}
AllHold H ch (a ∷ l) = H (into 0 ch) a × AllHold H (into 1 ch) l

-- "one value per slot, and one for each other choice"; numbers among them have 32 bits
pub record Choices : Type 0 where
  pub slots : ℕ → Key
  pub choice : Choice
  pub proper_slots : (s : ℕ) → ProperKey (slots s)
  pub proper_choice : (path : List ℕ) → ProperKey (choice path)

-- "The rule fires when all bindings and guards hold"
pub record Fires (o : Opaque) (s : PlainState) (f : Choices) (bs : List PlainBinding) (gs : List PlainGuard) : Type 0 where
  pub bindings : AllHold (BindingHolds o s f.slots) (into 0 f.choice) bs
  pub guards : AllHold (GuardHolds o f.slots) (into 1 f.choice) gs

-- "Each head with a value adds it."
abbrev pub HeadGives : Opaque → (ℕ → Key) → Choice → PlainHead → ℕ → Key → Type 0
HeadGives o x ch h a k = (h.argument ≡ a) × (worth o x ch h.value ≡ some k)

abbrev pub HeadsGive : Opaque → (ℕ → Key) → Choice → List PlainHead → ℕ → Key → Type 0
HeadsGive o x ch [] a k = ⊥
HeadsGive o x ch (h ∷ l) a k = HeadGives o x (into 0 ch) h a k ⊎ HeadsGive o x (into 1 ch) l a k
