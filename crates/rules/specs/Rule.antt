-- A rule as a row of cells in a lent table: its slots, its context and how many bindings, guards and heads it has, then these.
use Rattle.std.specs.Prelude.{ℕ, ◌+◌, ◌*◌, ◌%◌, ◌^◌, List, [], ◌∷◌, ◌++◌, map, take}
use Rattle.sizes.specs.Sizes as size
use Rattle.std.proofs.lemmas.List.Edits.{sets}
use Rattle.limits.specs.Context.{Context}
use Rattle.std.specs.Prelude.{None, Some}
use Rattle.rules.specs.declared.AggregateFunction.{AggregateFunction}
use Rattle.rules.specs.declared.AggregateFunction.TheVariants.{Count, Sum, SumPlus, Min, Max}
use Rattle.rules.specs.declared.Relation.{Relation}
use Rattle.rules.specs.declared.Relation.TheVariants.{Lt, Le, Gt, Ge, Eq, Neq}
use Rattle.rules.specs.declared.Binding.{Binding}
use Rattle.rules.specs.declared.Binding.TheVariants.{Positive, Assign, Range, Aggregate}
use Rattle.rules.specs.declared.Guard.{Guard}
use Rattle.rules.specs.declared.Guard.TheVariants.{Compare, Membership}
use Rattle.rules.specs.declared.Head.{Head}
use Rattle.rules.specs.declared.Rule.{Rule}

-- the numbers that the job format has
abbrev pub function_number : AggregateFunction → ℕ
function_number Count = 0
function_number Sum = 1
function_number SumPlus = 2
function_number Min = 3
function_number Max = 4

abbrev pub relation_number : Relation → ℕ
relation_number Lt = 0
relation_number Le = 1
relation_number Gt = 2
relation_number Ge = 3
relation_number Eq = 4
relation_number Neq = 5

-- ---- what a rule has: the first of each array, as many as its lengths say

abbrev pub bindings_of : Rule → List Binding
bindings_of r = take r.lengths.bindings r.bindings

abbrev pub guards_of : Rule → List Guard
guards_of r = take r.lengths.guards r.guards

abbrev pub heads_of : Rule → List Head
heads_of r = take r.lengths.heads r.heads

-- ---- its cells

abbrev pub binding_cells : Binding → List ℕ
binding_cells (Positive slot argument) = 0 ∷ slot ∷ argument ∷ 0 ∷ []
binding_cells (Assign slot value) = 1 ∷ slot ∷ value ∷ 0 ∷ []
binding_cells (Range slot low high) = 2 ∷ slot ∷ low ∷ high ∷ []
binding_cells (Aggregate slot function) = 3 ∷ slot ∷ function_number function ∷ 0 ∷ []

abbrev pub guard_cells : Guard → List ℕ
guard_cells (Compare left relation right) = 0 ∷ left ∷ relation_number relation ∷ right ∷ []
guard_cells (Membership slot low high) = 1 ∷ slot ∷ low ∷ high ∷ []

abbrev pub head_cells : Head → List ℕ
head_cells h = h.argument ∷ h.value ∷ []

-- whether a context is in force, and which
abbrev pub context_mark : Context → ℕ
context_mark None = 0
context_mark (Some c) = 1

abbrev pub context_number : Context → ℕ
context_number None = 0
context_number (Some c) = c

-- the cells of each item of a list, one item behind the other
unfoldable pub flat : {A : Type 0} → (A → List ℕ) → List A → List ℕ
flat f [] = []
flat f (a ∷ l) = f a ++ flat f l

-- a cell has 32 bits: all that an accepted rule has fits
abbrev pub cell : ℕ → ℕ
cell n = n % 2 ^ 32

-- ---- a table of rows

abbrev pub fixed_cells : Rule → Context → List ℕ
fixed_cells r c = r.slots ∷ context_mark c ∷ context_number c ∷ r.lengths.bindings ∷ r.lengths.guards ∷ r.lengths.heads ∷ []

-- what stood behind the last binding, guard and head stays
unfoldable pub put_rule : List ℕ → ℕ → Rule → Context → List ℕ
put_rule cells id r c =
    sets
    (sets
    (sets (sets cells (size.rule_row * id) (map cell (fixed_cells r c))) (size.rule_row * id + size.rule_bindings) (map cell (flat binding_cells (bindings_of r))))
    (size.rule_row * id + size.rule_guards)
    (map cell (flat guard_cells (guards_of r))))
    (size.rule_row * id + size.rule_heads)
    (map cell (flat head_cells (heads_of r)))
