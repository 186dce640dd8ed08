-- A rule's row read back. Whatever the cells hold reads as something: a count is at most what a row has room for, a kind that does not exist
-- reads as the first, and the number of a function or a relation that does not exist as the last.
use Rattle.std.specs.Prelude.{ℕ, min, ◌+◌, ◌*◌, cond, List, [], ◌∷◌, eqb, get_or}
use Rattle.sizes.specs.Sizes as size
use Rattle.integers.specs.Lists.{from}
use Rattle.limits.specs.Context.{Context}
use Rattle.std.specs.Prelude.{None, Some}
use Rattle.rules.specs.declared.AggregateFunction.{AggregateFunction}
use Rattle.rules.specs.declared.AggregateFunction.TheVariants.{Count, Sum, SumPlus, Min, Max}
use Rattle.rules.specs.declared.Relation.{Relation}
use Rattle.rules.specs.declared.Relation.TheVariants.{Lt, Le, Gt, Ge, Eq, Neq}
use Rattle.rules.specs.declared.Binding.{Binding}
use Rattle.rules.specs.declared.Binding.TheVariants.{Positive, Assign, Range, Aggregate}
use Rattle.rules.specs.declared.Guard.{Guard}
use Rattle.rules.specs.declared.Guard.TheVariants.{Compare, Membership}
use Rattle.rules.specs.declared.Head.{Head}

-- ---- from cells

abbrev pub function_of : ℕ → AggregateFunction
function_of n = get_or (Count ∷ Sum ∷ SumPlus ∷ Min ∷ []) n Max

abbrev pub relation_of : ℕ → Relation
relation_of n = get_or (Lt ∷ Le ∷ Gt ∷ Ge ∷ Eq ∷ []) n Neq

abbrev pub binding_of : ℕ → ℕ → ℕ → ℕ → Binding
binding_of kind a b c = get_or (Positive a b ∷ Assign a b ∷ Range a b c ∷ Aggregate a (function_of b) ∷ []) kind (Positive a b)

abbrev pub guard_of : ℕ → ℕ → ℕ → ℕ → Guard
guard_of kind a b c = get_or (Compare a (relation_of b) c ∷ Membership a b c ∷ []) kind (Compare a (relation_of b) c)

abbrev pub head_of : ℕ → ℕ → Head
head_of a b = record { argument = a; value = b }

-- the context of a row: mark 0 says that there is none
abbrev pub context_of : ℕ → ℕ → Context
context_of mark number = cond (eqb mark 0) None (Some number)

-- ---- the row of an id

unfoldable pub slots_at : List ℕ → ℕ → ℕ
slots_at cells id = min (get_or cells (size.rule_row * id) 0) size.slots

unfoldable pub context_at : List ℕ → ℕ → Context
context_at cells id = context_of (get_or cells (size.rule_row * id + size.rule_mark) 0) (get_or cells (size.rule_row * id + size.rule_context) 0)

unfoldable pub binding_count : List ℕ → ℕ → ℕ
binding_count cells id = min (get_or cells (size.rule_row * id + size.rule_binding_count) 0) size.bindings

unfoldable pub guard_count : List ℕ → ℕ → ℕ
guard_count cells id = min (get_or cells (size.rule_row * id + size.rule_guard_count) 0) size.guards

unfoldable pub head_count : List ℕ → ℕ → ℕ
head_count cells id = min (get_or cells (size.rule_row * id + size.rule_head_count) 0) size.heads

-- the j-th binding, guard and head; one beyond its count is what stands there
abbrev pub binding_from : List ℕ → ℕ → Binding
binding_from cells at = binding_of (get_or cells at 0) (get_or cells (at + 1) 0) (get_or cells (at + 2) 0) (get_or cells (at + 3) 0)

abbrev pub guard_from : List ℕ → ℕ → Guard
guard_from cells at = guard_of (get_or cells at 0) (get_or cells (at + 1) 0) (get_or cells (at + 2) 0) (get_or cells (at + 3) 0)

abbrev pub head_from : List ℕ → ℕ → Head
head_from cells at = head_of (get_or cells at 0) (get_or cells (at + 1) 0)

unfoldable pub binding_at : List ℕ → ℕ → ℕ → Binding
binding_at cells id j = binding_from cells (size.rule_row * id + size.rule_bindings + 4 * j)

unfoldable pub guard_at : List ℕ → ℕ → ℕ → Guard
guard_at cells id j = guard_from cells (size.rule_row * id + size.rule_guards + 4 * j)

unfoldable pub head_at : List ℕ → ℕ → ℕ → Head
head_at cells id j = head_from cells (size.rule_row * id + size.rule_heads + 2 * j)

-- the bindings, guards and heads of a row, as many as its lengths say
abbrev pub bindings_at : List ℕ → ℕ → List Binding
bindings_at cells id = from (binding_at cells id) 0 (binding_count cells id)

abbrev pub guards_at : List ℕ → ℕ → List Guard
guards_at cells id = from (guard_at cells id) 0 (guard_count cells id)

abbrev pub heads_at : List ℕ → ℕ → List Head
heads_at cells id = from (head_at cells id) 0 (head_count cells id)
