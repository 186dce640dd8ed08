-- `Input::rule`, on the header and the lent tables as they stand, with `check_expression`. Checks go in the Rust's order.
use Rattle.std.specs.Prelude.{ℕ, zero, suc, ◌+◌, Bool, ◌&&◌, List, [], ◌∷◌, leb, ltb, eqb, length}
use Rattle.sizes.specs.Sizes as size
use Rattle.limits.specs.declared.Stop.{Stop}
use Rattle.limits.specs.declared.Budget.{Budget}
use Rattle.limits.specs.declared.Refusal.TheVariants.{Closed, Shape, Full, Limit, Missing, MissingSlot}
use Rattle.limits.specs.Refusal.{Told, told}
use Rattle.limits.specs.Metered.{going, Metered, pure, ◌>>◌, zoom, stopping}
use Rattle.limits.specs.declared.Meter.{Meter}
use Rattle.limits.specs.Meter.{meter_of, with_meter}
use Rattle.limits.specs.Meter as inner
use Rattle.limits.specs.Budget.{work, links}
use Rattle.nodes.specs.declared.Expression.{Expression}
use Rattle.nodes.specs.declared.Expression.TheVariants.{Constant, Slot, Unary, Absolute, Binary, Unknown}
use Rattle.nodes.specs.Node.{expression_at}
use Rattle.rules.specs.declared.Binding.{Binding}
use Rattle.rules.specs.declared.Binding.TheVariants.{Positive, Assign, Range, Aggregate}
use Rattle.rules.specs.declared.Guard.{Guard}
use Rattle.rules.specs.declared.Guard.TheVariants.{Compare, Membership}
use Rattle.rules.specs.declared.Head.{Head}
use Rattle.rules.specs.declared.Rule.{Rule}
use Rattle.rules.specs.Rule.{bindings_of, guards_of, heads_of, put_rule}
use Rattle.store.specs.declared.Kind.TheVariants.{Building}
use Rattle.store.specs.declared.Store.{Store}
use Rattle.store.specs.Store.{with_budget, with_rules}
use Rattle.store.specs.Calls.{unless, admitting, billing}
use Rattle.provenance.specs.Provenance.{Records, records, provenance, recordable}

-- ---- the scope of a rule: the expressions that stand, and its slots

pub record Scope : Type 0 where
  pub nodes : List ℕ
  pub expressions : ℕ
  pub slots : ℕ

abbrev pub scope : List ℕ → ℕ → ℕ → Scope
scope n e s = record { nodes = n; expressions = e; slots = s }

-- a unit of work on the meter, its stop told as a refusal of the call
abbrev pub unit : Metered Told Meter (Unit {0})
unit = stopping (λ e. told (Limit e)) (inner.work 1)

-- what is checked of each item of a list, a unit of work before it
unfoldable pub each : {A : Type 0} → (A → Metered Told Meter (Unit {0})) → List A → Metered Told Meter (Unit {0})
each f [] = pure tt
each f (a ∷ l) = unit >> f a >> each f l

abbrev pub slot_in : ℕ → ℕ → Metered Told Meter (Unit {0})
slot_in slots s = unless (λ _. ltb s slots) MissingSlot (pure tt)

-- what a node asks of its children, right child first: 01, "`check_expression` and `known_identity` take the right child first"
abbrev pub check_node : (ℕ → Metered Told Meter (Unit {0})) → ℕ → Expression → Metered Told Meter (Unit {0})
check_node check slots (Constant id) = pure tt
check_node check slots (Slot s) = slot_in slots s
check_node check slots (Unary op e) = check e
check_node check slots (Absolute e) = check e
check_node check slots (Binary op l r) = check r >> check l
check_node check slots (Unknown i w) = pure tt

-- `depth` bounds the descent; children have smaller ids, so that one more than the id is enough
unfoldable pub check_in : ℕ → Scope → ℕ → Metered Told Meter (Unit {0})
check_in zero s id = pure tt
check_in (suc depth) s id = unit >> unless (λ _. ltb id s.expressions) Missing (check_node (check_in depth s) s.slots (expression_at s.nodes id))

unfoldable pub check_expression : Scope → ℕ → Metered Told Meter (Unit {0})
check_expression s id = check_in (suc id) s id

unfoldable pub check_pair : Scope → ℕ → ℕ → Metered Told Meter (Unit {0})
check_pair s first second = check_expression s first >> check_expression s second

-- a binding, where so many arguments stand: its argument or its expressions, then its slot
abbrev pub check_binding : ℕ → Scope → Binding → Metered Told Meter (Unit {0})
check_binding arguments s (Positive slot argument) = unless (λ _. ltb argument arguments) Missing (slot_in s.slots slot)
check_binding arguments s (Assign slot value) = check_expression s value >> slot_in s.slots slot
check_binding arguments s (Range slot low high) = check_pair s low high >> slot_in s.slots slot
check_binding arguments s (Aggregate slot function) = slot_in s.slots slot

abbrev pub check_guard : Scope → Guard → Metered Told Meter (Unit {0})
check_guard s (Compare left relation right) = check_pair s left right
check_guard s (Membership slot low high) = unless (λ _. ltb slot s.slots) MissingSlot (check_pair s low high)

-- ---- heads: each is checked and recorded at once, so that a rule refused later leaves records

abbrev pub checking : {A : Type 0} → Metered Told Meter A → Metered Told Store A
checking = zoom (λ s. meter_of s.budget) (λ m s. with_budget (with_meter m s.budget) s)

abbrev pub in_store : {A : Type 0} → Metered Told Store A → Metered Told Records A
in_store = zoom (λ t. t.header) (λ s t. records s t.table)

unfoldable pub check_value : Scope → ℕ → Metered Told Meter (Unit {0})
check_value s id = unit >> check_expression s id

unfoldable pub check_head : Scope → Head → Metered Told Records (Unit {0})
check_head s h = in_store (checking (check_value s h.value)) >> provenance h.argument

unfoldable pub check_heads : Scope → List Head → Metered Told Records (Unit {0})
check_heads s [] = pure tt
check_heads s (h ∷ l) = check_head s h >> check_heads s l

-- ---- the call

pub record Tables : Type 0 where
  pub header : Store
  pub rules : List ℕ
  pub records : List ℕ

abbrev pub tables : Store → List ℕ → List ℕ → Tables
tables s r p = record { header = s; rules = r; records = p }

abbrev pub in_header : {A : Type 0} → Metered Told Store A → Metered Told Tables A
in_header = zoom (λ t. t.header) (λ s t. tables s t.rules t.records)

abbrev pub in_records : {A : Type 0} → Metered Told Records A → Metered Told Tables A
in_records = zoom (λ t. records t.header t.records) (λ r t. tables r.header t.rules r.table)

-- 01, refusal 1: "an integer query, [..] or a rule over 16 slots, 32 bindings, 32 guards or 16 heads"
abbrev pub shapely : Rule → Bool
shapely r =
    leb r.slots size.slots && (leb r.lengths.bindings size.bindings && (leb r.lengths.guards size.guards && (leb r.lengths.heads size.heads && eqb r.lengths.queries 0)))

abbrev pub sized : ℕ → ℕ → ℕ → Bool
sized nodes rules pairs = eqb nodes size.node_cells && (eqb rules size.rule_cells && eqb pairs size.record_cells)

-- refusal 2; more rows than the tables have meet it as well
abbrev pub spacious : Store → Bool
spacious s =
    ltb s.counts.rules size.rules && (leb s.counts.expressions size.expressions && (leb s.counts.positions size.positions && recordable s.context s.counts.provenance))

-- a unit of work, then one charge for all its links
unfoldable pub cost : Rule → Metered Stop Budget (Unit {0})
cost r = work 1 >> links (r.slots + r.lengths.bindings + r.lengths.guards + r.lengths.heads + 1)

abbrev pub scope_of : List ℕ → Store → Rule → Scope
scope_of n s r = scope n s.counts.expressions r.slots

-- bindings and guards: work is all that they charge
unfoldable pub check_body : ℕ → Scope → Rule → Metered Told Meter (Unit {0})
check_body arguments s r = each (check_binding arguments s) (bindings_of r) >> each (check_guard s) (guards_of r)

abbrev pub add_rule : Rule → Metered Told Tables ℕ
add_rule r t =
    let id = t.header.counts.rules in
    going id (tables (with_rules (id + 1) t.header) (put_rule t.rules id r t.header.context) t.records)

-- the bindings, the guards, the heads
unfoldable pub check_rule : List ℕ → Rule → Metered Told Records (Unit {0})
check_rule nodes r t =
    (in_store (checking (check_body t.header.counts.positions (scope_of nodes t.header r) r)) >> check_heads (scope_of nodes t.header r) (heads_of r)) t

unfoldable pub rule_call : List ℕ → Rule → Metered Told Tables ℕ
rule_call nodes r =
    unless (λ t. sized (length nodes) (length t.rules) (length t.records)) Shape
    (unless (λ t. shapely r) Shape
    (admitting Building (λ t. t.header)
    (unless (λ t. spacious t.header) Full
    (in_header (billing (cost r)) >> in_records (check_rule nodes r) >> add_rule r))))
