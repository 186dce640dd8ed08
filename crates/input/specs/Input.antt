-- The calls of a store put together: one state with the header and all lent tables, on which each call is what its own crate says of it.
use Rattle.std.specs.Prelude.{ℕ, ◌^◌, ◌<◌, ◌≡◌, List, [], ◌∷◌, ℤ, length}
use Rattle.sizes.specs.Sizes as size
use Rattle.integers.specs.Order.{Number}
use Rattle.limits.specs.Refusal.{Told}
use Rattle.limits.specs.Metered.{Run, going, stopped, Metered, pure, ◌>>=◌, zoom}
use Rattle.keys.specs.Key.{Key, number, name}
use Rattle.nodes.specs.declared.Expression.{Expression}
use Rattle.rules.specs.declared.Rule.{Rule}
use Rattle.store.specs.declared.Store.{Store}
use Rattle.store.specs.Calls.{context_call, work_call, argument_call, predicate_call}
use Rattle.store.specs.Calls as store
use Rattle.constants.specs.Constant.{constant_call}
use Rattle.constants.specs.Constant as constants
use Rattle.expressions.specs.Expression.{expression_call}
use Rattle.expressions.specs.Expression as expressions
use Rattle.seeds.specs.Seed.{seed_value_call, seed_interval_call}
use Rattle.seeds.specs.Seed as seeds
use Rattle.producers.specs.Producer.{rule_call}
use Rattle.producers.specs.Producer as producers

-- ---- a store: the header, and the tables that its caller lends

pub record Tables : Type 0 where
  pub header : Store
  -- a predicate's first argument and arity
  pub predicates : List ℕ
  -- constants: the bytes of names, kinds and payloads, and the ids in the order of their keys
  pub names : List ℕ
  pub constants : List ℕ
  pub order : List ℕ
  pub thresholds : List ℤ
  -- expressions
  pub nodes : List ℕ
  -- a value for each argument, and which contexts produced it
  pub seeds : List ℕ
  pub records : List ℕ
  pub rules : List ℕ

abbrev pub tables : Store → List ℕ → List ℕ → List ℕ → List ℕ → List ℤ → List ℕ → List ℕ → List ℕ → List ℕ → Tables
tables h p n c o t e s r u = record { header = h; predicates = p; names = n; constants = c; order = o; thresholds = t; nodes = e; seeds = s; records = r; rules = u }

-- ---- calls and their answers

pub data Call : Type 0 where
  context : ℕ → Call
  work : ℕ → Call
  predicate : ℕ → Call
  -- a predicate and one of its places
  argument : ℕ → ℕ → Call
  constant : Key → Call
  expression : Expression → Call
  -- an argument and a constant
  seed_value : ℕ → ℕ → Call
  -- an argument and the ends of an interval
  seed_interval : ℕ → ℤ → ℤ → Call
  rule : Rule → Call

pub data Reply : Type 0 where
  done : Reply
  id : ℕ → Reply

-- what the parameters' types give: a context has 32 bits, and so has a number; a rule's arrays have their lengths
abbrev pub TypedKey : Key → Type 0
TypedKey (number v) = Number v
TypedKey (name s) = Unit {0}

abbrev pub Whole : Rule → Type 0
Whole r = (length r.bindings ≡ size.bindings) × ((length r.guards ≡ size.guards) × (length r.heads ≡ size.heads))

abbrev pub Typed : Call → Type 0
Typed (context c) = c < 2 ^ 32
Typed (work n) = Unit {0}
Typed (predicate arity) = Unit {0}
Typed (argument p i) = Unit {0}
Typed (constant k) = TypedKey k
Typed (expression e) = Unit {0}
Typed (seed_value a k) = Unit {0}
Typed (seed_interval a low high) = Number low × Number high
Typed (rule r) = Whole r

-- ---- the tables that a call is lent, and the store with what it leaves of them

abbrev pub with_header : Store → Tables → Tables
with_header s t = tables s t.predicates t.names t.constants t.order t.thresholds t.nodes t.seeds t.records t.rules

abbrev pub for_predicate : Tables → store.Tables
for_predicate t = store.tables t.header t.predicates t.seeds

abbrev pub from_predicate : store.Tables → Tables → Tables
from_predicate u t = tables u.header u.rows t.names t.constants t.order t.thresholds t.nodes u.seeds t.records t.rules

abbrev pub for_constant : Tables → constants.Tables
for_constant t = constants.tables t.header t.names t.constants t.order t.thresholds

abbrev pub from_constant : constants.Tables → Tables → Tables
from_constant u t = tables u.header t.predicates u.names u.constants u.order u.thresholds t.nodes t.seeds t.records t.rules

abbrev pub for_expression : Tables → expressions.Tables
for_expression t = expressions.tables t.header t.nodes

abbrev pub from_expression : expressions.Tables → Tables → Tables
from_expression u t = tables u.header t.predicates t.names t.constants t.order t.thresholds u.nodes t.seeds t.records t.rules

abbrev pub for_value : Tables → seeds.Tables
for_value t = seeds.tables t.header t.seeds t.records

abbrev pub from_value : seeds.Tables → Tables → Tables
from_value u t = tables u.header t.predicates t.names t.constants t.order t.thresholds t.nodes u.seeds u.records t.rules

abbrev pub for_interval : Tables → seeds.IntervalTables
for_interval t = seeds.interval_tables t.header t.seeds t.records t.thresholds

abbrev pub from_interval : seeds.IntervalTables → Tables → Tables
from_interval u t = tables u.header t.predicates t.names t.constants t.order u.thresholds t.nodes u.seeds u.records t.rules

abbrev pub for_rule : Tables → producers.Tables
for_rule t = producers.tables t.header t.rules t.records

abbrev pub from_rule : producers.Tables → Tables → Tables
from_rule u t = tables u.header t.predicates t.names t.constants t.order t.thresholds t.nodes t.seeds u.records u.rules

-- ---- a call on the whole store

-- a call on its part, and its answer as a reply
abbrev pub on : {T A : Type 0} → (Tables → T) → (T → Tables → Tables) → (A → Reply) → Metered Told T A → Metered Told Tables Reply
on get put reply m = zoom get put m >>= (λ a. pure (reply a))

-- three calls read a table that they do not change: the rows of predicates, the constants, the expressions
unfoldable pub call : Call → Metered Told Tables Reply
call (context c) = on (λ t. t.header) with_header (λ _. done) (context_call c)
call (work n) = on (λ t. t.header) with_header (λ _. done) (work_call n)
call (predicate arity) = on for_predicate from_predicate id (predicate_call arity)
call (argument p i) = λ t. on (λ u. u.header) with_header id (argument_call p i t.predicates) t
call (constant k) = on for_constant from_constant id (constant_call k)
call (expression e) = on for_expression from_expression id (expression_call e)
call (seed_value a k) = λ t. on for_value from_value (λ _. done) (seed_value_call t.constants a k) t
call (seed_interval a low high) = on for_interval from_interval (λ _. done) (seed_interval_call a low high)
call (rule r) = λ t. on for_rule from_rule id (rule_call t.nodes r) t

-- ---- calls one after another

-- the store that is left, whichever way the call ended
abbrev pub left : Run Told Tables Reply → Tables
left (going r t) = t
left (stopped e t) = t

-- a refused call is followed by the next one all the same
unfoldable pub played : Tables → List Call → Tables
played t [] = t
played t (c ∷ cs) = played (left (call c t)) cs
