-- The sizes of the lent tables: how many rows each has, how many cells a row has, and what stands where in one. They stand here alone.
use Rattle.std.specs.Prelude.{ℕ, ◌+◌, ◌-◌, ◌*◌}

-- ---- 01, "Table sizes": "64 predicates; 256 positions; 1,024 constants; 1,024 expressions; 256 rules; 4,096 thresholds [..]; provenance 1,024"

abbrev pub predicates : ℕ
predicates = 64

abbrev pub positions : ℕ
positions = 256

abbrev pub constants : ℕ
constants = 1024

abbrev pub expressions : ℕ
expressions = 1024

abbrev pub rules : ℕ
rules = 256

abbrev pub thresholds : ℕ
thresholds = 4096

abbrev pub records : ℕ
records = 1024

-- 01: "`constant` and `seed_interval` need at most 4,088 standing"; a run enters two more
abbrev pub thresholds_before_call : ℕ
thresholds_before_call = 4088

abbrev pub thresholds_before_run : ℕ
thresholds_before_run = thresholds - 2

-- 01: "seeds and rules with a context need at most 1,008 standing"
abbrev pub records_before_call : ℕ
records_before_call = 1008

-- ---- 01, refusal 1: "a name over 64 bytes [..], width over 16, nesting over 64 [..], or a rule over 16 slots, 32 bindings, 32 guards or 16 heads"

abbrev pub name : ℕ
name = 64

-- the ids of a list
abbrev pub width : ℕ
width = 16

abbrev pub nesting : ℕ
nesting = 64

abbrev pub slots : ℕ
slots = 16

abbrev pub bindings : ℕ
bindings = 32

abbrev pub guards : ℕ
guards = 32

abbrev pub heads : ℕ
heads = 16

-- what guards record of expressions: two for each
abbrev pub refinements : ℕ
refinements = 2 * guards

-- ---- the row of a value: integrality, the interval's case and two ends, whether there is a list, its length, the reason, the ids, one unused

abbrev pub value_case : ℕ
value_case = 1

abbrev pub value_low : ℕ
value_low = 2

abbrev pub value_high : ℕ
value_high = 3

abbrev pub value_kept : ℕ
value_kept = 4

abbrev pub value_length : ℕ
value_length = 5

abbrev pub value_reason : ℕ
value_reason = 6

abbrev pub value_ids : ℕ
value_ids = 7

abbrev pub value_row : ℕ
value_row = 24

-- ---- the row of a rule: its slots, whether it has a context, which, three lengths, and then bindings and guards of four cells, heads of two

abbrev pub rule_mark : ℕ
rule_mark = 1

abbrev pub rule_context : ℕ
rule_context = 2

abbrev pub rule_binding_count : ℕ
rule_binding_count = 3

abbrev pub rule_guard_count : ℕ
rule_guard_count = 4

abbrev pub rule_head_count : ℕ
rule_head_count = 5

abbrev pub rule_bindings : ℕ
rule_bindings = 6

abbrev pub rule_guards : ℕ
rule_guards = rule_bindings + 4 * bindings

abbrev pub rule_heads : ℕ
rule_heads = rule_guards + 4 * guards

abbrev pub rule_row : ℕ
rule_row = rule_heads + 2 * heads

-- ---- the other rows

-- a predicate's first argument and arity
abbrev pub predicate_row : ℕ
predicate_row = 2

-- a constant's kind and payload
abbrev pub constant_row : ℕ
constant_row = 2

-- kind, operator, left, right and nesting of an expression
abbrev pub node_row : ℕ
node_row = 5

-- an argument and a context
abbrev pub record_row : ℕ
record_row = 2

-- how often the two sides of an argument's interval have grown
abbrev pub growth_row : ℕ
growth_row = 2

-- an expression's id, the case of an interval and its two ends
abbrev pub refinement_row : ℕ
refinement_row = 4

-- the first four cells of a value; of a slot before guards and after them; of all slots of a rule
abbrev pub bound_row : ℕ
bound_row = 4

abbrev pub slot_row : ℕ
slot_row = 2 * bound_row

abbrev pub bounds_row : ℕ
bounds_row = slot_row * slots

-- ---- the words of the header: nine limits, eight counts, how many rows of eight tables stand, the context, the phase, a stop and its context

abbrev pub header_counted : ℕ
header_counted = 9

abbrev pub header_rows : ℕ
header_rows = 17

abbrev pub header_context : ℕ
header_context = 25

abbrev pub header_phase : ℕ
header_phase = 27

abbrev pub header_stop : ℕ
header_stop = 28

abbrev pub header_stop_context : ℕ
header_stop_context = 32

abbrev pub header : ℕ
header = 34

-- ---- the cells of the tables

-- the bytes of a line of the report: every line fits
abbrev pub line : ℕ
line = 256

abbrev pub predicate_cells : ℕ
predicate_cells = predicate_row * predicates

abbrev pub name_cells : ℕ
name_cells = name * constants

abbrev pub constant_cells : ℕ
constant_cells = constant_row * constants

abbrev pub node_cells : ℕ
node_cells = node_row * expressions

abbrev pub rule_cells : ℕ
rule_cells = rule_row * rules

abbrev pub record_cells : ℕ
record_cells = record_row * records

-- a value for each argument: seeds, current values, results
abbrev pub argument_cells : ℕ
argument_cells = value_row * positions

abbrev pub growth_cells : ℕ
growth_cells = growth_row * positions

-- a value for each slot of one rule
abbrev pub slot_cells : ℕ
slot_cells = value_row * slots

abbrev pub refinement_cells : ℕ
refinement_cells = refinement_row * refinements

-- the bounds of all rules' slots
abbrev pub bounds_cells : ℕ
bounds_cells = bounds_row * rules

-- what a run works in, and no later call reads. Of one rule: its slots before guards and after them, and what its guards record
abbrev pub local_cells : ℕ
local_cells = 2 * slot_cells + refinement_cells

-- of a pass: the candidates, the next values, and what a rule needs
abbrev pub pass_cells : ℕ
pass_cells = 2 * argument_cells + local_cells

-- of a run: the bounds of the rules' slots, until the run completes, and what a pass needs
abbrev pub scratch_cells : ℕ
scratch_cells = bounds_cells + pass_cells
