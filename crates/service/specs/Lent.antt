-- The state of a store with this header and, in the place of its tables, the slices that a call is lent. What the call is not lent stands in `s`,
-- which may be anything.
use Rattle.std.specs.Prelude.{ℕ, ℤ, List}
use Rattle.store.specs.declared.Store.{Store}
use Rattle.input.specs.Input.{Tables}
use Rattle.numeric.specs.Step.{State}

-- the header, and of the other tables what `put` says
abbrev pub with : Store → (Tables → Tables) → State → State
with h put s = record s { tables = put (record (s.tables) { header = h }) }

abbrev pub for_header : Store → State → State
for_header h = with h (λ t. t)

abbrev pub for_predicate : Store → List ℕ → List ℕ → State → State
for_predicate h predicates seeds = with h (λ t. record t { predicates = predicates; seeds = seeds })

abbrev pub for_argument : Store → List ℕ → State → State
for_argument h predicates = with h (λ t. record t { predicates = predicates })

abbrev pub for_constant : Store → List ℕ → List ℕ → List ℕ → List ℤ → State → State
for_constant h names constants order thresholds = with h (λ t. record t { names = names; constants = constants; order = order; thresholds = thresholds })

abbrev pub for_expression : Store → List ℕ → State → State
for_expression h nodes = with h (λ t. record t { nodes = nodes })

abbrev pub for_value : Store → List ℕ → List ℕ → List ℕ → State → State
for_value h constants seeds records = with h (λ t. record t { constants = constants; seeds = seeds; records = records })

abbrev pub for_interval : Store → List ℕ → List ℕ → List ℤ → State → State
for_interval h seeds records thresholds = with h (λ t. record t { seeds = seeds; records = records; thresholds = thresholds })

abbrev pub for_rule : Store → List ℕ → List ℕ → List ℕ → State → State
for_rule h nodes rules records = with h (λ t. record t { nodes = nodes; rules = rules; records = records })

abbrev pub for_run : Store → List ℕ → List ℕ → List ℕ → List ℕ → List ℤ → List ℕ → List ℕ → State → State
for_run h nodes constants rules seeds thresholds arguments slots s =
    record (with h (λ t. record t { nodes = nodes; constants = constants; rules = rules; seeds = seeds; thresholds = thresholds }) s) { arguments = arguments; slots = slots }

-- ---- readings

abbrev pub for_argument_reading : Store → List ℕ → State → State
for_argument_reading h arguments s = record (for_header h s) { arguments = arguments }

abbrev pub for_context_reading : Store → List ℕ → State → State
for_context_reading h records = with h (λ t. record t { records = records })

abbrev pub for_slot_reading : Store → List ℕ → List ℕ → State → State
for_slot_reading h rules slots s = record (with h (λ t. record t { rules = rules }) s) { slots = slots }

abbrev pub for_key_reading : Store → List ℕ → State → State
for_key_reading h constants = with h (λ t. record t { constants = constants })

abbrev pub for_name_reading : Store → List ℕ → List ℕ → State → State
for_name_reading h names constants = with h (λ t. record t { names = names; constants = constants })
