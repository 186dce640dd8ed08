-- Whether the tables that a call is lent have 01's sizes. A call that is lent one of another size meets 1, and nothing changes
-- (`soundness/proofs/AnySize: unfit_step`).
use Rattle.std.specs.Prelude.{Bool, true, ◌&&◌, eqb, length}
use Rattle.sizes.specs.Sizes as size
use Rattle.constants.specs.Constant as constants
use Rattle.seeds.specs.Seed as seeds
use Rattle.producers.specs.Producer as producers
use Rattle.engine.specs.Call.{Working, read, lent_sized}
use Rattle.input.specs.Input.{Tables}
use Rattle.input.specs.Input as input
use Rattle.numeric.specs.Question.{Question, argument, context_count, context, slot, key, name, status}
use Rattle.numeric.specs.Step.{Call, store, run, reading, State, for_run}

abbrev pub fits_store : input.Call → Tables → Bool
fits_store (input.context c) t = true
fits_store (input.work n) t = true
fits_store (input.predicate arity) t = eqb (length t.predicates) size.predicate_cells && eqb (length t.seeds) size.argument_cells
fits_store (input.argument p i) t = eqb (length t.predicates) size.predicate_cells
fits_store (input.constant k) t = constants.sized (length t.names) (length t.constants) (length t.order) (length t.thresholds)
fits_store (input.expression e) t = eqb (length t.nodes) size.node_cells
fits_store (input.seed_value a k) t = eqb (length t.constants) size.constant_cells && seeds.sized (length t.seeds) (length t.records)
fits_store (input.seed_interval a low high) t = eqb (length t.thresholds) size.thresholds && seeds.sized (length t.seeds) (length t.records)
fits_store (input.rule r) t = producers.sized (length t.nodes) (length t.rules) (length t.records)

abbrev pub fits_run : Working → State → Bool
fits_run w s = lent_sized (read s.tables.nodes s.tables.constants s.tables.rules s.tables.seeds) w (for_run s)

abbrev pub fits_reading : Question → State → Bool
fits_reading (argument a) s = eqb (length s.arguments) size.argument_cells
fits_reading (context_count a) s = eqb (length s.tables.records) size.record_cells
fits_reading (context a k) s = eqb (length s.tables.records) size.record_cells
fits_reading (slot r k after) s = eqb (length s.tables.rules) size.rule_cells && eqb (length s.slots) size.bounds_cells
fits_reading (key k) s = eqb (length s.tables.constants) size.constant_cells
fits_reading (name k) s = eqb (length s.tables.names) size.name_cells && eqb (length s.tables.constants) size.constant_cells
fits_reading status s = true

abbrev pub fits : Call → State → Bool
fits (store c) s = fits_store c s.tables
fits (run w) s = fits_run w s
fits (reading q) s = fits_reading q s
