-- 01's example as a list of calls on a fresh store whose tables are blank, and what its run shows.
use Rattle.std.specs.Prelude.{List, [], ◌∷◌, replicate, pos, None}
use Rattle.std.proofs.Math.Option.{none}
use Rattle.sizes.specs.Sizes as size
use Rattle.limits.specs.declared.Limits.{Limits}
use Rattle.interval.specs.declared.Integrality.TheVariants.{Integer}
use Rattle.interval.specs.declared.Interval.TheVariants.{Bounded}
use Rattle.lattice.specs.Value.{Value, value}
use Rattle.keys.specs.Key.{number}
use Rattle.nodes.specs.declared.Expression.TheVariants.{Constant, Slot, Binary}
use Rattle.nodes.specs.declared.BinaryOp.TheVariants.{Add}
use Rattle.rules.specs.declared.Rule.{Rule}
use Rattle.rules.specs.declared.Binding.TheVariants.{Positive}
use Rattle.rules.specs.declared.Guard.TheVariants.{Compare}
use Rattle.rules.specs.declared.Relation.TheVariants.{Lt}
use Rattle.engine.specs.Call.{Working, working}
use Rattle.input.specs.Input.{tables}
use Rattle.input.specs.Input as input
use Rattle.store.specs.Store as store
use Rattle.store.specs.declared.Phase.TheVariants.{Absent}
use Rattle.numeric.specs.Question as asks
use Rattle.numeric.specs.Step.{Call, State, state}
use Rattle.numeric.specs.Step as calls

abbrev pub example_limits : Limits
example_limits = record { work = 1000000; predicates = 64; positions = 256; links = 100000; width = 4; entries = 100000; rounds = 1000; bytes = 100000; symbol = 64 }

-- tables that nothing has been written into
abbrev pub blank_state : State
blank_state =
    state
    (tables (store.empty example_limits Absent) (replicate size.predicate_cells 0) (replicate size.name_cells 0) (replicate size.constant_cells 0) (replicate size.constants 0)
    (replicate size.thresholds (pos 0)) (replicate size.node_cells 0) (replicate size.argument_cells 0) (replicate size.record_cells 0) (replicate size.rule_cells 0))
    (replicate size.argument_cells 0) (replicate size.bounds_cells 0)

abbrev pub example_work : Working
example_work = working (replicate size.argument_cells 0) (replicate size.growth_cells 0) (replicate size.scratch_cells 0)

-- where the slot is in argument 0 and below 10, the argument gets the slot and 1
abbrev pub example_rule : Rule
example_rule = record {
  slots = 1;
  bindings = replicate size.bindings (Positive 0 0);
  guards = replicate size.guards (Compare 0 Lt 2);
  heads = replicate size.heads (record { argument = 0; value = 3 });
  lengths = record { bindings = 1; guards = 1; heads = 1; queries = 0 };
}

abbrev pub zero_to_ten : Value
zero_to_ten = value (record { integrality = Integer; interval = Bounded (pos 0) (pos 10) }) none None

abbrev pub example_calls : List Call
example_calls =
    calls.store (input.predicate 1) ∷
    calls.store (input.argument 0 0) ∷
    calls.store (input.constant (number (pos 0))) ∷
    calls.store (input.constant (number (pos 1))) ∷
    calls.store (input.constant (number (pos 10))) ∷
    calls.store (input.seed_value 0 0) ∷
    calls.store (input.expression (Slot 0)) ∷
    calls.store (input.expression (Constant 1)) ∷
    calls.store (input.expression (Constant 2)) ∷
    calls.store (input.expression (Binary Add 0 1)) ∷
    calls.store (input.rule example_rule) ∷
    calls.run example_work ∷
    calls.reading (asks.argument 0) ∷
    []
