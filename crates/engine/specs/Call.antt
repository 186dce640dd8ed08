-- The run as a call, on the header and the lent tables. It closes the store, completed or stopped.
use Rattle.std.specs.Prelude.{ℕ, ◌*◌, Bool, ◌&&◌, List, ◌++◌, leb, eqb, ℤ, length, take, drop, replicate}
use Rattle.sizes.specs.Sizes as size
use Rattle.std.proofs.lemmas.List.Edits.{sets}
use Rattle.limits.specs.declared.Stop.{Stop}
use Rattle.limits.specs.declared.Budget.{Budget}
use Rattle.limits.specs.declared.Refusal.TheVariants.{Closed, Shape, Full}
use Rattle.limits.specs.Refusal.{Told}
use Rattle.limits.specs.Metered.{Run, going, stopped, Metered}
use Rattle.limits.specs.Budget.{released}
use Rattle.rows.specs.Row.{padded, moved}
use Rattle.thresholds.specs.Thresholds.{entry}
use Rattle.store.specs.declared.Phase.{Phase}
use Rattle.store.specs.declared.Phase.TheVariants.{Completed, Stopped}
use Rattle.store.specs.declared.Counts.{Counts}
use Rattle.store.specs.declared.Kind.TheVariants.{Running}
use Rattle.store.specs.declared.Store.{Store}
use Rattle.store.specs.Store.{with_budget, with_thresholds, with_phase}
use Rattle.store.specs.Calls.{unless, admitting}
use Rattle.slots.specs.Slots.{blank, total}
use Rattle.evaluation.specs.Evaluation.{input}
use Rattle.rounds.specs.Round.{Given, given}
use Rattle.engine.specs.Run.{Beginning, beginning, begin, Progress, progress, finish}

-- the tables that a run reads
pub record Read : Type 0 where
  pub nodes : List ℕ
  pub constants : List ℕ
  pub rules : List ℕ
  pub seeds : List ℕ

abbrev pub read : List ℕ → List ℕ → List ℕ → List ℕ → Read
read n c r s = record { nodes = n; constants = c; rules = r; seeds = s }

-- the header, the thresholds, and the two result tables: a row for each argument, and the bounds of the rules' slots
pub record Tables : Type 0 where
  pub header : Store
  pub thresholds : List ℤ
  pub arguments : List ℕ
  pub slots : List ℕ

abbrev pub tables : Store → List ℤ → List ℕ → List ℕ → Tables
tables s t a d = record { header = s; thresholds = t; arguments = a; slots = d }

-- the tables that a run is lent to work in: current values, how often sides have grown, and cells that no later call reads
pub record Working : Type 0 where
  pub current : List ℕ
  pub growth : List ℕ
  pub scratch : List ℕ

abbrev pub working : List ℕ → List ℕ → List ℕ → Working
working c g s = record { current = c; growth = g; scratch = s }

-- ---- refusals 1 and 2

-- the lengths of expressions, constants, rules, seeds and thresholds
abbrev pub sized : ℕ → ℕ → ℕ → ℕ → ℕ → Bool
sized nodes constants rules seeds thresholds =
    eqb nodes size.node_cells && (eqb constants size.constant_cells && (eqb rules size.rule_cells && (eqb seeds size.argument_cells && eqb thresholds size.thresholds)))

abbrev pub results_sized : ℕ → ℕ → Bool
results_sized arguments slots = eqb arguments size.argument_cells && eqb slots size.bounds_cells

abbrev pub working_sized : ℕ → ℕ → ℕ → Bool
working_sized current growth scratch = eqb current size.argument_cells && (eqb growth size.growth_cells && eqb scratch size.scratch_cells)

-- more rows than the tables have meet 2, and thresholds without room for both ends
abbrev pub spacious : Counts → Bool
spacious n = leb n.positions size.positions && (leb n.rules size.rules && leb n.thresholds size.thresholds_before_run)

-- ---- the run of a store that admits it

abbrev pub given_of : Read → Store → Given
given_of r s = given (input r.nodes r.constants s.budget.limits.width) r.rules s.counts.rules r.seeds s.counts.positions

-- the header of a store whose run has ended; the caller's context stays
abbrev pub ended_in : Phase → Budget → ℕ → Store → Store
ended_in p b thresholds s = with_phase p (with_thresholds thresholds (with_budget b s))

-- completed: the result tables are written, and the seeds are dropped. Stopped: the current values are dropped, and the result tables stay
abbrev pub concluded : List ℕ → ℕ → List ℤ → Tables → Run Stop Progress (Unit {0}) → Tables
concluded seeds n marks t (going tt s) =
    tables (ended_in Completed (released (total seeds t.header.counts.positions) s.budget) n t.header) marks
    (moved s.current t.header.counts.positions t.arguments)
    (sets t.slots 0 (padded (size.bounds_row * t.header.counts.rules) s.bounds))
concluded seeds n marks t (stopped e s) =
    tables (ended_in (Stopped e s.context) (released (total s.current t.header.counts.positions) s.budget) n t.header) marks t.arguments t.slots

-- its beginning, in given tables of current values and growth
abbrev pub begun : Given → Tables → List ℕ → List ℕ → Run Stop Beginning (Unit {0})
begun g t current growth = begin g.seeds g.positions (beginning (entry t.header.budget t.header.counts.thresholds t.thresholds) current growth)

-- and on to its end, in a table of bounds of its own
abbrev pub to_end : Given → Tables → Beginning → Run Stop Progress (Unit {0})
to_end g t s =
    finish g (take s.entry.count s.entry.table)
    (progress s.entry.budget t.header.context s.current s.growth (replicate (size.bounds_row * g.count) 0))

abbrev pub finished : Given → Tables → Run Stop Beginning (Unit {0}) → Tables
finished g t (going tt s) = concluded g.seeds s.entry.count s.entry.table t (to_end g t s)
finished g t (stopped e s) = tables (ended_in (Stopped e t.header.context) s.entry.budget s.entry.count t.header) s.entry.table t.arguments t.slots

-- with current values and growth of its own: nothing here depends on what the tables held that it is lent to work in
unfoldable pub ran_on : Given → Tables → Tables
ran_on g t = finished g t (begun g t (blank g.positions) (replicate (size.growth_row * g.positions) 0))

-- whether all the tables that it is lent have their sizes
abbrev pub lent_sized : Read → Working → Tables → Bool
lent_sized r w t =
    sized (length r.nodes) (length r.constants) (length r.rules) (length r.seeds) (length t.thresholds)
    && (results_sized (length t.arguments) (length t.slots) && working_sized (length w.current) (length w.growth) (length w.scratch))

unfoldable pub run_call : Read → Working → Metered Told Tables (Unit {0})
run_call r w =
    unless (lent_sized r w) Shape
    (admitting Running (λ t. t.header)
    (unless (λ t. spacious t.header.counts) Full
    (λ t. going tt (ran_on (given_of r t.header) t))))

-- ---- what it leaves in the tables of current values and growth; the scratch cells are left open, as no later call reads them

abbrev pub values_of : Run Stop Progress (Unit {0}) → List ℕ × List ℕ
values_of (going tt s) = (s.current, s.growth)
values_of (stopped e s) = (s.current, s.growth)

-- those with which it ends, either way
abbrev pub values_after : Given → Tables → Run Stop Beginning (Unit {0}) → List ℕ × List ℕ
values_after g t (going tt s) = values_of (to_end g t s)
values_after g t (stopped e s) = (s.current, s.growth)

-- in tables of exactly the arguments' rows
unfoldable pub values_left : Given → Tables → List ℕ → List ℕ → List ℕ × List ℕ
values_left g t current growth = values_after g t (begun g t current growth)

-- the cells behind the arguments' rows stay
abbrev pub in_rows : ℕ → ℕ → Working → List ℕ × List ℕ → List ℕ × List ℕ
in_rows cells rows w p = (p.0 ++ drop cells w.current, p.1 ++ drop rows w.growth)

abbrev pub left_in : Given → Tables → Working → List ℕ × List ℕ
left_in g t w =
    let cells = size.value_row * g.positions in
    let rows = size.growth_row * g.positions in
    in_rows cells rows w (values_left g t (take cells w.current) (take rows w.growth))

-- a refused run leaves both as they were
abbrev pub unless_refused : Run Told Tables (Unit {0}) → List ℕ × List ℕ → List ℕ × List ℕ → List ℕ × List ℕ
unless_refused (going tt t) p q = p
unless_refused (stopped e t) p q = q

unfoldable pub run_leaves : Read → Working → Tables → List ℕ × List ℕ
run_leaves r w t = unless_refused (run_call r w t) (left_in (given_of r t.header) t w) (w.current, w.growth)
