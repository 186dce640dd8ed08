-- All calls on one state: the header and the lent tables. Each is what its own crate says of it.
use Rattle.std.specs.Prelude.{ℕ, List, [], ◌∷◌}
use Rattle.limits.specs.declared.Limits.{Limits}
use Rattle.limits.specs.Refusal.{Told}
use Rattle.limits.specs.Metered.{Run, going, stopped}
use Rattle.store.specs.declared.Store.{Store}
use Rattle.store.specs.Store.{fresh_of}
use Rattle.input.specs.Input.{Tables, tables, with_header, call}
use Rattle.input.specs.Input as input
use Rattle.engine.specs.Call.{Working, read, run_call}
use Rattle.engine.specs.Call as engine
use Rattle.numeric.specs.Question.{Question, argument, context_count, context, slot, key, name, status, Shown, value, number, bound, kind, bytes, ended, showing}
use Rattle.numeric.specs.Reading.{Reading, given, argument_reading, context_count_reading, context_reading, slot_reading, key_reading, name_reading, status_reading}
use Rattle.numeric.specs.Reading as readings

-- ---- calls and their answers

pub data Call : Type 0 where
  -- a call that builds the store, `context` to `rule`
  store : input.Call → Call
  -- lent tables to work in, which may hold anything
  run : Working → Call
  reading : Question → Call

pub data Answer : Type 0 where
  refused : Told → Answer
  reply : input.Reply → Answer
  -- the run was taken, whether it has completed or stopped
  ran : Answer
  shows : Shown → Answer

-- ---- the state: the store's tables, and the two that a run writes

pub record State : Type 0 where
  pub tables : Tables
  pub arguments : List ℕ
  pub slots : List ℕ

abbrev pub state : Tables → List ℕ → List ℕ → State
state t a s = record { tables = t; arguments = a; slots = s }

-- what a call answers and leaves
pub record Stepped : Type 0 where
  pub answer : Answer
  pub after : State

abbrev pub stepped : Answer → State → Stepped
stepped a s = record { answer = a; after = s }

-- ---- one call

abbrev pub on_store : State → Run Told Tables input.Reply → Stepped
on_store s (going r t) = stepped (reply r) (state t s.arguments s.slots)
on_store s (stopped e t) = stepped (refused e) (state t s.arguments s.slots)

-- the run is lent the header, the thresholds and its two tables, and reads four more
abbrev pub for_run : State → engine.Tables
for_run s = engine.tables s.tables.header s.tables.thresholds s.arguments s.slots

abbrev pub after_run : engine.Tables → Tables → Tables
after_run u t = tables u.header t.predicates t.names t.constants t.order u.thresholds t.nodes t.seeds t.records t.rules

abbrev pub from_run : engine.Tables → State → State
from_run u s = state (after_run u s.tables) u.arguments u.slots

abbrev pub on_run : State → Run Told engine.Tables (Unit {0}) → Stepped
on_run s (going r u) = stepped ran (from_run u s)
on_run s (stopped e u) = stepped (refused e) (from_run u s)

-- a reading changes nothing
abbrev pub ask : Question → State → Reading Shown
ask (argument a) s = showing value (argument_reading s.tables.header s.arguments a)
ask (context_count a) s = showing number (context_count_reading s.tables.header s.tables.records a)
ask (context a k) s = showing number (context_reading s.tables.header s.tables.records a k)
ask (slot r k after) s = showing bound (slot_reading s.tables.header s.tables.rules s.slots r k after)
ask (key k) s = showing kind (key_reading s.tables.header s.tables.constants k)
ask (name k) s = showing bytes (name_reading s.tables.header s.tables.names s.tables.constants k)
ask status s = showing ended (status_reading s.tables.header)

abbrev pub on_reading : State → Reading Shown → Stepped
on_reading s (given a) = stepped (shows a) s
on_reading s (readings.refused e) = stepped (refused e) s

unfoldable pub step : Call → State → Stepped
step (store c) s = on_store s (call c s.tables)
step (run w) s = on_run s (run_call (read s.tables.nodes s.tables.constants s.tables.rules s.tables.seeds) w (for_run s))
step (reading q) s = on_reading s (ask q s)

-- ---- a list of calls

pub record Event : Type 0 where
  pub call : Call
  pub answer : Answer

abbrev pub event : Call → Answer → Event
event c a = record { call = c; answer = a }

-- each is given what the last one left, a refused one too
unfoldable pub play : State → List Call → List Event
play s [] = []
play s (c ∷ cs) = event c (step c s).answer ∷ play (step c s).after cs

-- a fresh store, whatever stands in the tables; the header of one that is refused admits no call
abbrev pub header_of : Run Told Store (Unit {0}) → Store
header_of (going r s) = s
header_of (stopped e s) = s

abbrev pub fresh : Limits → State → State
fresh l s = state (with_header (header_of (fresh_of l)) s.tables) s.arguments s.slots
