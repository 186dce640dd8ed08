-- Demand 3 as one statement over whole lists of calls. 01: "A number lies in a bound whose interval has it (Unbounded has all), a name in a Mixed
-- one; a value lies in a list that has the id of a constant with that key."
use Rattle.std.specs.Prelude.{ℕ, ◌<◌, ◌^◌, ◌≡◌}
use mathlib.Core.List.{List, Memᴰ}
use Rattle.std.proofs.Math.Option.{Option, some, none}
use Rattle.integers.specs.Order.{Number}
use Rattle.integers.specs.Lists.{All}
use Rattle.limits.specs.declared.Limits.{Limits}
use Rattle.interval.specs.declared.Bound.{Bound}
use Rattle.interval.specs.Bound.{HasNumber, HasNames}
use Rattle.lattice.specs.Value.{Value}
use Rattle.keys.specs.Key.{Key, name}
use Rattle.keys.specs.Key as keys
use Rattle.input.specs.Input as input
use Rattle.numeric.specs.Question.{argument, value}
use Rattle.numeric.specs.Step.{Call, store, run, reading, shows, State, event, play, fresh}
use Rattle.soundness.specs.Plain.{Opaque}
use Rattle.soundness.specs.Run.{Accepted, key_for, heard, Firing, Reaches}

-- ---- what lies in a reading

abbrev pub LiesInBound : Key → Bound → Type 0
LiesInBound (keys.number z) b = HasNumber b z
LiesInBound (name s) b = HasNames b.integrality

-- where a list is kept
abbrev pub LiesInList : Accepted → Key → Option (List ℕ) → Type 0
LiesInList p k none = Unit {0}
LiesInList p k (some l) = (i : ℕ) × Memᴰ i l × (key_for p i ≡ some k)

pub record LiesIn (p : Accepted) (k : Key) (v : Value) : Type 0 where
  pub bound : LiesInBound k v.bound
  pub list : LiesInList p k v.values

-- ---- what types say: of a call's arguments, and of the lent tables, which may hold anything and have any size

abbrev pub Typed : Call → Type 0
Typed (store c) = input.Typed c
Typed (run w) = Unit {0}
Typed (reading q) = Unit {0}

pub record Lent (t : input.Tables) : Type 0 where
  -- 32-bit cells, unsigned and signed
  pub cells : All (λ c. c < 2 ^ 32) t.constants
  pub numbers : All Number t.thresholds

-- ---- the claim

-- whatever the opaque functions are, and the limits, the tables with their sizes and what stood in them, the calls and the firings: a value that
-- the plain run over the accepted calls puts into an argument lies in what each reading of that argument gives
abbrev pub Demand3 : Type 0
Demand3 =
    (o : Opaque) (l : Limits) (s : State) → Lent s.tables → (cs : List Call) → All Typed cs → (fs : List Firing) (a : ℕ) (k : Key) → Reaches o (heard (play (fresh l s) cs)) fs a k →
    (v : Value) → Memᴰ (event (reading (argument a)) (shows (value v))) (play (fresh l s) cs) → LiesIn (heard (play (fresh l s) cs)) k v
