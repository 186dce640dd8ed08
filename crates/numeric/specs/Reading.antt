-- Readings of a store whose run has ended. 01: "Reading gives an argument's bound, list, reason and recorded contexts, and the bound of a
-- rule's slot before and after guards." A reading changes nothing.
use Rattle.std.specs.Prelude.{ℕ, zero, suc, ◌+◌, ◌*◌, min, Bool, cond, ◌&&◌, List, [], ◌∷◌, ◌++◌, eqb, ltb, ℤ, length, get_or}
use Rattle.sizes.specs.Sizes as size
use Rattle.limits.specs.declared.Refusal.TheVariants.{Closed, Shape, Missing, MissingSlot, Limit}
use Rattle.limits.specs.Refusal.{Told, told}
use Rattle.interval.specs.declared.Bound.{Bound}
use Rattle.cells.specs.Cells.{of_cell}
use Rattle.lattice.specs.Value.{Value}
use Rattle.rows.specs.Row.{bound_of, value_at}
use Rattle.keys.specs.Key.{name_at, kind_at, payload_at}
use Rattle.limits.specs.Context.{Context}
use Rattle.store.specs.declared.Phase.{Phase}
use Rattle.store.specs.declared.Phase.TheVariants.{Absent, Open, Completed, Stopped}
use Rattle.store.specs.declared.Store.{Store}
use Rattle.rules.specs.Read.{slots_at}
use Rattle.results.specs.Result.{bound_place}

pub data Reading (A : Type 0) : Type 0 where
  given : A → Reading A
  refused : Told → Reading A

-- 01: "a reading finds it open" meets 1; "A stopped run reports no arguments and no rules [..]; their ids then meet 5"
abbrev pub in_phase : {A : Type 0} → Phase → Reading A → Reading A
in_phase Absent r = refused (told Closed)
in_phase Open r = refused (told Closed)
in_phase Completed r = r
in_phase (Stopped e c) r = refused (told Missing)

-- of tables of their sizes, in a store that has completed: what stands there, or 5
abbrev pub reading : {A : Type 0} → Bool → Store → Reading A → Reading A
reading sized s r = cond sized (in_phase s.phase r) (refused (told Shape))

abbrev pub there : {A : Type 0} → Bool → A → Reading A
there exists a = cond exists (given a) (refused (told Missing))

-- ---- arguments

-- what a completed run has left of an argument: its bound, list and reason
unfoldable pub argument_reading : Store → List ℕ → ℕ → Reading Value
argument_reading s arguments a = reading (eqb (length arguments) size.argument_cells) s (there (ltb a s.counts.positions) (value_at arguments a))

-- the contexts of an argument among the first n records, in the order recorded
unfoldable pub contexts_of : List ℕ → ℕ → ℕ → List ℕ
contexts_of records zero a = []
contexts_of records (suc n) a = contexts_of records n a ++ cond (eqb (get_or records (size.record_row * n) 0) a) (get_or records (size.record_row * n + 1) 0 ∷ []) []

-- a header that counts more records than the table has reads as one that counts all of them
abbrev pub recorded : Store → List ℕ → ℕ → List ℕ
recorded s records a = contexts_of records (min s.counts.provenance size.records) a

-- how many contexts an argument is recorded with; the k-th of them is below
unfoldable pub context_count_reading : Store → List ℕ → ℕ → Reading ℕ
context_count_reading s records a = reading (eqb (length records) size.record_cells) s (there (ltb a s.counts.positions) (length (recorded s records a)))

abbrev pub nth : List ℕ → ℕ → Reading ℕ
nth l k = there (ltb k (length l)) (get_or l k 0)

unfoldable pub context_reading : Store → List ℕ → ℕ → ℕ → Reading ℕ
context_reading s records a k = reading (eqb (length records) size.record_cells) s (cond (ltb a s.counts.positions) (nth (recorded s records a) k) (refused (told Missing)))

-- ---- the slots of a rule

-- the bound of a rule's slot before guards, or after them
unfoldable pub slot_reading : Store → List ℕ → List ℕ → ℕ → ℕ → Bool → Reading Bound
slot_reading s rules slots r k after =
    reading (eqb (length rules) size.rule_cells && eqb (length slots) size.bounds_cells) s
    (cond (ltb r s.counts.rules) (cond (ltb k (slots_at rules r)) (given (bound_of slots (bound_place r k after))) (refused (told MissingSlot))) (refused (told Missing)))

-- ---- constants

-- 01: "a key is a signed 32-bit number or a name": of a name, whether it is retained
pub data Kind : Type 0 where
  number : ℤ → Kind
  name : Kind
  large : Kind

abbrev pub kind_of : List ℕ → ℕ → Kind
kind_of constants id = cond (eqb (kind_at constants id) 1) (number (of_cell (payload_at constants id))) (cond (eqb (kind_at constants id) 2) name large)

unfoldable pub key_reading : Store → List ℕ → ℕ → Reading Kind
key_reading s constants id = reading (eqb (length constants) size.constant_cells) s (there (ltb id s.counts.constants) (kind_of constants id))

-- 01: "The name of a retained constant is handed back as a part of the lent name store": a number has none, and neither has a name that is not retained
abbrev pub name_of : List ℕ → List ℕ → ℕ → List ℕ
name_of names constants id = cond (eqb (kind_at constants id) 2) (name_at names id (payload_at constants id)) []

unfoldable pub name_reading : Store → List ℕ → List ℕ → ℕ → Reading (List ℕ)
name_reading s names constants id =
    reading (eqb (length names) size.name_cells && eqb (length constants) size.constant_cells) s (there (ltb id s.counts.constants) (name_of names constants id))

-- ---- how the run has ended

pub data Status : Type 0 where
  completed : Status
  -- the Stop, as its refusal is told, and the context in force
  halted : Told → Context → Status

abbrev pub status_in : Phase → Reading Status
status_in Absent = refused (told Closed)
status_in Open = refused (told Closed)
status_in Completed = given completed
status_in (Stopped e c) = given (halted (told (Limit e)) c)

unfoldable pub status_reading : Store → Reading Status
status_reading s = status_in s.phase
