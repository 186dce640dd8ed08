-- The code's answers, as what a reading gives.
use Rattle.std.specs.Prelude.{Bool, true, false, Result, Ok, Err}
use Rattle.limits.specs.Refusal.{told}
use Rattle.limits.specs.declared.Refusal.{Refusal}
use Rattle.limits.specs.declared.Refusal.TheVariants.{Closed, Shape, Missing, Limit}
use Rattle.interval.specs.declared.Constant.{Constant}
use Rattle.interval.specs.declared.Constant.TheVariants.{Number, Name, Large}
use Rattle.store.specs.declared.Phase.{Phase}
use Rattle.store.specs.declared.Phase.TheVariants.{Absent, Open, Completed, Stopped}
use Rattle.numeric.specs.declared.Ended.{Ended}
use Rattle.numeric.specs.declared.Ended.TheVariants as ended
use Rattle.numeric.specs.Reading.{Reading, given, refused, Kind, number, name, large, Status, completed, halted}

-- whether tables of these sizes can be read in a phase, and if not, why
abbrev pub readable : Bool → Phase → Result (Unit {0}) Refusal
readable false p = Err Shape
readable true Absent = Err Closed
readable true Open = Err Closed
readable true Completed = Ok tt
readable true (Stopped e c) = Err Missing

-- an answer, seen by what of it is read
abbrev pub reads : {A B : Type 0} → (A → B) → Result A Refusal → Reading B
reads f (Ok a) = given (f a)
reads f (Err e) = refused (told e)

-- a key, but for the bytes of a name
abbrev pub kind : Constant → Kind
kind (Number z) = number z
kind Name = name
kind Large = large

abbrev pub status : Ended → Status
status ended.Completed = completed
status (ended.Stopped e c) = halted (told (Limit e)) c
