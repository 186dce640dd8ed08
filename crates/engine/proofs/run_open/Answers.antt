-- `engine::run_open` meets its contract.
use Prim.Native.Nat.{ℕ}
use mathlib.Core.Path.{ap, ◌∙◌}
use lib.ListN.{replicate}
use Rattle.rounds.specs.Lent.{given_in}
use Rattle.engine.proofs.RunLaws.{open_stopped, stopped_leaves, open_marks, open_taken, open_run, open_leaves}
use Rattle.engine.proofs.run_open.Goals as goal

pub returns-in-Err-clause-run : goal.returns-in-Err-clause-run
returns-in-Err-clause-run c =
    let a = c.args in
    open_stopped (given_in a.given.now) c.requires.room.1.1 a.store.now a.thresholds.now a.arguments.now a.slots.now a.current.now a.growth.now c.requires.cells.0 c.requires.cells.1.0 _ _ _ _ _
    (rw c.course_of-course.ensures at c.in-Err.ensures) (rw c.course_of-course.ensures at c.end.ensures)

pub returns-in-Err-clause-left : goal.returns-in-Err-clause-left
returns-in-Err-clause-left c =
    let a = c.args in
    stopped_leaves (given_in a.given.now) c.requires.room.1.1 a.store.now a.thresholds.now a.arguments.now a.slots.now a.current.now a.growth.now c.requires.cells.0 c.requires.cells.1.0 _ _ _ _ _
    (rw c.course_of-course.ensures at c.in-Err.ensures)

pub slice_bounds-finish-end : goal.slice_bounds-finish-end
slice_bounds-finish-end c =
    let a = c.args in
    open_marks (given_in a.given.now) c.requires.room.1.1 a.store.now a.thresholds.now a.arguments.now a.slots.now a.current.now a.growth.now c.requires.cells.0 c.requires.cells.1.0 _ _ _ _ _
    (rw c.course_of-course.ensures at c.in_default.ensures) c.requires.room.1.0 c.begin-begun.auto.thresholds

pub slice_bounds-finish-end-2 : goal.slice_bounds-finish-end-2
slice_bounds-finish-end-2 c =
    let a = c.args in
    open_taken (given_in a.given.now) c.requires.room.1.1 a.store.now a.thresholds.now a.arguments.now a.slots.now a.current.now a.growth.now c.requires.cells.0 c.requires.cells.1.0 _ _ _ _ _
    (rw c.course_of-course.ensures at c.in_default.ensures) c.requires.room.1.0 c.begin-begun.auto.thresholds

pub returns-clause-run : goal.returns-clause-run
returns-clause-run c =
    let a = c.args in
    open_run (given_in a.given.now) c.requires.room.1.1 a.store.now a.thresholds.now a.arguments.now a.slots.now a.current.now a.growth.now c.requires.cells.0 c.requires.cells.1.0 _ _ _ _ _
    (rw c.course_of-course.ensures at c.in_default.ensures) _ _ (c.fill.ensures.after (λ y h. h) ∙ ap (λ (k : ℕ). replicate k 0) c.requires.cells.1.1.0) (rw c.course_of-course.ensures at c.finish-ran.ensures) (c.conclude.ensures _ a.thresholds.now c.finish-ran.new.growth)

pub returns-clause-left : goal.returns-clause-left
returns-clause-left c =
    let a = c.args in
    open_leaves (given_in a.given.now) c.requires.room.1.1 a.store.now a.thresholds.now a.arguments.now a.slots.now a.current.now a.growth.now c.requires.cells.0 c.requires.cells.1.0 _ _ _ _ _
    (rw c.course_of-course.ensures at c.in_default.ensures) _ _ (c.fill.ensures.after (λ y h. h) ∙ ap (λ (k : ℕ). replicate k 0) c.requires.cells.1.1.0) (rw c.course_of-course.ensures at c.finish-ran.ensures)
