-- `refinements::note` meets its contract.
use native.Mathlib.Omega.{arith}
use Rattle.limits.proofs.Answering.{exits}
use Rattle.refinements.proofs.CodeLaws.{note_stopped, note_old, note_new, note_full}
use Rattle.refinements.proofs.note.Goals as goal

pub returns-in_err-k : goal.returns-in_err-k
returns-in_err-k c = exits c.from_residual.result c.from_residual.ensures.1 (note_stopped c.args.count c.args.id c.args.restriction _ _ c.in_err-k.ensures.place)

pub returns-in-Some : goal.returns-in-Some
returns-in-Some c =
    note_old c.args.count c.args.id c.args.restriction _ _ (rw c.in-Some.is at c.in_ok-k.ensures.place) (rw c.in-Some.is at c.in_ok-k.ensures.within) c.restriction_at-old.ensures c.meet.ensures c.put_refinement.ensures

pub returns-then-count-refinements : goal.returns-then-count-refinements
returns-then-count-refinements c =
    note_new c.args.count c.args.id c.args.restriction _ _ (rw c.in_default.is at c.in_ok-k.ensures.place) c.if-count-refinements.true c.put_refinement-then-count-refinements.ensures

pub returns : goal.returns
returns c = note_full c.args.count c.args.id c.args.restriction _ _ (rw c.in_default.is at c.in_ok-k.ensures.place) (omega (arith, c.if-count-refinements.false))
