-- `refinements::restrict_interval` meets its contract.
use Rattle.limits.proofs.Seen.{seen_exits}
use Rattle.lattice.specs.Lattice.{numeric}
use Rattle.refinements.specs.Refinement.{refinement_at}
use Rattle.refinements.proofs.CodeLaws.{interval_stopped, interval_free, interval_refused, interval_met}
use Rattle.refinements.proofs.restrict_interval.Goals as goal

pub returns-in_err-k : goal.returns-in_err-k
returns-in_err-k c = λ constants. seen_exits numeric c.from_residual.result c.from_residual.ensures.1 (interval_stopped (refinement_at c.args.refinements.now) c.args.id c.args.count c.args.interval _ c.in_err-k.ensures.place constants)

pub returns-in_err-work-in-Some : goal.returns-in_err-work-in-Some
returns-in_err-work-in-Some c = λ constants.
    seen_exits numeric c.from_residual-in_err-work-in-Some.result c.from_residual-in_err-work-in-Some.ensures.1
    (interval_refused (refinement_at c.args.refinements.now) c.args.id c.args.count c.args.interval _ (rw c.in-Some.is at c.in_ok-k.ensures.place) (rw c.in-Some.is at c.in_ok-k.ensures.within) c.in_err-work-in-Some.ensures constants)

pub returns-in_ok-work-in-Some : goal.returns-in_ok-work-in-Some
returns-in_ok-work-in-Some c =
    interval_met (refinement_at c.args.refinements.now) c.args.id c.args.count c.args.interval _ (rw c.in-Some.is at c.in_ok-k.ensures.place) (rw c.in-Some.is at c.in_ok-k.ensures.within) c.in_ok-work-in-Some.ensures c.restriction_at.ensures c.meet.ensures

pub returns-in-None : goal.returns-in-None
returns-in-None c = interval_free (refinement_at c.args.refinements.now) c.args.id c.args.count c.args.interval _ (rw c.in-None.is at c.in_ok-k.ensures.place)
