-- `lattice::Abstract::same` meets its contract.
use Rattle.std.proofs.Common.{rules, ◌≡◌}
use Rattle.limits.proofs.Answering.{exits}
use Rattle.interval.specs.Bound.{same_bound}
use Rattle.lattice.proofs.CodeLaws.{same_stopped, same_bounds, other_bounds}
use Rattle.lattice.proofs.Abstract.same.Goals as goal

pub returns-in_err-work : goal.returns-in_err-work
returns-in_err-work c = exits c.from_residual.result c.from_residual.ensures.1 (same_stopped _ _ _ c.in_err-work.ensures)

pub returns-then-eq : goal.returns-then-eq
returns-then-eq c =
    let q : c.eq.result ≡ same_bound c.args.self.bound c.args.other.bound = search rules in
    same_bounds _ _ _ c.in_ok-work.ensures q c.if-eq.true c.same_lists.ensures

pub returns : goal.returns
returns c =
    let q : c.eq.result ≡ same_bound c.args.self.bound c.args.other.bound = search rules in
    other_bounds _ _ _ c.in_ok-work.ensures q c.if-eq.false
