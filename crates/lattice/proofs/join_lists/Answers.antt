-- `lattice::join_lists` meets its contract.
use mathlib.Core.Path.{ap, ◌∙◌}
use Rattle.std.proofs.Common.{Ok, Some}
use Rattle.lattice.specs.declared.Widening.TheVariants.{ValueWidth}
use Rattle.lists.specs.Ids.{merged}
use Rattle.limits.proofs.Seen.{seen_went, seen_broke, seen_exits}
use Rattle.lattice.specs.Value.{value_of}
use Rattle.lattice.proofs.CodeLaws.{first_is, lists_stopped, lists_lost, lists_kept}
use Rattle.lattice.proofs.join_lists.Goals as goal

pub returns-in_err-list : goal.returns-in_err-list
returns-in_err-list c = seen_exits value_of c.from_residual.result c.from_residual.ensures.1 (lists_stopped c.args.width c.args.bound c.args.reason c.args.left.now c.args.right.now c.args.meter.now (seen_broke merged c.merge.ensures c.in_err-list.was))

pub returns-in-Some : goal.returns-in-Some
returns-in-Some c = lists_kept c.args.width c.args.bound c.args.reason c.args.left.now c.args.right.now c.args.meter.now (seen_went merged c.merge.ensures (c.in_ok-list.was ∙ ap Ok c.in-Some.is)) c.listed.ensures

pub returns-in-None : goal.returns-in-None
returns-in-None c = lists_lost c.args.width c.args.bound c.args.reason c.args.left.now c.args.right.now c.args.meter.now (seen_went merged c.merge.ensures (c.in_ok-list.was ∙ ap Ok c.in-None.is)) c.unlisted.ensures (first_is c.args.reason (Some ValueWidth) c.or.ensures)
