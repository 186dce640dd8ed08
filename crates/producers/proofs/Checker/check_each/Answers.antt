-- `producers::Checker::check_each` meets its contract.
use mathlib.Core.Path.{sym, ◌∙◌}
use Rattle.limits.proofs.Answering.{went, broke, limits, replied_ok, replied_err, refuses}
use Rattle.producers.proofs.CodeLaws.{each_end, each_unpaid, each_refused, each_more}
use Rattle.producers.proofs.Checker.check_each.Goals as goal

pub returns-in_err-work : goal.returns-in_err-work
returns-in_err-work g c = limits _ _ c.from_residual.ensures.1 (each_unpaid _ c.args.parts.now c.loop-part.part-index c.loop-part.meter c.part-item.result c.part-item.is c.loop-part-test.true (broke c.work.ensures c.in_err-work.was) ∙ sym c.loop-part.invariant)

pub returns-in_err-check : goal.returns-in_err-check
returns-in_err-check g c =
    refuses _ _ c.from_residual-in_err-check.ensures.1
    (each_refused _ c.args.parts.now c.loop-part.part-index c.loop-part.meter c.part-item.result c.part-item.is c.loop-part-test.true (went c.work.ensures c.in_ok-work.was) (replied_err c.check.ensures c.in_err-check.was) ∙ sym c.loop-part.invariant)

pub loop-part-preserved : goal.loop-part-preserved
loop-part-preserved g c = c.loop-part.invariant ∙ sym (each_more _ c.args.parts.now c.loop-part.part-index c.loop-part.meter c.part-item.result c.part-item.is c.loop-part-test.true (went c.work.ensures c.in_ok-work.was) (replied_ok c.check.ensures c.in_ok-check.was))

pub returns : goal.returns
returns g c = each_end _ c.args.parts.now c.loop-part.part-index c.loop-part.meter c.loop-part-test.false ∙ sym c.loop-part.invariant
