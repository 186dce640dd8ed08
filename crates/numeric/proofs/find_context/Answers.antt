-- `numeric::find_context` meets its contract.
use native.Mathlib.Omega.{arith}
use mathlib.Core.Path.{sym}
use Rattle.numeric.proofs.ReadingLaws.{none_yet, one_less, hit_next, miss_next, found_at}
use Rattle.numeric.proofs.find_context.Goals.{then-is_of+else-found-k, else-is_of}
use Rattle.numeric.proofs.find_context.Goals as goal

pub loop-i-init : goal.loop-i-init
loop-i-init c = (sym (none_yet _ _), omega arith)

pub returns-then-found-k : goal.returns-then-found-k
returns-then-found-k c = found_at c.args.records.now c.args.argument c.loop-i.i c.args.count c.args.k c.loop-i.invariant.0 c.if-found-k.true c.loop-i-test.true c.is_of.ensures c.if-is_of.true c.cell_at.ensures

pub loop-i-preserved : goal.loop-i-preserved
loop-i-preserved c = elim c.if-is_of.branch [
  | then-is_of+else-found-k w ↦
      (hit_next c.args.records.now c.args.argument c.loop-i.i c.is_of.ensures w.if-is_of.true c.loop-i.invariant.0 w.found-is, one_less c.loop-i.invariant.1 w.if-found-k.false w.found-is)
  | else-is_of w ↦ (miss_next c.args.records.now c.args.argument c.loop-i.i c.is_of.ensures w.if-is_of.false c.loop-i.invariant.0 w.found-is, omega (arith, c.loop-i.invariant.1, w.found-is))
]
