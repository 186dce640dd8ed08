-- `numeric::count_contexts` meets its contract.
use native.Mathlib.Omega.{arith}
use mathlib.Core.Path.{sym}
use Rattle.numeric.proofs.ReadingLaws.{none_yet, few, hit_next, miss_next}
use Rattle.numeric.proofs.count_contexts.Goals.{then-is_of, else-is_of}
use Rattle.numeric.proofs.count_contexts.Goals as goal

pub loop-i-init : goal.loop-i-init
loop-i-init c = sym (none_yet _ _)

pub overflow_add-found : goal.overflow_add-found
overflow_add-found c = record { fits = omega (arith, c.loop-i.invariant, few c.args.records.now c.args.argument c.loop-i.i) }

pub loop-i-preserved : goal.loop-i-preserved
loop-i-preserved c = elim c.if-is_of.branch [
  | then-is_of w ↦ hit_next c.args.records.now c.args.argument c.loop-i.i c.is_of.ensures w.if-is_of.true c.loop-i.invariant w.found-is
  | else-is_of w ↦ miss_next c.args.records.now c.args.argument c.loop-i.i c.is_of.ensures w.if-is_of.false c.loop-i.invariant w.found-is
]
