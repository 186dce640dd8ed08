-- `seeds::drop_both` meets its contract.
use Rattle.lattice.specs.Value.{value_of}
use Rattle.seeds.proofs.CodeLaws.{drop_lost, drop_kept}
use Rattle.seeds.proofs.drop_both.Goals.{then-is_lost, else-is_lost}
use Rattle.seeds.proofs.drop_both.Goals as goal

pub returns : goal.returns
returns c = elim c.if-is_lost.branch [
  | then-is_lost w ↦ drop_lost (value_of c.args.old) (value_of c.args.value) (value_of c.args.new) c.args.budget.now c.entries_of.ensures c.entries_of-2.ensures c.is_lost.ensures w.if-is_lost.true w.count_widened.ensures (rw w.budget-is at c.release_entries.ensures)
  | else-is_lost w ↦ drop_kept (value_of c.args.old) (value_of c.args.value) (value_of c.args.new) c.args.budget.now c.entries_of.ensures c.entries_of-2.ensures c.is_lost.ensures w.if-is_lost.false (rw w.budget-is at c.release_entries.ensures)
]
