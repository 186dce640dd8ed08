-- `rules::put_four` meets its contract.
use Rattle.rules.proofs.CodeLaws.{four_put}
use Rattle.rules.proofs.put_four.Goals as goal

pub returns : goal.returns
returns c = four_put c.args.cells.now c.args.at c.args.a c.args.b c.args.c c.args.d c.put_number.ensures c.put_number-2.ensures c.put_number-3.ensures c.put_number-4.ensures
