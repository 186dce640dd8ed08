-- `rules::put_rule` meets its contract.
use Rattle.rules.proofs.CodeLaws.{rule_put}
use Rattle.rules.proofs.put_rule.Goals as goal

pub returns : goal.returns
returns c = rule_put c.args.cells.now c.args.id c.args.rule c.args.context c.put_fixed.ensures c.put_items.ensures c.put_items-2.ensures c.put_items-3.ensures
