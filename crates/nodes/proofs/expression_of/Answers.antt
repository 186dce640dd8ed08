-- `nodes::expression_of` meets its contract.
use Rattle.nodes.proofs.CodeLaws.{as_unary, as_absolute, as_binary, no_unary, no_absolute, no_left, no_right}
use Rattle.nodes.proofs.expression_of.Goals as goal

pub returns-in-2 : goal.returns-in-2
returns-in-2 c = as_unary c.args.node c.args.id c.if-node-id.true c.in-2.is c.read_unary.ensures

pub returns-in-3 : goal.returns-in-3
returns-in-3 c = as_absolute c.args.node c.args.id c.if-node-id-2.true c.in-3.is

pub returns-in-4 : goal.returns-in-4
returns-in-4 c = as_binary c.args.node c.args.id c.if-node-id-3.true c.if-node-id-4.true c.in-4.is c.read_binary.ensures

pub returns-in_default : goal.returns-in_default
returns-in_default c = no_unary c.args.node c.args.id c.if-node-id.false c.in-2.is

pub returns-in_default-2 : goal.returns-in_default-2
returns-in_default-2 c = no_absolute c.args.node c.args.id c.if-node-id-2.false c.in-3.is

pub returns-in_default-3 : goal.returns-in_default-3
returns-in_default-3 c = no_right c.args.node c.args.id c.if-node-id-4.false c.in-4.is

pub returns-in_default-4 : goal.returns-in_default-4
returns-in_default-4 c = no_left c.args.node c.args.id c.if-node-id-3.false c.in-4.is
