-- `operators::literal_of` meets its contract.
use mathlib.Core.Path.{◌∙◌}
use Rattle.operators.proofs.Written.{number_written, none_written}
use Rattle.operators.proofs.literal_of.Goals as goal

pub returns-then-node-ne0 : goal.returns-then-node-ne0
returns-then-node-ne0 c = none_written c.args.constants.now c.args.nodes.now c.args.id c.node_at-node.ensures c.if-node-ne0.true

pub returns : goal.returns
returns c = c.number_of.ensures ∙ number_written c.args.constants.now c.args.nodes.now c.args.id c.node_at-node.ensures c.if-node-ne0.false
