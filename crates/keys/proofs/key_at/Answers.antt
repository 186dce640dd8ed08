-- `keys::key_at` meets its contract.
use Rattle.std.proofs.Common.{rules}
use Rattle.keys.proofs.CodeLaws.{number_read, name_read}
use Rattle.keys.proofs.key_at.Goals as goal

pub returns-then-kind_at-eq1 : goal.returns-then-kind_at-eq1
returns-then-kind_at-eq1 c = number_read _ _ _ c.kind_at.ensures c.payload_at-payload.ensures c.if-kind_at-eq1.true (search rules)

pub returns-else-kind_at-eq1 : goal.returns-else-kind_at-eq1
returns-else-kind_at-eq1 c = name_read _ _ _ c.kind_at.ensures c.payload_at-payload.ensures c.if-kind_at-eq1.false c.name_at.ensures
