-- `constants::retain_key` meets its contract.
use Rattle.keys.specs.Key.{key_of}
use Rattle.constants.proofs.CodeLaws.{retain_kept, retain_new}
use Rattle.constants.proofs.retain_key.Goals as goal

pub returns-then-retained : goal.returns-then-retained
returns-then-retained c = retain_kept (key_of c.args.key) c.args.store.now _ _ _ c.retained.ensures c.if-retained.true c.keep_key.ensures

pub returns-else-retained : goal.returns-else-retained
returns-else-retained c = retain_new (key_of c.args.key) c.args.store.now _ _ _ c.retained.ensures c.if-retained.false (c.abandon.ensures _ _)
