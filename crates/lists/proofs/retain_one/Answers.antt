-- `lists::retain_one` meets its contract.
use mathlib.Core.Path.{◌∙◌}
use Rattle.limits.specs.Meter.{retain}
use Rattle.limits.proofs.Answering.{held_is}
use Rattle.lists.specs.Lists.{push}
use Rattle.lists.proofs.retain_one.Goals as goal

pub returns : goal.returns
unfolding push
returns c = c.holding.ensures ∙ held_is _ (retain 1) _ _ _ c.retain-charge.ensures
