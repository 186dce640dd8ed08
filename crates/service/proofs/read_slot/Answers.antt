-- `service::read_slot` meets its contract.
use mathlib.Core.Path.{sym, ap, ◌∙◌}
use Rattle.soundness.specs.Code.{reading, slot}
use Rattle.service.specs.Told as told
use Rattle.service.specs.Lent.{for_slot_reading}
use Rattle.service.proofs.Answers.{bound_told, reading_of}
use Rattle.service.proofs.read_slot.Goals as goal

pub returns : goal.returns
returns c = λ s. reading_of (λ h. for_slot_reading h c.args.rules.now c.args.slots.now s) c.of.ensures (bound_told c.slot.result ∙ ap told.bound (sym c.bound.ensures)) (reading _ _ (slot c.args.rule c.args.slot c.args.after c.slot.result c.slot.ensures))
