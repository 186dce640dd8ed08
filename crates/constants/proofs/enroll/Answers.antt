-- `constants::enroll` meets its contract.
use Rattle.keys.specs.Key.{key_of}
use Rattle.limits.proofs.Answering.{limits}
use Rattle.constants.proofs.CodeLaws.{enroll_unpaid, enroll_new}
use Rattle.constants.proofs.enroll.Goals as goal

pub returns-in_err-pay : goal.returns-in_err-pay
returns-in_err-pay c = limits _ _ c.from_residual.ensures.1 (enroll_unpaid (key_of c.args.key) c.args.low c.args.store.now _ _ _ c.in_err-pay.ensures)

pub returns : goal.returns
returns c = enroll_new (key_of c.args.key) c.args.low c.args.store.now _ _ _ c.in_ok-pay.ensures c.add.ensures
