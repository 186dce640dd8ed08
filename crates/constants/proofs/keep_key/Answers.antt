-- `constants::keep_key` meets its contract.
use Rattle.keys.specs.Key.{key_of}
use Rattle.limits.proofs.Answering.{limits}
use Rattle.constants.proofs.CodeLaws.{keep_halted, keep_found, place_within, keep_new}
use Rattle.constants.proofs.keep_key.Goals as goal

pub returns-in_err-place : goal.returns-in_err-place
returns-in_err-place c =
    limits _ _ c.from_residual.ensures.1 (keep_halted (key_of c.args.key) c.args.store.now _ _ _ _ (rw c.meter-meter.ensures at c.seek_key-sought.ensures) c.settle.ensures c.in_err-place.was)

pub enroll-requires : goal.enroll-requires
enroll-requires c =
    (place_within (key_of c.args.key) c.args.store.now _ _ _ _ (rw c.meter-meter.ensures at c.seek_key-sought.ensures) c.settle.ensures c.in_ok-place.was c.in-Err.is, c.requires)

pub returns-in-Ok : goal.returns-in-Ok
returns-in-Ok c =
    keep_found (key_of c.args.key) c.args.store.now _ _ _ _ (rw c.meter-meter.ensures at c.seek_key-sought.ensures) c.settle.ensures c.in_ok-place.was c.in-Ok.is c.cell_at.ensures

pub returns-in-Err : goal.returns-in-Err
returns-in-Err c =
    keep_new (key_of c.args.key) c.args.store.now _ _ _ _ (rw c.meter-meter.ensures at c.seek_key-sought.ensures) c.settle.ensures c.in_ok-place.was c.in-Err.is c.enroll.ensures
