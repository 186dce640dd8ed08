-- `constants::constant` meets its contract.
use Rattle.keys.specs.Key.{key_of}
use Rattle.limits.proofs.Answering.{refuses}
use Rattle.constants.proofs.CodeLaws.{passed, call_unpaid, call_marks, call_unread, call_room, call_id}
use Rattle.constants.proofs.constant.Goals as goal

pub returns-in_err-pay : goal.returns-in_err-pay
returns-in_err-pay c =
    let a = c.args in
    let g = passed (key_of a.key) a.store.now a.names.now a.constants.now a.order.now a.thresholds.now c.sized.ensures c.if-not-sized.false c.bytes_of.ensures c.if-bytes_of-gt-NAME.false c.admits.ensures c.if-not-admits.false c.room.ensures c.if-not-room.false in
    refuses _ _ c.from_residual.ensures.1 (call_unpaid g _ c.in_err-pay.ensures)

pub classify-requires : goal.classify-requires
classify-requires c =
    let a = c.args in
    let g = passed (key_of a.key) a.store.now a.names.now a.constants.now a.order.now a.thresholds.now c.sized.ensures c.if-not-sized.false c.bytes_of.ensures c.if-bytes_of-gt-NAME.false c.admits.ensures c.if-not-admits.false c.room.ensures c.if-not-room.false in
    call_marks g c.in_ok-pay.ensures

pub returns-in_err-classify : goal.returns-in_err-classify
returns-in_err-classify c =
    let a = c.args in
    let g = passed (key_of a.key) a.store.now a.names.now a.constants.now a.order.now a.thresholds.now c.sized.ensures c.if-not-sized.false c.bytes_of.ensures c.if-bytes_of-gt-NAME.false c.admits.ensures c.if-not-admits.false c.room.ensures c.if-not-room.false in
    refuses _ _ c.from_residual-in_err-classify.ensures.1 (call_unread g c.in_ok-pay.ensures _ c.in_err-classify.ensures)

pub retain_key-requires : goal.retain_key-requires
retain_key-requires c =
    let a = c.args in
    let g = passed (key_of a.key) a.store.now a.names.now a.constants.now a.order.now a.thresholds.now c.sized.ensures c.if-not-sized.false c.bytes_of.ensures c.if-bytes_of-gt-NAME.false c.admits.ensures c.if-not-admits.false c.room.ensures c.if-not-room.false in
    call_room g c.in_ok-pay.ensures c.in_ok-classify.ensures

pub returns : goal.returns
returns c =
    let a = c.args in
    let g = passed (key_of a.key) a.store.now a.names.now a.constants.now a.order.now a.thresholds.now c.sized.ensures c.if-not-sized.false c.bytes_of.ensures c.if-bytes_of-gt-NAME.false c.admits.ensures c.if-not-admits.false c.room.ensures c.if-not-room.false in
    call_id g c.in_ok-pay.ensures c.in_ok-classify.ensures _ _ _ _ _ c.retain_key.ensures
