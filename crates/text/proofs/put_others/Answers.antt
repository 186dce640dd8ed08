-- `text::put_others` meets its contract.
use Prim.Native.Nat.{◌+◌}
use native.Mathlib.Omega.{arith}
use mathlib.Core.Path.{refl, ◌∙◌}
use lib.ListN.{get_or, drop, length-append}
use Rattle.text.specs.Text.{decimal, others}
use Rattle.text.proofs.Putting.{leads_whole, leads_more, puts_length}
use Rattle.text.proofs.Words.{others_room, other_comma, other_room, others_end}
use Rattle.text.proofs.put_others.Goals as goal

pub loop-id-init : goal.loop-id-init
loop-id-init c = (others_room c.args.ids.now c.requires.1 c.type_inv.ids, (refl, leads_whole _ _ _))

pub put_byte-digits-requires : goal.put_byte-digits-requires
put_byte-digits-requires c =
    let l = c.loop-id in
    omega (arith, other_room c.args.ids.now l.id-index l.invariant.1.1, l.invariant.0, l.invariant.1.0, c.requires.0)

pub put_digits-place-requires : goal.put_digits-place-requires
put_digits-place-requires c =
    let ids = c.args.ids.now in
    let l = c.loop-id in
    let p = other_comma ids l.id-index l.invariant.1.1 c.loop-id-test.true c.put_byte-digits.ensures in
    rw c.from.ensures (omega (arith, p.place, length-append (decimal (get_or ids l.id-index 0)) (others (drop (l.id-index + 1) ids)), l.invariant.0, l.invariant.1.0, c.requires.0, puts_length c.put_byte-digits.ensures))

pub loop-id-preserved : goal.loop-id-preserved
loop-id-preserved c =
    let ids = c.args.ids.now in
    let l = c.loop-id in
    let p = c.put_byte-digits.ensures in
    let q = rw c.from.ensures at c.put_digits-place.ensures in
    let d = other_comma ids l.id-index l.invariant.1.1 c.loop-id-test.true p in
    (l.invariant.0, (puts_length q ∙ (puts_length p ∙ l.invariant.1.0), leads_more (decimal (get_or ids l.id-index 0)) (others (drop (l.id-index + 1) ids)) d q))

pub put_byte-requires : goal.put_byte-requires
put_byte-requires c =
    let l = c.loop-id in
    omega (arith, other_room c.args.ids.now l.id-index l.invariant.1.1, l.invariant.0, l.invariant.1.0, c.requires.0)

pub returns : goal.returns
returns c =
    let l = c.loop-id in
    let p = others_end c.args.ids.now l.id-index l.invariant.1.1 c.loop-id-test.false c.put_byte.ensures in
    record { puts = p; within = omega (arith, p.place, l.invariant.0) }
