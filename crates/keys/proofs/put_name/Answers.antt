-- `keys::put_name` meets its contract.
use Rattle.std.proofs.Common.{arith}
use Rattle.keys.proofs.CodeLaws.{name_put}
use Rattle.keys.proofs.put_name.Goals as goal

pub returns : goal.returns
returns c =
    let s = c.loop-i.invariant in
    name_put c.args.names.now c.args.id c.min-start.result (omega (arith, c.saturating_mul.ensures, c.min-start.ensures)) c.args.text.now c.loop-i.i s.1 s.0 (omega (arith, c.loop-i.auto, c.loop-i-test.false, c.min-len.ensures))
