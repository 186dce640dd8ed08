-- `interval::Interval::meet` meets its contract.
use Rattle.std.proofs.Common.{rules}
use Rattle.std.specs.Int.{int_min, int_max}
use mir.Syntax.{w32}
use mir.Val.{SFits}
use Rattle.integers.proofs.Bits.{read₂, sf32}
use Rattle.interval.specs.Interval.{ascending_of}
use Rattle.interval.proofs.CodeLaws.{met_ends}
use Rattle.interval.proofs.Interval.meet.Goals as goal

pub returns-in-Bounded-Bounded : goal.returns-in-Bounded-Bounded
returns-in-Bounded-Bounded c =
    let m = c.in-Bounded-Bounded in
    let fa : SFits w32 m.a = search rules in
    let fb : SFits w32 m.b = search rules in
    let fc : SFits w32 m.c = search rules in
    let fd : SFits w32 m.d = search rules in
    met_ends m.is-0 m.is-1 (read₂ fa fc int_max c.max.ensures.value) (read₂ fb fd int_min c.min.ensures.value)
    (read₂ (sf32 c.max.result c.max.type_inv) (sf32 c.min.result c.min.type_inv) ascending_of c.ascending.ensures)
