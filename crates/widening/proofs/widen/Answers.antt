-- `widening::widen` meets its contract.
use Rattle.std.proofs.Common.{rules, SFits, w32}
use Rattle.std.proofs.lemmas.Int.{to_z-of_z}
use Rattle.limits.proofs.Answering.{went, broke, exits}
use Rattle.widening.proofs.CodeLaws.{widen_from_nothing, widen_to_nothing, widen_stops_low, widen_stops_high, widen_moves}
use Rattle.widening.proofs.widen.Goals as goal

pub returns-in_default : goal.returns-in_default
returns-in_default c = let a = c.args in widen_from_nothing a.thresholds.now a.previous a.next a.growth a.meter.now c.in_default.ensures

pub returns-in_default-endpoints : goal.returns-in_default-endpoints
returns-in_default-endpoints c = let a = c.args in widen_to_nothing a.thresholds.now a.previous a.next a.growth a.meter.now c.in-Some.ensures c.in_default-endpoints.ensures

pub returns-in_err-lower : goal.returns-in_err-lower
returns-in_err-lower c =
    let a = c.args in
    let s = c.in-Some in
    let t = c.in-Some-endpoints in
    let fa : SFits w32 s.old_low = search rules in
    let fc : SFits w32 t.low = search rules in
    exits c.from_residual.result c.from_residual.ensures.1
    (widen_stops_low a.thresholds.now a.previous a.next a.growth a.meter.now s.ensures t.ensures (simp to_z-of_z at (broke c.widen_low.ensures c.in_err-lower.was)))

pub returns-in_err-upper : goal.returns-in_err-upper
returns-in_err-upper c =
    let a = c.args in
    let s = c.in-Some in
    let t = c.in-Some-endpoints in
    let fa : SFits w32 s.old_low = search rules in
    let fb : SFits w32 s.old_high = search rules in
    let fc : SFits w32 t.low = search rules in
    let fd : SFits w32 t.high = search rules in
    exits c.from_residual-in_err-upper.result c.from_residual-in_err-upper.ensures.1
    (widen_stops_high a.thresholds.now a.previous a.next a.growth a.meter.now s.ensures t.ensures (simp to_z-of_z at (went c.widen_low.ensures c.in_ok-lower.was))
    (simp to_z-of_z at (broke c.widen_high.ensures c.in_err-upper.was)))

pub returns : goal.returns
returns c =
    let a = c.args in
    let s = c.in-Some in
    let t = c.in-Some-endpoints in
    let fa : SFits w32 s.old_low = search rules in
    let fb : SFits w32 s.old_high = search rules in
    let fc : SFits w32 t.low = search rules in
    let fd : SFits w32 t.high = search rules in
    let fl : SFits w32 c.in_ok-lower.lower.end = search rules in
    let fu : SFits w32 c.in_ok-upper.upper.end = search rules in
    widen_moves a.thresholds.now a.previous a.next a.growth a.meter.now s.ensures t.ensures (simp to_z-of_z at (went c.widen_low.ensures c.in_ok-lower.was))
    (simp to_z-of_z at (went c.widen_high.ensures c.in_ok-upper.was)) (simp to_z-of_z at c.with_ends.ensures)
