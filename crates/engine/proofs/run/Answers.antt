-- `engine::run` meets its contract.
use mathlib.Core.Path.{ap, ◌∙◌}
use lib.ListN.{length}
use Rattle.rounds.specs.Round.{Given}
use Rattle.rounds.specs.Lent.{given_in}
use Rattle.engine.specs.Call.{read, working}
use Rattle.engine.proofs.RunLaws.{run_on, run_left, run_room, run_cells, run_fits}
use Rattle.engine.proofs.run.Goals as goal

pub run_open-requires-clause-room : goal.run_open-requires-clause-room
run_open-requires-clause-room c =
    let a = c.args in
    let r = run_room (length a.nodes.now) (length a.constants.now) (length a.rules.now) (length a.seeds.now) (length a.thresholds.now) a.store.now.counts c.is_sized.ensures c.if-not-is_sized.false c.has_room.ensures c.if-not-has_room.false in
    (r.0, (r.1.0, rw (ap (λ (g : Given). g.positions) c.given_of-given.ensures) r.1.1))

pub run_open-requires-clause-cells : goal.run_open-requires-clause-cells
run_open-requires-clause-cells c =
    let a = c.args in
    let r = run_room (length a.nodes.now) (length a.constants.now) (length a.rules.now) (length a.seeds.now) (length a.thresholds.now) a.store.now.counts c.is_sized.ensures c.if-not-is_sized.false c.has_room.ensures c.if-not-has_room.false in
    let n = run_cells (working a.current.now a.growth.now a.scratch.now) c.is_working_sized.ensures c.if-not-is_working_sized.false in
    run_fits (given_in c.given_of-given.result) (rw (ap (λ (g : Given). g.positions) c.given_of-given.ensures) r.1.1) (rw (ap (λ (g : Given). g.count) c.given_of-given.ensures) r.0) a.current.now a.growth.now
    c.split_at_mut-scratch.result.1.now c.split_at_mut-scratch.result.0.now n.0 n.1.0 (c.split_at_mut-scratch.ensures.back_len ∙ n.1.1) c.split_at_mut-scratch.ensures.front_len

pub returns-clause-run : goal.returns-clause-run
returns-clause-run c =
    let a = c.args in
    run_on (read a.nodes.now a.constants.now a.rules.now a.seeds.now) a.store.now a.thresholds.now a.arguments.now a.slots.now (working a.current.now a.growth.now a.scratch.now)
    c.is_sized.ensures c.if-not-is_sized.false c.is_result_sized.ensures c.if-not-is_result_sized.false c.is_working_sized.ensures c.if-not-is_working_sized.false c.admits.ensures c.if-not-admits.false
    c.has_room.ensures c.if-not-has_room.false (given_in c.given_of-given.result) c.given_of-given.ensures c.run_open.ensures.run

pub returns-clause-left : goal.returns-clause-left
returns-clause-left c =
    let a = c.args in
    run_left (read a.nodes.now a.constants.now a.rules.now a.seeds.now) a.store.now a.thresholds.now a.arguments.now a.slots.now (working a.current.now a.growth.now a.scratch.now)
    c.is_sized.ensures c.if-not-is_sized.false c.is_result_sized.ensures c.if-not-is_result_sized.false c.is_working_sized.ensures c.if-not-is_working_sized.false c.admits.ensures c.if-not-admits.false
    c.has_room.ensures c.if-not-has_room.false (given_in c.given_of-given.result) c.given_of-given.ensures c.run_open.ensures.run _ c.run_open.ensures.left
