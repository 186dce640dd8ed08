-- `rounds::with_locals` meets its contract.
use native.Mathlib.Omega.{arith}
use mathlib.Core.Path.{sym}
use lib.Seq.{length-take-le}
use Rattle.limits.proofs.Answering.{exits, answered_through}
use Rattle.limits.proofs.Monad.{bind_stop, bind_on, through_stop, through_on}
use Rattle.sizes.specs.Sizes.{refinement_cells}
use Rattle.evaluation.specs.Operands.{input_in}
use Rattle.rounds.specs.Locals.{with_locals}
use Rattle.rounds.proofs.CodeLaws.{few_slots}
use Rattle.rounds.proofs.Anew.{filled_stopped, filled_on}
use Rattle.rounds.proofs.with_locals.Goals as goal

pub overflow_mul-count : goal.overflow_mul-count
overflow_mul-count g c = omega (arith, few_slots c.args.given.now.rules.now c.args.id, c.slots_at-count.ensures)

pub split_at_mut-domains-requires : goal.split_at_mut-domains-requires
split_at_mut-domains-requires g c =
    omega (arith, few_slots c.args.given.now.rules.now c.args.id, c.slots_at-count.ensures, c.requires, c.split_at_mut-refinements.ensures.back_len)

pub split_at_mut-produced-requires : goal.split_at_mut-produced-requires
split_at_mut-produced-requires g c =
    omega (arith, few_slots c.args.given.now.rules.now c.args.id, c.slots_at-count.ensures, c.requires, c.split_at_mut-refinements.ensures.back_len, c.split_at_mut-domains.ensures.back_len)

pub slice_bounds-refinements-end : goal.slice_bounds-refinements-end
slice_bounds-refinements-end g c = sym (length-take-le refinement_cells c.split_at_mut-refinements.result.0.now (omega (arith, c.split_at_mut-refinements.ensures.front_len)))

pub returns-in_err-recorded : goal.returns-in_err-recorded
unfolding with_locals
returns-in_err-recorded g c =
    let a = c.args in
    let size = rw c.slots_at-count.ensures at c.split_at_mut-domains.ensures.front_len in
    let size' = rw c.slots_at-count.ensures at c.split_at_mut-produced.ensures.front_len in
    exits c.from_residual.result c.from_residual.ensures.1
    (bind_stop _ _ _ (through_stop _ _ _ _ _ _
    (filled_stopped (input_in a.given.now.input) a.given.now.rules.now a.id a.arguments.now a.meter.now _ _ _ size size' (length-take-le refinement_cells c.split_at_mut-refinements.result.0.now (omega (arith, c.split_at_mut-refinements.ensures.front_len))) _ c.fill.ensures c.in_err-recorded.was)))

pub returns : goal.returns
unfolding with_locals
returns g c =
    let a = c.args in
    let size = rw c.slots_at-count.ensures at c.split_at_mut-domains.ensures.front_len in
    let size' = rw c.slots_at-count.ensures at c.split_at_mut-produced.ensures.front_len in
    rw (c.drop_locals.ensures _, c.slots_at-count.ensures)
    (bind_on _ _ _ (through_on _ _ _ _ _ _
    (filled_on (input_in a.given.now.input) a.given.now.rules.now a.id a.arguments.now a.meter.now _ _ _ size size' (length-take-le refinement_cells c.split_at_mut-refinements.result.0.now (omega (arith, c.split_at_mut-refinements.ensures.front_len))) _ c.fill.ensures c.in_ok-recorded.was))
    (answered_through _ _ _ _ _ _ c.apply-done.ensures))
