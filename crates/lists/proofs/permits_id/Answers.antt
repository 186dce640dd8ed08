-- `lists::permits_id` meets its contract.
use native.Mathlib.Omega.{arith}
use mathlib.Core.Path.{◌∙◌}
use lib.ListN.{get_or, length}
use Rattle.std.proofs.Common.{rules, Ok}
use Rattle.limits.proofs.Answering.{went, broke, exits}
use Rattle.search.specs.Seek.{compareℕ, Seeks}
use Rattle.search.proofs.Complete.{enough}
use Rattle.lists.specs.Lists.{list_turns}
use Rattle.lists.proofs.CodeLaws.{permits_ended, permits_stopped, permits_looks, permits_tells, permits_same}
use Rattle.lists.proofs.permits_id.Goals as goal

pub returns-in_err-place : goal.returns-in_err-place
returns-in_err-place c =
    let s : Seeks (λ i. compareℕ (get_or c.args.ids.now i 0) c.args.id) list_turns (length c.args.ids.now) c.seek.result c.args.meter.now c.seek.new.meter =
    c.seek.ensures (λ i. compareℕ (get_or c.args.ids.now i 0) c.args.id) (record { at = λ i r h k. search rules }) list_turns (omega arith) in
    let e = exits c.from_residual.result c.from_residual.ensures.1 (permits_stopped c.args.ids.now c.args.id list_turns c.args.meter.now (broke s c.in_err-place.was)) in
    record {
      is = e;
      tells = λ i. permits_tells list_turns _ _ _ _ c.from_residual.result i (omega arith) e;
      looks = permits_looks list_turns _ _ _ _ c.from_residual.result e;
      whole = e ∙ permits_same list_turns _ _ _ _ (omega arith) (enough _);
    }

pub returns : goal.returns
returns c =
    let s : Seeks (λ i. compareℕ (get_or c.args.ids.now i 0) c.args.id) list_turns (length c.args.ids.now) c.seek.result c.args.meter.now c.seek.new.meter =
    c.seek.ensures (λ i. compareℕ (get_or c.args.ids.now i 0) c.args.id) (record { at = λ i r h k. search rules }) list_turns (omega arith) in
    let e = permits_ended c.args.ids.now c.args.id list_turns c.args.meter.now (went s c.in_ok-place.was) c.is_ok.ensures.value in
    record {
      is = e;
      tells = λ i. permits_tells list_turns _ _ _ _ (Ok c.is_ok.result) i (omega arith) e;
      looks = permits_looks list_turns _ _ _ _ (Ok c.is_ok.result) e;
      whole = e ∙ permits_same list_turns _ _ _ _ (omega arith) (enough _);
    }
