-- `results::put_bound` meets its contract.
use native.Mathlib.Omega.{arith}
use Rattle.rows.proofs.CodeLaws.{bound_put}
use Rattle.results.proofs.CodeLaws.{put_no_rule, put_no_slot, put_there}
use Rattle.results.proofs.put_bound.Goals as goal
use Rattle.results.proofs.put_bound.Goals.{then-id-ge-RULES-via-then-id-ge-RULES, then-id-ge-RULES-via-else-id-ge-RULES+then-slot-ge-SLOTS}

pub returns-then-id-ge-RULES : goal.returns-then-id-ge-RULES
returns-then-id-ge-RULES c =
    elim c.then-id-ge-RULES.branch [
      | then-id-ge-RULES-via-then-id-ge-RULES w ↦ put_no_rule _ _ _ _ _ (omega arith)
      | then-id-ge-RULES-via-else-id-ge-RULES+then-slot-ge-SLOTS w ↦ put_no_slot _ _ _ _ _ (omega arith) (omega arith)
    ]

pub returns : goal.returns
returns c =
    put_there _ _ _ _ _ (omega arith) (omega arith) c.bound_place-at.ensures
    (bound_put _ _ _ c.integrality_cell.ensures c.case_cell.ensures c.low_cell.ensures c.high_cell.ensures c.put_cell.ensures c.put_cell-2.ensures c.put_cell-3.ensures c.put_cell-4.ensures)
