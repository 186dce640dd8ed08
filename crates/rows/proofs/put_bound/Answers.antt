-- `rows::put_bound` meets its contract.
use Rattle.rows.proofs.CodeLaws.{bound_put}
use Rattle.rows.proofs.put_bound.Goals as goal

pub returns : goal.returns
returns c =
    let a = c.args in
    bound_put a.cells.now a.at a.bound
    c.integrality_cell.ensures c.case_cell.ensures c.low_cell.ensures c.high_cell.ensures
    c.put_cell.ensures c.put_cell-2.ensures c.put_cell-3.ensures c.put_cell-4.ensures
