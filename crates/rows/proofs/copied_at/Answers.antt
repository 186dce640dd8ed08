-- `rows::copied_at` meets its contract.
use Rattle.limits.proofs.Seen.{seen_exits}
use Rattle.lattice.proofs.CodeLaws.{copied_stopped, copied_none, list_stopped}
use Rattle.rows.specs.Row.{value_at}
use Rattle.rows.proofs.CodeLaws.{kept_listed, none_listed, copied_entries}
use Rattle.rows.proofs.copied_at.Goals as goal

pub returns-in_err-work : goal.returns-in_err-work
returns-in_err-work c = seen_exits (λ _. value_at c.args.cells.now c.args.row) c.from_residual.result c.from_residual.ensures.1 (copied_stopped _ _ c.in_err-work.ensures)

pub returns-then-not-is_listed : goal.returns-then-not-is_listed
returns-then-not-is_listed c = copied_none _ _ c.in_ok-work.ensures (none_listed _ c.if-not-is_listed.ensures)

pub returns-in_err-work-2 : goal.returns-in_err-work-2
returns-in_err-work-2 c =
    seen_exits (λ _. value_at c.args.cells.now c.args.row) c.from_residual-in_err-work-2.result c.from_residual-in_err-work-2.ensures.1
    (list_stopped _ _ c.in_ok-work.ensures (kept_listed _ c.if-not-is_listed.ensures) (rw c.entries_at-count.ensures at c.in_err-work-2.ensures))

pub returns : goal.returns
returns c = copied_entries (value_at c.args.cells.now c.args.row) _ _ c.in_ok-work.ensures (kept_listed _ c.if-not-is_listed.ensures) (rw c.entries_at-count.ensures at c.in_ok-work-2.ensures) c.retain_all.result (rw c.entries_at-count.ensures at c.retain_all.ensures)
