-- `text::put_others` meets its contract.
use Prim.Native.Nat.{◌≤◌}
use mathlib.Core.Path.{◌≡◌}
use lib.ListN.{length, drop}
use Rattle.text.specs.Text.{others}
use Rattle.text.proofs.Putting.{Leads}
use Rattle.text.proofs.put_others.Given as goal

abbrev pub invariant-loop-id : goal.invariant-loop-id
invariant-loop-id l =
    (length (others l.ids) ≤ 91) × ((length l.line ≡ length l.initial.line) × Leads (others l.ids) l.at l.initial.line (others (drop l.id-index l.ids)) l.place l.line)
