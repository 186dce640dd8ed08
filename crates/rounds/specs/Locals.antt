-- A rule's slots in a run (`Local` of transfer.rs, in tables of their own), a unit of work before them; whoever has them made drops them.
use Rattle.std.specs.Prelude.{ℕ, List, replicate}
use Rattle.sizes.specs.Sizes as size
use Rattle.limits.specs.declared.Stop.{Stop}
use Rattle.limits.specs.Metered.{Run, going, stopped, Metered, ◌>>=◌, ◌>>◌, finally, zoom}
use Rattle.limits.specs.declared.Meter.{Meter}
use Rattle.limits.specs.Meter.{work}
use Rattle.rules.specs.Read.{slots_at}
use Rattle.slots.specs.Slots.{Slots, blank, total, fewer, paying}
use Rattle.refinements.specs.Refinement.{Refinement, refinements_of}
use Rattle.evaluation.specs.Evaluation.{Input}
use Rattle.transfer.specs.Transfer.{Frame, frame, rule}

-- their values before guards and after them, and what guards have recorded
pub record Locals : Type 0 where
  pub domains : List ℕ
  pub produced : List ℕ
  pub known : List Refinement

abbrev pub locals : List ℕ → List ℕ → List Refinement → Locals
locals d p k = record { domains = d; produced = p; known = k }

-- a rule's slots and refinements, written into tables as they stand: the answer is how many refinements there are
unfoldable pub fill : Input → List ℕ → ℕ → List ℕ → Metered Stop Frame ℕ
fill i rules id arguments = zoom (λ s. s.meter) (λ m s. frame m s.domains s.produced s.refinements) (work 1) >> rule i rules id arguments

-- tables of n slots of their own, blank: nothing of what a lent table held is in a rule's slots
abbrev pub blank_frame : ℕ → Meter → Frame
blank_frame n m = frame m (blank n) (blank n) (replicate size.refinement_cells 0)

abbrev pub locals_of : Run Stop Frame ℕ → Run Stop Meter Locals
locals_of (going n f) = going (locals f.domains f.produced (refinements_of f.refinements n)) f.meter
locals_of (stopped e f) = stopped e f.meter

unfoldable pub own_locals : Input → List ℕ → ℕ → List ℕ → Metered Stop Meter Locals
own_locals i rules id arguments m = locals_of (fill i rules id arguments (blank_frame (slots_at rules id) m))

-- the first n rows of both tables are dropped
abbrev pub drop_locals : ℕ → List ℕ → List ℕ → Slots → Slots
drop_locals n domains produced s = fewer (total domains n) (fewer (total produced n) s)

-- what m does with a rule's slots, which are dropped whichever way m ends
unfoldable pub with_locals : Input → List ℕ → ℕ → List ℕ → (Locals → Metered Stop Slots (Unit {0})) → Metered Stop Slots (Unit {0})
with_locals i rules id arguments m = paying (own_locals i rules id arguments) >>= (λ l. finally (drop_locals (slots_at rules id) l.domains l.produced) (m l))
