-- `rule` and `head` of transfer.rs: the values of a rule's slots before and after guards, from values of the arguments, and what a head gives.
use Rattle.std.specs.Prelude.{ℕ, List}
use Rattle.limits.specs.declared.Stop.{Stop}
use Rattle.limits.specs.Metered.{Metered, ◌>>◌, on_stop, zoom}
use Rattle.limits.specs.declared.Meter.{Meter}
use Rattle.limits.specs.Meter.{released}
use Rattle.lattice.specs.Value.{Value}
use Rattle.rules.specs.Read.{slots_at, bindings_at, guards_at}
use Rattle.slots.specs.Slots.{Slots, slots, total}
use Rattle.refinements.specs.Refinement.{Refinement}
use Rattle.evaluation.specs.Evaluation.{Input, expression}
use Rattle.bindings.specs.Bindings.{bind}
use Rattle.guards.specs.Guards.{Local, local, guard}

-- the counts, and the tables that a rule fills
pub record Frame : Type 0 where
  pub meter : Meter
  pub domains : List ℕ
  pub produced : List ℕ
  pub refinements : List ℕ

abbrev pub frame : Meter → List ℕ → List ℕ → List ℕ → Frame
frame m d p r = record { meter = m; domains = d; produced = p; refinements = r }

abbrev pub in_domains : {A : Type 0} → Metered Stop Slots A → Metered Stop Frame A
in_domains = zoom (λ s. slots s.meter s.domains) (λ t s. frame t.meter t.rows s.produced s.refinements)

abbrev pub in_local : {A : Type 0} → Metered Stop Local A → Metered Stop Frame A
in_local = zoom (λ s. local s.meter s.produced s.refinements) (λ t s. frame t.meter s.domains t.produced t.refinements)

-- m while the first n rows before guards are live, which are dropped where m is stopped
abbrev pub holding_domains : {A : Type 0} → ℕ → Metered Stop Frame A → Metered Stop Frame A
holding_domains n m = on_stop (λ s. frame (released (total s.domains n) s.meter) s.domains s.produced s.refinements) m

-- from the values before guards as they stand
unfoldable pub guarding : Input → List ℕ → ℕ → Metered Stop Frame ℕ
guarding i rules id s = in_local (guard i s.domains (slots_at rules id) (guards_at rules id)) s

-- the answer is how many refinements are recorded
unfoldable pub rule : Input → List ℕ → ℕ → List ℕ → Metered Stop Frame ℕ
rule i rules id arguments = in_domains (bind i arguments (slots_at rules id) (bindings_at rules id)) >> holding_domains (slots_at rules id) (guarding i rules id)

-- the value of a head, under what the guards have recorded
unfoldable pub head : Input → List ℕ → List Refinement → ℕ → Metered Stop Meter Value
head i produced known id = expression i produced known id
