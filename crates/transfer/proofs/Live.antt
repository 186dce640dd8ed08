-- Live entries after a rule: those before plus the lists of its slots before guards and after them where it completes, those before where it is
-- stopped. After a head: those before plus its value's list, or those before.
use Prim.Native.Nat.{ℕ, ◌+◌, ◌*◌, ◌^◌, ◌≤◌, ◌<◌}
use native.Mathlib.Omega.{arith}
use mathlib.Core.Path.{◌≡◌}
use mathlib.Core.List.{List}
use lib.ListN.{length}
use Rattle.integers.specs.Lists.{All}
use Rattle.rows.specs.WellFormed.{Proper}
use Rattle.limits.specs.Meter.{released}
use Rattle.limits.proofs.Monad.{Ensures}
use Rattle.limits.proofs.Ends.{Ends, ends_through, on_then}
use Rattle.limits.proofs.Live.{Lives}
use Rattle.sizes.specs.Sizes.{value_row}
use Rattle.rows.specs.Row.{entries_of}
use Rattle.rows.proofs.Good.{Good}
use Rattle.rules.specs.Read.{slots_at, bindings_at, guards_at}
use Rattle.slots.specs.Slots.{slots, total}
use Rattle.slots.proofs.Live.{Formed, Held, SlotIn}
use Rattle.refinements.specs.Refinement.{Refinement}
use Rattle.evaluation.specs.Evaluation.{Input}
use Rattle.evaluation.proofs.Live.{expression_lives}
use Rattle.evaluation.proofs.Formed.{expression_good}
use Rattle.bindings.specs.Bindings.{bind}
use Rattle.bindings.proofs.Live.{bind_ends}
use Rattle.guards.specs.Guards.{local, guard}
use Rattle.guards.proofs.Live.{GuardIn, guard_ends}
use Rattle.transfer.specs.Transfer.{Frame, frame, holding_domains, guarding, rule, head}

-- two tables of n rows whose entries are live beside e others, and refinements in cells of 32 bits
pub record Filled (n e : ℕ) (s : Frame) : Type 0 where
  pub live : s.meter.entries ≡ e + total s.domains n + total s.produced n
  pub domains : Formed s.domains
  pub produced : Formed s.produced
  pub refinements : All (λ c. c < 2 ^ 32) s.refinements

-- room for n rows before guards and after them, in tables whose rows are values that the engine makes; refinements may be anything of 32 bits
pub record Lent (n : ℕ) (s : Frame) : Type 0 where
  pub before : value_row * n ≤ length s.domains
  pub after : value_row * n ≤ length s.produced
  pub domains : Formed s.domains
  pub produced : Formed s.produced
  pub refinements : All (λ c. c < 2 ^ 32) s.refinements

module _ (i : Input) (small : All (λ c. c < 2 ^ 32) i.constants) (rules : List ℕ) (id : ℕ) (guarded : All (GuardIn (slots_at rules id) i) (guards_at rules id)) where
  guarding_ends : (e : ℕ) (s : Frame) → Held (slots_at rules id) e (slots s.meter s.domains) → value_row * slots_at rules id ≤ length s.produced → Formed s.produced → All (λ c. c < 2 ^ 32) s.refinements →
      Ends (λ _ t. Filled (slots_at rules id) e t) (λ _ t. t.meter.entries ≡ e + total t.domains (slots_at rules id)) (guarding i rules id s)
  unfolding guarding
  guarding_ends e s h room f cells =
      ends_through (λ t. local t.meter t.produced t.refinements) (λ t u. frame u.meter t.domains u.produced u.refinements) (λ t u. frame u.meter t.domains u.produced u.refinements) (λ x. x)
      (guard i s.domains (slots_at rules id) (guards_at rules id)) s
      (guard_ends i small s.domains h.formed (guards_at rules id) guarded (e + total s.domains (slots_at rules id)) (local s.meter s.produced s.refinements) room f cells h.live)
      (λ _ u k. record { live = k.held.live; domains = h.formed; produced = k.held.formed; refinements = k.small })
      (λ _ u k. k)

  pub rule_ends : (arguments : List ℕ) → Formed arguments → All (SlotIn (slots_at rules id)) (bindings_at rules id) → (e : ℕ) (s : Frame) → Lent (slots_at rules id) s → s.meter.entries ≡ e →
      Ends (λ _ t. Filled (slots_at rules id) e t) (λ _ t. t.meter.entries ≡ e) (rule i rules id arguments s)
  unfolding rule
  rule_ends arguments formed bound e s h q =
      on_then (λ t. slots t.meter t.domains) (λ t u. frame u.meter u.rows t.produced t.refinements) (λ t u. frame u.meter u.rows t.produced t.refinements) (λ x. x)
      (bind i arguments (slots_at rules id) (bindings_at rules id)) (holding_domains (slots_at rules id) (guarding i rules id)) s
      (bind_ends i small arguments formed (bindings_at rules id) bound e (slots s.meter s.domains) h.before h.domains q)
      (λ _ u p.
      ends_through (λ t. t) (λ _ t. t) (λ _ t. frame (released (total t.domains (slots_at rules id)) t.meter) t.domains t.produced t.refinements) (λ x. x) (guarding i rules id)
      (frame u.meter u.rows s.produced s.refinements)
      (guarding_ends e (frame u.meter u.rows s.produced s.refinements) p h.after h.produced h.refinements)
      (λ _ t k. k)
      (λ _ t k. omega arith))
      (λ _ u p. p)

pub head_lives : (i : Input) (produced : List ℕ) (known : List Refinement) (id : ℕ) → Lives 0 entries_of (head i produced known id)
unfolding head
head_lives i produced known id = expression_lives i produced known id

-- and a row holds what a head gives exactly
pub head_good : (i : Input) → All (λ c. c < 2 ^ 32) i.constants → (produced : List ℕ) → Formed produced → (known : List Refinement) → All (λ r. Proper r.restriction) known → (id : ℕ) →
    Ensures Good (head i produced known id)
unfolding head
head_good i small produced f known proper id = expression_good i small produced f known proper id
