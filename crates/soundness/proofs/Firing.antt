-- One firing of a rule against what the analysis makes of it: where all bindings and guards hold for values that lie in the arguments, the slots'
-- values lie in what `rule` gives, before guards and after, and what a head gives in the firing lies in what `head` gives.
use Prim.Native.Nat.{ℕ, ◌*◌, ◌≤◌, ◌<◌, ◌^◌}
use native.Mathlib.Omega.{arith}
use mathlib.Core.Path.{◌≡◌, refl}
use mathlib.Core.List.{List, map}
use lib.ListN.{length}
use Rattle.integers.specs.Lists.{All}
use Rattle.limits.proofs.Monad.{Ensures}
use Rattle.limits.proofs.Ends.{Ends, ends_then, ends_through}
use Rattle.lattice.proofs.Tidiness.{Tidy}
use Rattle.sizes.specs.Sizes.{value_row}
use Rattle.rows.specs.Row.{value_at}
use Rattle.rows.specs.WellFormed.{WellFormed}
use Rattle.rules.specs.Read.{slots_at, bindings_at, guards_at}
use Rattle.producers.specs.Producer.{scope}
use Rattle.producers.proofs.Scoped.{Scoped, BindingIn, GuardIn}
use Rattle.slots.specs.Slots.{slots}
use Rattle.refinements.specs.Refinement.{Refinement}
use Rattle.evaluation.specs.Evaluation.{Input}
use Rattle.bindings.specs.Bindings as bindings
use Rattle.guards.specs.Guards.{local}
use Rattle.guards.specs.Guards as guards
use Rattle.transfer.specs.Transfer.{Frame, in_domains, guarding, rule, head}
use Rattle.soundness.specs.Plain.{Choice, into, BindingHolds, GuardHolds, AllHold}
use Rattle.soundness.specs.Tied.{plain_binding, plain_guard}
use Rattle.soundness.proofs.Worth.{Scene, ProperChoice, proper_into}
use Rattle.soundness.proofs.Evaluating.{Sound, expression_sound, Holds}
use Rattle.soundness.proofs.Binding.{Held, held_slots, Among, bind_sound}
use Rattle.soundness.proofs.Guarding.{Known, Fits, guards_keep}

-- what stands while a rule is applied: constants of 32 bits, and values of the first `count` arguments that their rows hold exactly
pub record Setting (w : Scene) (expressions count : ℕ) (arguments : List ℕ) : Type 0 where
  pub small : All (λ k. k < 2 ^ 32) w.constants
  pub few : expressions ≤ 2 ^ 32
  pub formed : (a : ℕ) → a < count → WellFormed (value_at arguments a)
  pub tidy : (a : ℕ) → a < count → Tidy (value_at arguments a)

-- the tables that a rule has filled: the firing's values lie in the first n rows of both, and what is recorded holds
pub record Fired (w : Scene) (n k : ℕ) (s : Frame) : Type 0 where
  pub domains : Held w n s.domains
  pub produced : Held w n s.produced
  pub known : Known w k s.refinements

module _ (w : Scene) (expressions count width : ℕ) (arguments : List ℕ) (t : Setting w expressions count arguments) where
  abbrev over : Input
  over = record { nodes = w.nodes; constants = w.constants; width = width }

  module _ (rules : List ℕ) (id : ℕ) (ch : Choice) (pch : ProperChoice ch) (in_bindings : All (BindingIn count (scope w.nodes expressions (slots_at rules id))) (bindings_at rules id))
      (in_guards : All (GuardIn (scope w.nodes expressions (slots_at rules id))) (guards_at rules id))
      (bind : AllHold (BindingHolds w.opaque (Among w arguments) w.slots) (into 0 ch) (map (plain_binding w.tree) (bindings_at rules id)))
      (guard : AllHold (GuardHolds w.opaque w.slots) (into 1 ch) (map (plain_guard w.tree) (guards_at rules id))) where
    -- a rule keeps every firing that satisfies it
    pub rule_sound : (s : Frame) → value_row * slots_at rules id ≤ length s.domains → value_row * slots_at rules id ≤ length s.produced →
        Ends (λ k u. Fired w (slots_at rules id) k u) (λ _ _. Unit {0}) (rule over rules id arguments s)
    unfolding rule guarding
    rule_sound s rd rp =
        ends_then {P = λ _ u. Held w (slots_at rules id) u.domains × (length u.produced ≡ length s.produced)} {Q = λ _ _. Unit {0}} (in_domains (bindings.bind over arguments (slots_at rules id) (bindings_at rules id))) _ s
        (ends_through _ _ _ _ {P = λ _ u. Held w (slots_at rules id) u.rows} {Q = λ _ _. Unit {0}} (bindings.bind over arguments (slots_at rules id) (bindings_at rules id)) s
        (bind_sound w expressions (slots_at rules id) width arguments count t.small t.formed t.tidy (bindings_at rules id) (into 0 ch) (proper_into 0 pch) in_bindings bind (slots s.meter s.domains) rd)
        (λ _ _ h. (h, refl)) (λ _ _ _. tt))
        (λ _ u h.
        ends_through _ _ _ _ {P = λ k v. Fired w (slots_at rules id) k v} {Q = λ _ _. Unit {0}} _ u
        (ends_through _ _ _ _ {P = λ k v. Fits w (slots_at rules id) k v} {Q = λ _ _. Unit {0}} (guards.guard over u.domains (slots_at rules id) (guards_at rules id)) u
        (guards_keep w t.small expressions (slots_at rules id) width t.few u.domains (guards_at rules id) (into 1 ch) (proper_into 1 pch) in_guards guard (local u.meter u.produced u.refinements) h.0 (omega (arith, h.1)))
        (λ k v f. record { domains = h.0; produced = f.held; known = f.known }) (λ _ _ _. tt))
        (λ k v f. f) (λ _ _ _. tt))
        (λ _ _ _. tt)

  -- what a head is worth in the firing lies in what `head` gives; one that is worth nothing asks for nothing
  pub head_sound : (n : ℕ) (produced : List ℕ) → Held w n produced → (known : List Refinement) → All (Holds w) known → (id : ℕ) → Scoped (scope w.nodes expressions n) id →
      Ensures (Sound w id) (head over produced known id)
  unfolding head
  head_sound n produced h known holds id sc = expression_sound w t.small expressions n width produced (held_slots h) known holds id sc
