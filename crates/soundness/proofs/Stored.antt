-- The same for a rule of a store that calls have reached: whatever it names exists, so all that is asked of the arguments is that their rows hold
-- their values exactly and that lists are in order.
use Prim.Native.Nat.{ℕ, ◌*◌, ◌≤◌, ◌<◌, ◌^◌}
use native.Mathlib.Omega.{arith}
use mathlib.Core.Path.{◌≡◌, sym, subst}
use mathlib.Core.List.{List, [], ◌∷◌, map}
use mathlib.Core.Option.{Option}
use lib.ListN.{length}
use Rattle.integers.specs.Lists.{All}
use Rattle.limits.proofs.Monad.{Ensures}
use Rattle.limits.proofs.Ends.{Ends}
use Rattle.lattice.proofs.Tidiness.{Tidy}
use Rattle.sizes.specs.Sizes.{value_row}
use Rattle.rows.specs.Row.{value_at}
use Rattle.rows.specs.WellFormed.{WellFormed}
use Rattle.keys.specs.Key.{Key}
use Rattle.rules.specs.declared.Head.{Head}
use Rattle.rules.specs.Read.{slots_at, bindings_at, guards_at, heads_at}
use Rattle.producers.specs.Producer.{Scope, scope}
use Rattle.producers.proofs.Scoped.{BindingIn, GuardIn, HeadIn, RuleIn}
use Rattle.input.specs.Input.{Tables}
use Rattle.input.proofs.Reached.{Ruled, Reached}
use Rattle.refinements.specs.Refinement.{Refinement}
use Rattle.evaluation.specs.Evaluation.{input}
use Rattle.transfer.specs.Transfer.{Frame, rule, head}
use Rattle.soundness.specs.Plain.{Tree, Opaque, Choices, Fires}
use Rattle.soundness.specs.Tied.{plain_binding, plain_guard, Constants, Trees}
use Rattle.soundness.proofs.Worth.{Scene}
use Rattle.soundness.proofs.Evaluating.{Sound, Holds}
use Rattle.soundness.proofs.Binding.{Held, Among}
use Rattle.soundness.proofs.Firing.{Setting, Fired, rule_sound, head_sound}

all_map : {A B : Type 0} (P : B → Type 0) (f : A → B) (l : List A) → All (λ a. P (f a)) l → All P (map f l)
all_map P f [] h = tt
all_map P f (a ∷ l) h = (h.0, all_map P f l h.1)

-- ---- a rule's row: what it names exists

module _ {arguments expressions : ℕ} {nodes cells : List ℕ} {id : ℕ} (q : Ruled arguments expressions nodes cells id) where
  abbrev own : Scope
  own = scope nodes expressions (slots_at cells id)

  own_scope : scope nodes expressions q.rule.slots ≡ own
  own_scope = rw q.back.slots

  inside : RuleIn arguments own q.rule
  inside = subst (λ (s : Scope). RuleIn arguments s q.rule) own_scope q.inside

  pub bindings_inside : All (BindingIn arguments own) (bindings_at cells id)
  bindings_inside =
      subst (All (BindingIn arguments own)) (sym (q.back.all_bindings (omega (arith, q.whole.0, q.inside.short.bindings)))) inside.bindings

  pub guards_inside : All (GuardIn own) (guards_at cells id)
  guards_inside =
      subst (All (GuardIn own)) (sym (q.back.all_guards (omega (arith, q.whole.1.0, q.inside.short.guards)))) inside.guards

  pub heads_inside : All (HeadIn arguments own) (heads_at cells id)
  heads_inside = subst (All (HeadIn arguments own)) (sym (q.back.all_heads (omega (arith, q.whole.1.1, q.inside.short.heads)))) inside.heads

-- ---- a firing of it

-- a store, what its ids stand for, and the values of a firing
pub record Stage (t : Tables) : Type 0 where
  pub reached : Reached t
  pub cells : All (λ k. k < 2 ^ 32) t.constants
  pub opaque : Opaque
  pub key : ℕ → Option Key
  pub tree : ℕ → Tree
  pub keys : Constants key t.constants
  pub trees : Trees key tree t.nodes
  pub choices : Choices

abbrev pub scene_of : {t : Tables} → Stage t → Scene
scene_of {t} g = record {
  opaque = g.opaque;
  key = g.key;
  tree = g.tree;
  nodes = t.nodes;
  constants = t.constants;
  keys = g.keys;
  trees = g.trees;
  slots = g.choices.slots;
  proper = g.choices.proper_slots;
}

-- any values of the arguments: their rows hold them exactly, and their lists are in order
pub record Valued (t : Tables) (arguments : List ℕ) : Type 0 where
  pub formed : (a : ℕ) → a < t.header.counts.positions → WellFormed (value_at arguments a)
  pub tidy : (a : ℕ) → a < t.header.counts.positions → Tidy (value_at arguments a)

module _ {t : Tables} (g : Stage t) (arguments : List ℕ) (v : Valued t arguments) where
  setting : Setting (scene_of g) t.header.counts.expressions t.header.counts.positions arguments
  setting = record { small = g.cells; few = omega (arith, g.reached.counted.expressions); formed = v.formed; tidy = v.tidy }

  module _ (id : ℕ) (l : id < t.header.counts.rules) where
    row_of : Ruled t.header.counts.positions t.header.counts.expressions t.nodes t.rules id
    row_of = g.reached.rules.at id l

    -- where all bindings and guards hold for values in the arguments, the slots' values lie in what `rule` gives
    pub stored_rule : Fires g.opaque (Among (scene_of g) arguments) g.choices (map (plain_binding g.tree) (bindings_at t.rules id)) (map (plain_guard g.tree) (guards_at t.rules id)) →
        (width : ℕ) (s : Frame) → value_row * slots_at t.rules id ≤ length s.domains → value_row * slots_at t.rules id ≤ length s.produced →
        Ends (λ k u. Fired (scene_of g) (slots_at t.rules id) k u) (λ _ _. Unit {0}) (rule (input t.nodes t.constants width) t.rules id arguments s)
    stored_rule fires width s d p =
        rule_sound (scene_of g) t.header.counts.expressions t.header.counts.positions width arguments setting t.rules id g.choices.choice record { at = g.choices.proper_choice }
        (bindings_inside row_of) (guards_inside row_of) fires.bindings fires.guards s d p

    -- and what each of its heads is worth lies in what `head` gives; a head that is worth nothing asks for nothing, and the others are as they are
    pub stored_heads : (width : ℕ) (produced : List ℕ) → Held (scene_of g) (slots_at t.rules id) produced → (known : List Refinement) → All (Holds (scene_of g)) known →
        All (λ h. Ensures (Sound (scene_of g) h.value) (head (input t.nodes t.constants width) produced known h.value)) (heads_at t.rules id)
    stored_heads width produced held known holds = each (heads_at t.rules id) (heads_inside row_of)
      where
        each : (hs : List Head) → All (HeadIn t.header.counts.positions (scope t.nodes t.header.counts.expressions (slots_at t.rules id))) hs →
            All (λ h. Ensures (Sound (scene_of g) h.value) (head (input t.nodes t.constants width) produced known h.value)) hs
        each [] i = tt
        each (h ∷ hs) i =
            (head_sound (scene_of g) t.header.counts.expressions t.header.counts.positions width arguments setting (slots_at t.rules id) produced held known holds h.value i.0.1, each hs i.1)
