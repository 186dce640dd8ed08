-- Live entries around a rule of a store that calls have reached: beside those before, the entries of the two tables that it filled where it
-- completes, and none where it is stopped.
use Prim.Native.Nat.{ℕ, ◌<◌, ◌^◌}
use native.Mathlib.Omega.{arith}
use mathlib.Core.Path.{◌≡◌, sym, ◌∙◌}
use mathlib.Core.List.{List, [], ◌∷◌}
use Rattle.integers.specs.Lists.{All}
use Rattle.limits.proofs.Ends.{Ends}
use Rattle.nodes.specs.declared.BinaryOp.{BinaryOp}
use Rattle.nodes.specs.declared.Expression.TheVariants.{Binary}
use Rattle.nodes.specs.Node.{expression_at}
use Rattle.rules.specs.declared.Binding.{Binding}
use Rattle.rules.specs.declared.Binding.TheVariants.{Positive, Assign, Range, Aggregate}
use Rattle.rules.specs.declared.Guard.{Guard}
use Rattle.rules.specs.declared.Guard.TheVariants.{Compare, Membership}
use Rattle.rules.specs.Read.{slots_at, bindings_at, guards_at}
use Rattle.producers.specs.Producer.{Scope, scope}
use Rattle.producers.proofs.Scoped.{Scoped, in_constant, in_slot, in_unary, in_absolute, in_binary, in_unknown, BindingIn, GuardIn}
use Rattle.slots.proofs.Live.{SlotIn, Formed}
use Rattle.evaluation.specs.Evaluation.{input}
use Rattle.affine.specs.Affine.{affine}
use Rattle.guards.proofs.Live.{AffineIn}
use Rattle.guards.proofs.Live as guards
use Rattle.guards.proofs.Narrowed.{affine_in}
use Rattle.transfer.specs.Transfer.{Frame, rule}
use Rattle.transfer.proofs.Live.{Filled, Lent, rule_ends}
use Rattle.input.specs.Input.{Tables}
use Rattle.input.proofs.Reached.{Reached}
use Rattle.soundness.proofs.Affine.{slot_inside}
use Rattle.soundness.proofs.Stored.{bindings_inside, guards_inside}

module _ (nodes : List ℕ) (expressions n : ℕ) where
  abbrev pub here : Scope
  here = scope nodes expressions n

  children : (id l r : ℕ) (op : BinaryOp) → Scoped here id → expression_at nodes id ≡ Binary op l r → Scoped here l × Scoped here r
  children id l r op (in_constant h f) e = let g = sym e ∙ f in let z : ◌≡◌ {A = ℕ} 0 1 = cc in absurd (omega arith)
  children id l r op (in_slot h f m) e = let g = sym e ∙ f in let z : ◌≡◌ {A = ℕ} 0 1 = cc in absurd (omega arith)
  children id l r op (in_unary h f p) e = let g = sym e ∙ f in let z : ◌≡◌ {A = ℕ} 0 1 = cc in absurd (omega arith)
  children id l r op (in_absolute h f p) e = let g = sym e ∙ f in let z : ◌≡◌ {A = ℕ} 0 1 = cc in absurd (omega arith)
  children id l r op (in_binary {l = a} {r = b} {op = q} h f p s) e =
      let g : Binary op l r ≡ Binary q a b = sym e ∙ f in
      let d : a ≡ l = cc in
      let c : b ≡ r = cc in
      (rw (← d) p, rw (← c) s)
  children id l r op (in_unknown h f) e = let g = sym e ∙ f in let z : ◌≡◌ {A = ℕ} 0 1 = cc in absurd (omega arith)

  -- the slot that an operand narrows exists
  shape_inside : (constants : List ℕ) (id : ℕ) → Scoped here id → AffineIn n (affine nodes constants id)
  shape_inside constants id h = affine_in nodes constants n (Scoped here) (λ i s sc e. slot_inside nodes expressions n i s e sc) children id h

  pub guard_inside : (constants : List ℕ) (width : ℕ) (gs : List Guard) → All (GuardIn here) gs → All (guards.GuardIn n (input nodes constants width)) gs
  guard_inside constants width [] h = tt
  guard_inside constants width (Compare l relation r ∷ gs) h = ((shape_inside constants l h.0.0, shape_inside constants r h.0.1), guard_inside constants width gs h.1)
  guard_inside constants width (Membership slot low high ∷ gs) h = (h.0.0, guard_inside constants width gs h.1)

  pub binding_inside : (count : ℕ) (bs : List Binding) → All (BindingIn count here) bs → All (SlotIn n) bs
  binding_inside count [] h = tt
  binding_inside count (Positive slot a ∷ bs) h = (h.0.0, binding_inside count bs h.1)
  binding_inside count (Assign slot e ∷ bs) h = (h.0.0, binding_inside count bs h.1)
  binding_inside count (Range slot low high ∷ bs) h = (h.0.0, binding_inside count bs h.1)
  binding_inside count (Aggregate slot f ∷ bs) h = (h.0, binding_inside count bs h.1)

pub stored_live : (t : Tables) → Reached t → All (λ c. c < 2 ^ 32) t.constants → (id : ℕ) → id < t.header.counts.rules → (arguments : List ℕ) → Formed arguments → (width e : ℕ) (s : Frame) →
    Lent (slots_at t.rules id) s → s.meter.entries ≡ e →
    Ends (λ _ u. Filled (slots_at t.rules id) e u) (λ _ u. u.meter.entries ≡ e) (rule (input t.nodes t.constants width) t.rules id arguments s)
stored_live t r cells id l arguments formed width e s lent q =
    let row = r.rules.at id l in
    rule_ends (input t.nodes t.constants width) cells t.rules id
    (guard_inside t.nodes t.header.counts.expressions (slots_at t.rules id) t.constants width (guards_at t.rules id) (guards_inside row)) arguments formed
    (binding_inside t.nodes t.header.counts.expressions (slots_at t.rules id) t.header.counts.positions (bindings_at t.rules id) (bindings_inside row)) e s lent q
